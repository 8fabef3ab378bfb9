-- Tokens have a tree or a first refusal, at most one of either and never both.
use Rattle.std.proofs.Common.{◌≡◌, ◌<◌, ◌≤◌, ◌⊎◌, ℕ, suc, List, [], ◌∷◌, ◌++◌, length, take, drop, Bool, true, false, Option, Some, None, refl, sym, ap, ◌∙◌, subst, arith, inl, inr, append_assoc, length-append}
use Rattle.std.specs.Prelude.{find, ◌-◌}
use Rattle.std.proofs.lemmas.List.{take-append-drop, take-take}
use Rattle.std.proofs.Math.Seq.{drop-append_seam}
use Rattle.hc_tree.specs.declared.place.Place.{Place}
use Rattle.hc_tree.specs.declared.refusal.Refusal.{Refusal}
use Rattle.hc_tree.specs.declared.refusal.Rule.TheVariants.{L3, S2, S3}
use Rattle.hc_tree.specs.declared.refusal.Detail.TheVariants.{Nothing, Name}
use Rattle.hc_lex.specs.declared.token.Token.{Token}
use Rattle.hc_lex.specs.declared.token.Token.TheVariants.{Word, Number, Text, Mark}
use Rattle.hc_tree.specs.declared.item.Tree.{Tree}
use Rattle.hc_lex.specs.declared.token.Placed.{Placed}
use Rattle.hc_grammar.specs.Table.{Reads, Stops, Spells, Begins, IsStop}
use Rattle.hc_grammar.specs.LastReadings.{stopped-by}
use Rattle.hc_grammar.specs.Form as f
use Rattle.hc_grammar.specs.Form.{Form, Gives}
use Rattle.hc_grammar.specs.Grammar.{grammar}
use Rattle.hc_grammar.specs.Nesting.{IsShallow, FirstDeep, Nested, nested, is_deep}
use Rattle.hc_grammar.specs.Cursor.{place_before}
use Rattle.hc_parse.specs.LeftOut.{HasNoLeftOut, FirstLeftOut, is_left_out}
use Rattle.hc_parse.proofs.Found.{none-found, none-passes}
use Rattle.hc_parse.proofs.Nestings.{not-shallow, shallow-none}
use Rattle.hc_parse.proofs.Ends.{ReadsWhere, program_ends}
use Rattle.hc_parse.specs.Parsed.{Parses, Unspelled, FirstRefusal, of_word, of_nesting, of_grammar, HasTree, HasFirst}

-- what begins a form at one place begins it at each one before
begins_front : (x : Form) (k n : ℕ) (ts : List Placed) → k ≤ n → Begins grammar x (take n ts) → Begins grammar x (take k ts)
begins_front x k n ts h b = (
  drop k (take n ts) ++ b.0,
  b.1,
  subst (λ (l : List Placed). Spells grammar x b.1 l)
      (ap (λ l. l ++ b.0) (sym (take-append-drop k (take n ts)) ∙ ap (λ l. l ++ drop k (take n ts)) (take-take k n ts h)) ∙ append_assoc (take k ts) (drop k (take n ts)) b.0)
      b.2,
)

not_before : (x : Form) (ts : List Placed) (k n : ℕ) → IsStop grammar x ts k → IsStop grammar x ts n → ¬ (k < n)
not_before x ts k n a b before = a.refused (omega (arith, before, b.within)) (begins_front x (suc k) n ts (omega (arith, before)) b.begins)

pub one_stop : (x : Form) (ts : List Placed) (k n : ℕ) → IsStop grammar x ts k → IsStop grammar x ts n → k ≡ n
one_stop x ts k n a b = let p = not_before x ts k n a b in let q = not_before x ts n k b a in omega (arith, p, q)

-- ---- at most one first refusal

found_same : (a b : Placed) → Some a ≡ Some b → a ≡ b
found_same a b h = cc

word_same : (a b : List ℕ) → Word a ≡ Word b → a ≡ b
word_same a b h = cc

pub same_word : (ts : List Placed) (a b : Refusal) → FirstLeftOut ts a → FirstLeftOut ts b → a ≡ b
same_word ts a b p q =
    let same = found_same (record { token = Word p.name; place = p.place }) (record { token = Word q.name; place = q.place }) (sym p.first ∙ q.first) in
    let at : p.place ≡ q.place = ap (λ (t : Placed). t.place) same in
    let name : p.name ≡ q.name = word_same p.name q.name (ap (λ (t : Placed). t.token) same) in
    p.refused ∙ rw (at, name) refl ∙ sym q.refused

pub same_depth : (ts : List Placed) (a b : Refusal) → FirstDeep ts a → FirstDeep ts b → a ≡ b
same_depth ts a b p q =
    let same : p.at ≡ q.at = cc in
    p.refused ∙ rw same refl ∙ sym q.refused

same_stop : (ts : List Placed) (end : Place) (a b : Refusal) → Unspelled ts end a → Unspelled ts end b → a ≡ b
same_stop ts end a b p q = p.refused ∙ rw (one_stop f.program ts p.k q.k p.stop q.stop) refl ∙ sym q.refused

pub no_word : (ts : List Placed) (a : Refusal) → HasNoLeftOut ts → FirstLeftOut ts a → ⊥
no_word ts a none p = let e = none-found (λ t. is_left_out t.token) ts none in cc

pub no_depth : (ts : List Placed) (a : Refusal) → IsShallow ts → FirstDeep ts a → ⊥
no_depth ts a none p = not-shallow ts p.at p.first none

pub one_refusal : (ts : List Placed) (end : Place) (a b : Refusal) → FirstRefusal ts end a → FirstRefusal ts end b → a ≡ b
one_refusal ts end a b (of_word p) (of_word q) = same_word ts a b p q
one_refusal ts end a b (of_word p) (of_nesting w q) = absurd (no_word ts a w p)
one_refusal ts end a b (of_word p) (of_grammar w n q) = absurd (no_word ts a w p)
one_refusal ts end a b (of_nesting w p) (of_word q) = absurd (no_word ts b w q)
one_refusal ts end a b (of_nesting w p) (of_nesting v q) = same_depth ts a b p q
one_refusal ts end a b (of_nesting w p) (of_grammar v n q) = absurd (no_depth ts a n p)
one_refusal ts end a b (of_grammar w n p) (of_word q) = absurd (no_word ts b w q)
one_refusal ts end a b (of_grammar w n p) (of_nesting v q) = absurd (no_depth ts b n q)
one_refusal ts end a b (of_grammar w n p) (of_grammar v m q) = same_stop ts end a b p q

-- tokens with a tree have no first refusal
pub tree_or_refusal : (ts : List Placed) (end : Place) (tree : Tree) (a : Refusal) → Parses ts tree → FirstRefusal ts end a → ⊥
tree_or_refusal ts end tree a t (of_word p) = no_word ts a t.words p
tree_or_refusal ts end tree a t (of_nesting w p) = no_depth ts a t.shallow p
tree_or_refusal ts end tree a t (of_grammar w n p) = p.no_tree tree t.spells

-- ---- the place of a refusal

what_is_behind : (taken at : List Placed) → drop (length (taken ++ at) - length at) (taken ++ at) ≡ at
what_is_behind taken at =
    let sum = length-append taken at in
    let same : length (taken ++ at) - length at ≡ length taken = omega (arith, sum) in
    ap (λ n. drop n (taken ++ at)) same ∙ drop-append_seam taken at

behind_taken : (taken at ts : List Placed) → ts ≡ taken ++ at → drop (length ts - length at) ts ≡ at
behind_taken taken at ts is = rw is (what_is_behind taken at)

pub unspelled : ((x : Form) (v : Gives x) (ts rest at : List Placed) → Reads grammar x ts v rest → Stops grammar x ts at → ⊥)
    → ((x : Form) (ts at : List Placed) → Stops grammar x ts at → IsStop grammar x ts (length ts - length at))
    → (ts at : List Placed) (end : Place) → Stops grammar f.program ts at → Unspelled ts end (record { rule = S2; place = place_before end at; detail = Nothing })
unspelled never where_it ts at end stops =
    let cut = stopped-by grammar stops in
    record {
      no_tree = λ tree spells. never f.program tree ts [] at spells stops;
      k = length ts - length at;
      stop = where_it f.program ts at stops;
      refused = ap (λ l. let r : Refusal = record { rule = S2; place = place_before end l; detail = Nothing } in r) (sym (behind_taken cut.taken at ts cut.is));
    }

-- ---- a tree or a first refusal

passes-one : {A : Type 0} (p : A → Bool) (x y : A) (xs : List A) (b : Bool) → p x ≡ b → find p (x ∷ xs) ≡ Some y → (find p xs ≡ Some y → p y ≡ true) → p y ≡ true
passes-one p x y xs true e h more = let s : Some x ≡ Some y = rw e at h in let same : x ≡ y = cc in subst (λ z. p z ≡ true) same e
passes-one p x y xs false e h more = more (rw e at h)

-- what is found passes
pub passes : {A : Type 0} (p : A → Bool) (xs : List A) (y : A) → find p xs ≡ Some y → p y ≡ true
passes p [] y h = absurd cc
passes p (x ∷ xs) y h = passes-one p x y xs (p x) refl h (passes p xs y)

pub first_word : (ts : List Placed) (end : Place) (t : Token) (place : Place) → find (λ u. is_left_out u.token) ts ≡ Some (record { token = t; place = place }) → is_left_out t ≡ true → HasFirst ts end
first_word ts end (Word name) place found is = record {
  refusal = record { rule = S3; place = place; detail = Name name };
  first = of_word (record { name = name; place = place; first = found; refused = refl });
}
first_word ts end (Number n) place found is = absurd cc
first_word ts end (Text text) place found is = absurd cc
first_word ts end (Mark mark) place found is = absurd cc

words_or_first : (ts : List Placed) (end : Place) (o : Option Placed) → find (λ u. is_left_out u.token) ts ≡ o → HasNoLeftOut ts ⊎ HasFirst ts end
words_or_first ts end None e = inl (none-passes (λ u. is_left_out u.token) ts e)
words_or_first ts end (Some t) e = inr (first_word ts end t.token t.place e (passes (λ u. is_left_out u.token) ts t e))

depth_or_first : (ts : List Placed) (end : Place) → HasNoLeftOut ts → (o : Option Nested) → find is_deep (nested ts) ≡ o → IsShallow ts ⊎ HasFirst ts end
depth_or_first ts end words None e = inl (shallow-none ts e)
depth_or_first ts end words (Some at) e = inr (record { refusal = record { rule = L3; place = at.token.place; detail = Nothing }; first = of_nesting words (record { at = at; first = e; refused = refl }) })

pub one_of_tree : ((x : Form) (v : Gives x) (ts rest at : List Placed) → Reads grammar x ts v rest → Stops grammar x ts at → ⊥)
    → ((x : Form) (ts at : List Placed) → Stops grammar x ts at → IsStop grammar x ts (length ts - length at))
    → ReadsWhere
    → ((x : Form) (ts : List Placed) → ((v : Gives x) × (rest : List Placed) × Reads grammar x ts v rest) ⊎ ((at : List Placed) × Stops grammar x ts at))
    → (ts : List Placed) (end : Place) → HasTree ts ⊎ HasFirst ts end
one_of_tree never where_it read one ts end = by_words (words_or_first ts end (find (λ u. is_left_out u.token) ts) refl)
  where
    by_form : HasNoLeftOut ts → IsShallow ts → ((v : Tree) × (rest : List Placed) × Reads grammar f.program ts v rest) ⊎ ((at : List Placed) × Stops grammar f.program ts at) → HasTree ts ⊎ HasFirst ts end
    by_form words shallow (inl (tree, rest, reads)) =
        inl (record { tree = tree; parses = record { words = words; shallow = shallow; spells = subst (Reads grammar f.program ts tree) (program_ends read ts rest tree reads) reads } })
    by_form words shallow (inr (at, stops)) =
        inr (record { refusal = record { rule = S2; place = place_before end at; detail = Nothing }; first = of_grammar words shallow (unspelled never where_it ts at end stops) })

    by_depth : HasNoLeftOut ts → IsShallow ts ⊎ HasFirst ts end → HasTree ts ⊎ HasFirst ts end
    by_depth words (inl shallow) = by_form words shallow (one f.program ts)
    by_depth words (inr first) = inr first

    by_words : HasNoLeftOut ts ⊎ HasFirst ts end → HasTree ts ⊎ HasFirst ts end
    by_words (inl words) = by_depth words (depth_or_first ts end words (find is_deep (nested ts)) refl)
    by_words (inr first) = inr first
