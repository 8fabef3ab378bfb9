-- What words say, entry by entry.
use Rattle.std.proofs.Common.{◌≡◌, ◌<◌, ◌+◌, ◌++◌, ℕ, Bool, true, false, List, [], ◌∷◌, Option, Some, None, length, map, get_or, take, drop, drop-cons, suc, add-one, subst, refl, sym, ◌∙◌, ap, append_assoc, arith, length-append}
use Rattle.std.specs.Str.{bytes_eq}
use Rattle.std.proofs.lemmas.List.{append-nil, take-append-drop, map-append}
use Rattle.std.proofs.Math.Seq.{take-suc}
use Rattle.hc_words.specs.Words.{says, Entry, Plain, Given, behind, plains, given, if_named, picked, listed}
use Rattle.hc_words.specs.Said.{after}

pub after_none : (said : Option (List Entry)) → said ≡ after [] said
after_none None = refl
after_none (Some entries) = refl

pub after_more : (entries : List Entry) (e : Entry) (said : Option (List Entry)) → after entries (behind e said) ≡ after (entries ++ e ∷ []) said
after_more entries e None = refl
after_more entries e (Some others) = ap Some (sym (append_assoc entries (e ∷ []) others))

plains_append : (a b : List Entry) → plains (a ++ b) ≡ plains a ++ plains b
plains_append [] b = refl
plains_append (Plain word ∷ a) b = ap (λ t. word ∷ t) (plains_append a b)
plains_append (Given name value ∷ a) b = plains_append a b

if_named_append : (t : Bool) (value : List ℕ) (a b : List (List ℕ)) → if_named t value (a ++ b) ≡ if_named t value a ++ b
if_named_append true value a b = refl
if_named_append false value a b = refl

given_append : (name : List ℕ) (a b : List Entry) → given name (a ++ b) ≡ given name a ++ given name b
given_append name [] b = refl
given_append name (Plain word ∷ a) b = given_append name a b
given_append name (Given other value ∷ a) b =
    ap (if_named (bytes_eq other name) value) (given_append name a b) ∙ if_named_append (bytes_eq other name) value (given name a) (given name b)

pub picked_append : (name : Option (List ℕ)) (a b : List Entry) → picked name (a ++ b) ≡ picked name a ++ picked name b
picked_append None a b = plains_append a b
picked_append (Some name) a b = given_append name a b

picked_none : (name : Option (List ℕ)) → picked name [] ≡ []
picked_none None = refl
picked_none (Some name) = refl

two_of : (name : Option (List ℕ)) (a : List Entry) (e : Entry) (others : List Entry) (one other : List ℕ) → one ∷ [] ≡ picked name a → picked name (e ∷ others) ≡ (other ∷ []) ++ picked name others
    → 1 < length (picked name (a ++ e ∷ others))
two_of name a e others one other first second =
    omega (arith, ap length (picked_append name a (e ∷ others)), length-append (picked name a) (picked name (e ∷ others)), ap length first, ap length second)

-- nothing is left of a list without elements
pub nothing_left : {A B : Type 0} (f : A → B) (list : List A) → length list ≡ 0 → map f list ≡ []
nothing_left f [] none = refl
nothing_left f (x ∷ list) none = absurd (omega arith)

-- all words were read
pub said_all : (first second : List ℕ) (entries : List Entry) (all : Option (List Entry)) (rest : List (List ℕ)) (wait : Option (List ℕ)) → all ≡ after entries (says first second wait rest)
    → rest ≡ [] → wait ≡ None → all ≡ Some entries
unfolding says
said_all first second entries all rest wait is end none =
    is ∙ ap (λ t. after entries (says first second wait t)) end ∙ ap (λ t. after entries (says first second t [])) none ∙ ap Some (append-nil entries)

-- an option waits for a value that doesn't come
pub waits_still : (first second name : List ℕ) (entries : List Entry) (all : Option (List Entry)) (rest : List (List ℕ)) (wait : Option (List ℕ)) → all ≡ after entries (says first second wait rest)
    → rest ≡ [] → wait ≡ Some name → all ≡ None
unfolding says
waits_still first second name entries all rest wait is end some =
    is ∙ ap (λ t. after entries (says first second wait t)) end ∙ ap (λ t. after entries (says first second t [])) some

module _ {A : Type 0} (f : A → Entry) (name : Option (List ℕ)) (xs : List A) (i : ℕ) (d : A) (h : i < length xs) where
  split_at : map f xs ≡ map f (take i xs) ++ f (get_or xs i d) ∷ map f (drop (suc i) xs)
  split_at =
      ap (map f) (sym (take-append-drop i xs)) ∙ map-append f (take i xs) (drop i xs) ∙ ap (λ t. map f (take i xs) ++ map f t) (drop-cons xs i d h)

  pub two_at : (one other : List ℕ) → one ∷ [] ≡ picked name (map f (take i xs))
      → ((others : List Entry) → picked name (f (get_or xs i d) ∷ others) ≡ (other ∷ []) ++ picked name others) → 1 < length (picked name (map f xs))
  two_at one other first here =
      subst (λ t. 1 < length (picked name t)) (sym split_at) (two_of name (map f (take i xs)) (f (get_or xs i d)) (map f (drop (suc i) xs)) one other first (here (map f (drop (suc i) xs))))

  pub pick_more : (found here new : List (List ℕ)) → found ≡ picked name (map f (take i xs))
      → ((others : List Entry) → picked name (f (get_or xs i d) ∷ others) ≡ here ++ picked name others) → new ≡ found ++ here → new ≡ picked name (map f (take (i + 1) xs))
  pick_more found here new before now is =
      let one : i + 1 ≡ suc i = omega arith in
      is ∙ ap (λ t. t ++ here) before ∙ ap (λ t. picked name (map f (take i xs)) ++ t) (sym (append-nil here) ∙ ap (λ t. here ++ t) (sym (picked_none name)) ∙ sym (now []))
      ∙ sym (picked_append name (map f (take i xs)) (f (get_or xs i d) ∷ []))
      ∙ ap (picked name) (sym (map-append f (take i xs) (get_or xs i d ∷ [])))
      ∙ ap (λ t. picked name (map f t)) (sym (take-suc xs i d h))
      ∙ ap (λ n. picked name (map f (take n xs))) (sym one)
