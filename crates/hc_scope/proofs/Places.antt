-- Where scopes declare names, one declaration after another.
use Rattle.std.proofs.Common.{◌≡◌, ℕ, zero, suc, ◌+◌, ◌<◌, ◌≤◌, Bool, true, false, cond, ◌||◌, if◌then◌else◌, List, [], ◌∷◌, ◌++◌, length, take, min, slice_get, Option, Some, None, refl, sym, ap, ◌∙◌, subst, arith, Bor}
use Rattle.std.specs.List.{AllByRecursion, IsDistinct}
use Rattle.std.specs.Map.{keys_of, lookup}
use Rattle.std.specs.Str.{bytes_eq}
use Rattle.std.proofs.lemmas.Cmp.{nat_list_eq_equiv}
use Rattle.std.proofs.lemmas.Map.{NonePasses, none_passes_from_lookup}
use Rattle.std.proofs.lemmas.Map.Keys.{IsDistinct-head, IsDistinct-tail}
use Rattle.std.proofs.lemmas.Slice.Eq.{bytes_eq-Decides}
use Rattle.std.specs.Prelude.{All, bit_or, ◌^◌, ◌*◌, ◌%◌}
use Rattle.std.proofs.lemmas.Nat.Bits.{bit_at_or, bit_at-lt, bit_at_set_same}
use Rattle.std.proofs.Common.{w64}
use Rattle.std.specs.Int.{bit_at}
use Rattle.std.proofs.lemmas.List.Elements.{All-nil, All-cons}
use Rattle.indexmap.specs.IndexMap.{IndexMap, insert_entry}
use Rattle.indexmap.proofs.CallerLemmas.{insert_entry-new}
use Rattle.hc_tree.specs.declared.name.Ident.{Ident}
use Rattle.hc_tree.specs.declared.expr.ExprTree.{ExprTree}
use Rattle.hc_scope.specs.Scope.{Scope, Meaning, an_argument, opened, declared, find, is_declared}
use Rattle.hc_scope.specs.Expression.{bound}
use Rattle.hc_scope.specs.Marks.{mark_of, HasMarks}
use Rattle.hc_scope.specs.Reading.{declared_of, declared_in, scope_in}
use Rattle.hc_scope.specs.Places.{Passes, Declares, IsBoundAt, IsBound}
use Rattle.hc_scope.specs.declared.scope.Declared.{Declared}

abbrev Entry : Type 0
Entry = Bor (List ℕ) × Declared

-- two keys of a table are equal where their bytes are
abbrev same : Bor (List ℕ) → Bor (List ℕ) → Bool
same a b = bytes_eq a.now b.now

turned : (xs ys : List ℕ) (b : Bool) → bytes_eq xs ys ≡ b → bytes_eq ys xs ≡ b
turned xs ys b e = nat_list_eq_equiv.symm ys xs ∙ e

-- ---- one declaration

pub passes-itself : (name : List ℕ) (around : Scope) → Passes name around around
passes-itself name around = record { found = refl; told = refl }

-- a declaration of another name
pub passes-declared : (name y : List ℕ) (m : Meaning) (around : Scope) → bytes_eq y name ≡ false → Passes name (declared y m around) around
passes-declared name y m around e = record {
  found = ap (λ b. if b then Some (record { meaning = m; scope = declared y m around }) else find name around) e;
  told = ap (λ b. b || is_declared name around) e;
}

-- one of this name
pub declares-declared : (name y : List ℕ) (m : Meaning) (around : Scope) → bytes_eq y name ≡ true → Declares name m (declared y m around) (declared y m around)
declares-declared name y m around e = record {
  found = ap (λ b. if b then Some (record { meaning = m; scope = declared y m around }) else find name around) e;
  told = ap (λ b. b || is_declared name around) e;
}

pub passes-passes : (name : List ℕ) (inner middle around : Scope) → Passes name inner middle → Passes name middle around → Passes name inner around
passes-passes name inner middle around p q = record { found = p.found ∙ q.found; told = p.told ∙ q.told }

pub declares-behind : (name : List ℕ) (m : Meaning) (from inner middle : Scope) → Passes name inner middle → Declares name m from middle → Declares name m from inner
declares-behind name m from inner middle p d = record { found = p.found ∙ d.found; told = p.told ∙ d.told }

-- ---- names of a table

keys_none : (name : List ℕ) (es : List Entry) → NonePasses (λ k. bytes_eq name k.now) es → AllByRecursion (λ k. bytes_eq name k.now ≡ false) (keys_of es)
keys_none name [] h = tt
keys_none name (e ∷ rest) h = (h.0, keys_none name rest h.1)

none_among : (name : List ℕ) (es : List Entry) (n : ℕ) (around : Scope) → AllByRecursion (λ k. bytes_eq name k.now ≡ false) (keys_of es) → Passes name (declared_in (take n es) around) around
none_among name [] zero around h = passes-itself name around
none_among name [] (suc n) around h = passes-itself name around
none_among name (e ∷ rest) zero around h = passes-itself name around
none_among name (e ∷ rest) (suc n) around h =
    passes-passes name _ _ around
    (none_among name rest n (declared e.0.now (declared_of e.1) around) h.1)
    (passes-declared name e.0.now (declared_of e.1) around (turned name e.0.now false h.0))

key_at : (P : Bor (List ℕ) → Type 0) (es : List Entry) (k : ℕ) (e : Entry) → AllByRecursion P (keys_of es) → slice_get es k ≡ Some e → P e.0
key_at P [] k e h at = cc
key_at P (x ∷ rest) zero e h at = let same_entry : x ≡ e = cc in subst (λ z. P z.0) same_entry h.0
key_at P (x ∷ rest) (suc k) e h at = key_at P rest k e h.1 at

-- a name that no key has
pub passes-absent : (name : List ℕ) (es : List Entry) (n : ℕ) (around : Scope) → lookup (λ k. bytes_eq name k.now) es ≡ None → Passes name (declared_in (take n es) around) around
passes-absent name es n around h = none_among name es n around (keys_none name es (none_passes_from_lookup (λ k. bytes_eq name k.now) es h))

-- a key other than the one with the name
other_key : (name : List ℕ) (x : Entry) (rest : List Entry) (k : ℕ) (e : Entry) → IsDistinct same (keys_of (x ∷ rest)) → slice_get rest k ≡ Some e → bytes_eq name e.0.now ≡ true → bytes_eq x.0.now name ≡ false
other_key name x rest k e distinct at is =
    let apart = key_at (λ y. same x.0 y ≡ false) rest k e (IsDistinct-head same x.0 (keys_of rest) distinct) at in
    ap (bytes_eq x.0.now) ((bytes_eq-Decides name e.0.now).0 is) ∙ apart

-- a name that a later key has
pub passes-later : (name : List ℕ) (es : List Entry) (k n : ℕ) (e : Entry) (around : Scope) → IsDistinct same (keys_of es) → slice_get es k ≡ Some e → bytes_eq name e.0.now ≡ true → n ≤ k → Passes name (declared_in (take n es) around) around
passes-later name [] k zero e around distinct at is le = passes-itself name around
passes-later name [] k (suc n) e around distinct at is le = passes-itself name around
passes-later name (x ∷ rest) k zero e around distinct at is le = passes-itself name around
passes-later name (x ∷ rest) zero (suc n) e around distinct at is le = absurd (omega arith)
passes-later name (x ∷ rest) (suc k) (suc n) e around distinct at is le =
    passes-passes name _ _ around
    (passes-later name rest k n e (declared x.0.now (declared_of x.1) around) (IsDistinct-tail same x.0 (keys_of rest) distinct) at is (omega arith))
    (passes-declared name x.0.now (declared_of x.1) around (other_key name x rest k e distinct at is))

-- a name that a key has
declares-at : (name : List ℕ) (es : List Entry) (k n : ℕ) (e : Entry) (around : Scope) → IsDistinct same (keys_of es) → slice_get es k ≡ Some e → bytes_eq name e.0.now ≡ true → k < n → Declares name (declared_of e.1) (declared_in (take (suc k) es) around) (declared_in (take n es) around)
declares-at name [] k n e around distinct at is lt = cc
declares-at name (x ∷ rest) k zero e around distinct at is lt = absurd (omega arith)
declares-at name (x ∷ rest) zero (suc n) e around distinct at is lt =
    let same_entry : e ≡ x = cc in
    let first : bytes_eq x.0.now name ≡ true = turned name x.0.now true (ap (λ z. bytes_eq name z.0.now) (sym same_entry) ∙ is) in
    let others : AllByRecursion (λ k. bytes_eq name k.now ≡ false) (keys_of rest)
    = subst (λ t. AllByRecursion (λ k. bytes_eq t k.now ≡ false) (keys_of rest)) ((bytes_eq-Decides x.0.now name).0 first) (IsDistinct-head same x.0 (keys_of rest) distinct) in
    subst (λ z. Declares name (declared_of z.1) (declared x.0.now (declared_of x.1) around) (declared_in (take n rest) (declared x.0.now (declared_of x.1) around))) (sym same_entry)
    (declares-behind name (declared_of x.1) _ _ (declared x.0.now (declared_of x.1) around) (none_among name rest n _ others) (declares-declared name x.0.now (declared_of x.1) around first))
declares-at name (x ∷ rest) (suc k) (suc n) e around distinct at is lt =
    declares-at name rest k n e (declared x.0.now (declared_of x.1) around) (IsDistinct-tail same x.0 (keys_of rest) distinct) at is (omega arith)

pub declares-among : (name : List ℕ) (es : List Entry) (k n : ℕ) (e : Entry) (around : Scope) → IsDistinct same (keys_of es) → slice_get es k ≡ Some e → bytes_eq name e.0.now ≡ true → k < n → Declares name (declared_of e.1) (declared_in (take (k + 1) es) around) (declared_in (take n es) around)
declares-among name es k n e around distinct at is lt =
    let on : suc k ≡ k + 1 = omega arith in
    subst (λ m. Declares name (declared_of e.1) (declared_in (take m es) around) (declared_in (take n es) around)) on (declares-at name es k n e around distinct at is lt)

-- ---- parameters

pub argument_at : (args : List ExprTree) (k : ℕ) → k < length args → (a : ExprTree) × (slice_get args k ≡ Some a)
argument_at [] k lt = absurd (omega arith)
argument_at (a ∷ args) zero lt = (a, refl)
argument_at (a ∷ args) (suc k) lt = argument_at args k (omega arith)

bound-suc : (call : Scope) (ps : List Ident) (args : List ExprTree) (k : ℕ) (p : Ident) (a : ExprTree) (around : Scope) → slice_get ps k ≡ Some p → slice_get args k ≡ Some a
    → bound call (take (suc k) ps) args around ≡ declared p.name (an_argument a call) (bound call (take k ps) args around)
bound-suc call [] args k p a around at-p at-a = cc
bound-suc call (x ∷ ps) [] k p a around at-p at-a = cc
bound-suc call (x ∷ ps) (y ∷ args) zero p a around at-p at-a =
    let same_p : x ≡ p = cc in
    let same_a : y ≡ a = cc in
    ap (λ z. declared z.name (an_argument y call) around) same_p ∙ ap (λ z. declared p.name (an_argument z call) around) same_a
bound-suc call (x ∷ ps) (y ∷ args) (suc k) p a around at-p at-a = bound-suc call ps args k p a (declared x.name (an_argument y call) around) at-p at-a

-- the next parameter, with its argument
pub bound-more : (call : Scope) (ps : List Ident) (args : List ExprTree) (k : ℕ) (p : Ident) (a : ExprTree) (around : Scope) → slice_get ps k ≡ Some p → slice_get args k ≡ Some a
    → bound call (take (k + 1) ps) args around ≡ declared p.name (an_argument a call) (bound call (take k ps) args around)
bound-more call ps args k p a around at-p at-a =
    let on : suc k ≡ k + 1 = omega arith in
    subst (λ m. bound call (take m ps) args around ≡ declared p.name (an_argument a call) (bound call (take k ps) args around)) on (bound-suc call ps args k p a around at-p at-a)

-- as many parameters as there are arguments
bound-enough : (call : Scope) (ps : List Ident) (args : List ExprTree) (n : ℕ) (around : Scope) → min (length ps) (length args) ≤ n → bound call (take n ps) args around ≡ bound call ps args around
bound-enough call [] args zero around h = refl
bound-enough call [] args (suc n) around h = refl
bound-enough call (x ∷ ps) [] zero around h = refl
bound-enough call (x ∷ ps) [] (suc n) around h = refl
bound-enough call (x ∷ ps) (y ∷ args) zero around h = absurd (omega arith)
bound-enough call (x ∷ ps) (y ∷ args) (suc n) around h = bound-enough call ps args n (declared x.name (an_argument y call) around) (omega arith)

-- before the first parameter
pub none-bound : (name : List ℕ) (ps : List Ident) (args : List ExprTree) → IsBoundAt name ps args 0 None
none-bound name [] args = λ call around. passes-itself name around
none-bound name (x ∷ ps) args = λ call around. passes-itself name around

-- behind a parameter with the name
pub bound-here : (name : List ℕ) (ps : List Ident) (args : List ExprTree) (k : ℕ) (p : Ident) → slice_get ps k ≡ Some p → bytes_eq p.name name ≡ true → k < length ps → k < length args → IsBoundAt name ps args (k + 1) (Some k)
bound-here name ps args k p at is in-ps in-args = (
  in-ps,
  in-args,
  λ call around a at-a.
      let step = bound-more call ps args k p a around at at-a in
      subst (λ s. Declares name (an_argument a call) s s) (sym step) (declares-declared name p.name (an_argument a call) (bound call (take k ps) args around) is),
)

-- behind one with another name
pub bound-past : (name : List ℕ) (ps : List Ident) (args : List ExprTree) (k : ℕ) (p : Ident) (last : Option ℕ) → slice_get ps k ≡ Some p → bytes_eq p.name name ≡ false → k < length args → IsBoundAt name ps args k last → IsBoundAt name ps args (k + 1) last
bound-past name ps args k p None at not in-args before = λ call around.
    let a = argument_at args k in-args in
    let step = bound-more call ps args k p a.0 around at a.1 in
    subst (λ s. Passes name s around) (sym step)
    (passes-passes name _ (bound call (take k ps) args around) around (passes-declared name p.name (an_argument a.0 call) _ not) (before call around))
bound-past name ps args k p (Some j) at not in-args before = (
  before.0,
  before.1,
  λ call around b at-b.
      let a = argument_at args k in-args in
      let step = bound-more call ps args k p a.0 around at a.1 in
      subst (λ s. Declares name (an_argument b call) (bound call (take (j + 1) ps) args around) s) (sym step)
      (declares-behind name (an_argument b call) _ _ (bound call (take k ps) args around) (passes-declared name p.name (an_argument a.0 call) _ not) (before.2 call around b at-b)),
)

-- all of them
pub bound-all : (name : List ℕ) (ps : List Ident) (args : List ExprTree) (n : ℕ) (last : Option ℕ) → min (length ps) (length args) ≤ n → IsBoundAt name ps args n last → IsBound name ps args last
bound-all name ps args n None enough h = λ call around. subst (λ s. Passes name s around) (bound-enough call ps args n around enough) (h call around)
bound-all name ps args n (Some k) enough h = (
  h.0,
  h.1,
  λ call around a at.
      subst (λ s. Declares name (an_argument a call) (bound call (take (k + 1) ps) args around) s) (bound-enough call ps args n around enough) (h.2 call around a at),
)

-- ---- one more name in a table

declared_in-push : (es : List Entry) (e : Entry) (around : Scope) → declared_in (es ++ e ∷ []) around ≡ declared e.0.now (declared_of e.1) (declared_in es around)
declared_in-push [] e around = refl
declared_in-push (x ∷ rest) e around = declared_in-push rest e (declared x.0.now (declared_of x.1) around)

first_false : (a b : Bool) → (a || b) ≡ false → a ≡ false
first_false true b h = h
first_false false b h = refl

second_false : (a b : Bool) → (a || b) ≡ false → b ≡ false
second_false true b h = cc
second_false false b h = h

-- a name that isn't declared is no key
no_key : (name : List ℕ) (es : List Entry) (around : Scope) → is_declared name (declared_in es around) ≡ false → (is_declared name around ≡ false) × (lookup (λ k. bytes_eq name k.now) es ≡ None)
no_key name [] around h = (h, refl)
no_key name (x ∷ rest) around h =
    let later = no_key name rest (declared x.0.now (declared_of x.1) around) h in
    let other : bytes_eq x.0.now name ≡ false = first_false (bytes_eq x.0.now name) (is_declared name around) later.0 in (
      second_false (bytes_eq x.0.now name) (is_declared name around) later.0,
      ap (λ b. cond b (Some x.1) (lookup (λ k. bytes_eq name k.now) rest)) (turned x.0.now name false other) ∙ later.1,
    )

-- a table that got a name which it didn't have
pub declared-added : {S : Type 0} (m : IndexMap (Bor (List ℕ)) Declared S) (old : List Entry) (name : Bor (List ℕ)) (what : Declared) (es : List Entry) (around : Scope) → m.entries ≡ old → es ≡ insert_entry same m.entries name what
    → is_declared name.now (scope_in old around) ≡ false → scope_in es around ≡ declared name.now (declared_of what) (scope_in old around)
declared-added m old name what es around is grown fresh =
    let here : is_declared name.now (scope_in m.entries around) ≡ false = ap (λ l. is_declared name.now (scope_in l around)) is ∙ fresh in
    let absent = (no_key name.now m.entries (opened around) here).1 in
    ap (λ l. declared_in l (opened around)) (grown ∙ insert_entry-new same m name what absent) ∙ declared_in-push m.entries (name, what) (opened around)
    ∙ ap (λ l. declared name.now (declared_of what) (scope_in l around)) is

-- ---- marks

keys_unmarked : (name : List ℕ) (marks : ℕ) (es : List Entry) → HasMarks marks es → bit_at marks (mark_of name) ≡ 0 → AllByRecursion (λ k. bytes_eq name k.now ≡ false) (keys_of es)
keys_unmarked name marks [] all none = tt
keys_unmarked name marks (e ∷ rest) all none =
    (other (bytes_eq name e.0.now) refl, keys_unmarked name marks rest (λ i d within. all (suc i) d (omega (arith, within))) none)
  where
    other : (b : Bool) → bytes_eq name e.0.now ≡ b → bytes_eq name e.0.now ≡ false
    other true is =
        let first : bit_at marks (mark_of e.0.now) ≡ 1 = all 0 e (omega arith) in
        let here : bit_at marks (mark_of name) ≡ 1 = ap (λ n. bit_at marks (mark_of n)) ((bytes_eq-Decides name e.0.now).0 is) ∙ first in
        absurd (omega (arith, here, none))
    other false is = is

-- a name whose bit isn't set
pub passes-unmarked : (name : List ℕ) (marks : ℕ) (es : List Entry) (n : ℕ) (around : Scope) → HasMarks marks es → bit_at marks (mark_of name) ≡ 0 → Passes name (declared_in (take n es) around) around
passes-unmarked name marks es n around all none = none_among name es n around (keys_unmarked name marks es all none)

-- the marks of a table that got a name
pub marked-added : (old new : ℕ) (es : List Entry) (name : Bor (List ℕ)) (what : Declared) → HasMarks old es → ((i : ℕ) → bit_at old i ≡ 1 → bit_at new i ≡ 1) → bit_at new (mark_of name.now) ≡ 1
    → HasMarks new (insert_entry same es name what)
marked-added old new [] name what all stay is = All-cons (λ (e : Entry). bit_at new (mark_of e.0.now) ≡ 1) (name, what) [] is (All-nil (λ (e : Entry). bit_at new (mark_of e.0.now) ≡ 1))
marked-added old new (e ∷ es) name what all stay is =
    added (same name e.0) (all 0 e (omega arith)) (λ i d within. all (suc i) d (omega (arith, within))) (marked-added old new es name what (λ i d within. all (suc i) d (omega (arith, within))) stay is)
  where
    added : (b : Bool) → bit_at old (mark_of e.0.now) ≡ 1 → HasMarks old es → HasMarks new (insert_entry same es name what) → HasMarks new (if b then (e.0, what) ∷ es else e ∷ insert_entry same es name what)
    added true first rest more = All-cons (λ (x : Entry). bit_at new (mark_of x.0.now) ≡ 1) (e.0, what) es (stay (mark_of e.0.now) first) (λ i d within. stay _ (rest i d within))
    added false first rest more = All-cons (λ (x : Entry). bit_at new (mark_of x.0.now) ≡ 1) e (insert_entry same es name what) (stay (mark_of e.0.now) first) more

pub only_first : (a : Bool) → (a || false) ≡ a
only_first true = refl
only_first false = refl

-- ---- a mark that is set

pub mark_stays : (marks more i : ℕ) → bit_at marks i ≡ 1 → bit_at (bit_or marks more) i ≡ 1
mark_stays marks more i is = let both = bit_at_or marks more i in let low = bit_at-lt more i in omega (arith, both, low, is)

pub mark_set : (marks k : ℕ) → k < 64 → bit_at (bit_or marks (1 * 2 ^ k % 2 ^ 64)) k ≡ 1
mark_set marks k within = bit_at_set_same w64 marks k within
