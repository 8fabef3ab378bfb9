-- Parameters that differ, and what a call gives.
use Rattle.std.proofs.Common.{◌≡◌, ℕ, zero, suc, ◌+◌, ◌==◌, ◌≤◌, Bool, true, false, not, ◌||◌, if◌then◌else◌, List, [], ◌∷◌, ◌++◌, length, drop, slice_get, Some, Err, refl, sym, ap, ◌∙◌, arith, Bor, eq-eqb}
use Rattle.std.specs.List.{list_any}
use Rattle.std.specs.Str.{bytes_eq}
use Rattle.std.proofs.lemmas.Cmp.{nat_list_eq_equiv}
use Rattle.hc_tree.specs.declared.name.Ident.{Ident}
use Rattle.hc_tree.specs.declared.expr.ExprTree.{ExprTree}
use Rattle.hc_tree.specs.declared.refusal.Rule.TheVariants.{S5, S7}
use Rattle.hc_tree.specs.declared.refusal.Detail.TheVariants.{Name, Pair}
use Rattle.hc_tree.specs.declared.refusal.FrontErr.{FrontErr}
use Rattle.hc_tree.specs.declared.refusal.FrontErr.TheVariants.{Refused, NoMemory}
use Rattle.hc_scope.specs.Scope.{Scope, opened}
use Rattle.hc_scope.specs.Calls.{texts, IsNoted}
use Rattle.hc_scope.specs.Expansion.{Yields, Refuses, and_then, refuse, refuse_name, pure}
use Rattle.hc_scope.specs.Expression.{differ_from, bound, call_context}
use Rattle.hc_scope.specs.Parts.{Context}
use Rattle.hc_scope.specs.Reading.{Answers, Says}
use Rattle.hc_scope.specs.declared.state.State.{State}

pub any_texts : (name : List ℕ) (ks : List (Bor (List ℕ))) → list_any (bytes_eq name) (texts ks) ≡ list_any (λ k. bytes_eq name k.now) ks
any_texts name [] = refl
any_texts name (k ∷ ks) = ap (λ b. bytes_eq name k.now || b) (any_texts name ks)

pub texts-push : (ks : List (Bor (List ℕ))) (k : Bor (List ℕ)) → texts (ks ++ k ∷ []) ≡ texts ks ++ k.now ∷ []
texts-push [] k = refl
texts-push (x ∷ ks) k = ap (λ l. x.now ∷ l) (texts-push ks k)

drop-at : {X : Type 0} (xs : List X) (i : ℕ) (x : X) → slice_get xs i ≡ Some x → drop i xs ≡ x ∷ drop (suc i) xs
drop-at [] i x h = cc
drop-at (y ∷ xs) zero x h = let same : y ≡ x = cc in ap (λ z. z ∷ xs) same
drop-at (y ∷ xs) (suc i) x h = drop-at xs i x h

drop-next : {X : Type 0} (xs : List X) (i : ℕ) (x : X) → slice_get xs i ≡ Some x → drop i xs ≡ x ∷ drop (i + 1) xs
drop-next xs i x h = let on : suc i ≡ i + 1 = omega arith in drop-at xs i x h ∙ ap (λ n. x ∷ drop n xs) on

drop-all : {X : Type 0} (xs : List X) (i : ℕ) → length xs ≤ i → drop i xs ≡ []
drop-all [] zero h = refl
drop-all [] (suc i) h = refl
drop-all (x ∷ xs) zero h = absurd (omega arith)
drop-all (x ∷ xs) (suc i) h = drop-all xs i (omega arith)

or_false : (a : Bool) → (a || false) ≡ a
or_false true = refl
or_false false = refl

or_turned : (a b : Bool) → (a || b) ≡ (b || a)
or_turned true true = refl
or_turned true false = refl
or_turned false true = refl
or_turned false false = refl

or_moved : (a b c : Bool) → (a || (b || c)) ≡ ((a || b) || c)
or_moved true b c = refl
or_moved false b c = refl

any_push : (f : List ℕ → Bool) (xs : List (List ℕ)) (x : List ℕ) → list_any f (xs ++ x ∷ []) ≡ (f x || list_any f xs)
any_push f [] x = refl
any_push f (y ∷ xs) x = ap (λ b. f y || b) (any_push f xs x) ∙ or_moved (f y) (f x) (list_any f xs) ∙ ap (λ b. b || list_any f xs) (or_turned (f y) (f x)) ∙ sym (or_moved (f x) (f y) (list_any f xs))

-- some parameters, the names of those before them, and all parameters
pub record Differs (parameters : List Ident) (i : ℕ) (names : List (List ℕ)) : Type 0 where
  pub before : List Ident
  pub goes_on : differ_from [] parameters ≡ differ_from before (drop i parameters)
  pub told : (name : List ℕ) → list_any (λ y. bytes_eq y.name name) before ≡ list_any (bytes_eq name) names

pub differs-none : (parameters : List Ident) → Differs parameters 0 []
differs-none parameters = record { before = []; goes_on = refl; told = λ name. refl }

pub differs-more : (parameters : List Ident) (i : ℕ) (names more : List (List ℕ)) (x : Ident) → slice_get parameters i ≡ Some x → list_any (bytes_eq x.name) names ≡ false → more ≡ names ++ x.name ∷ []
    → Differs parameters i names → Differs parameters (i + 1) more
differs-more parameters i names more x at fresh grown d = record {
  before = x ∷ d.before;
  goes_on = d.goes_on ∙ ap (differ_from d.before) (drop-next parameters i x at)
      ∙ ap (λ b. if b then refuse_name S5 x else differ_from (x ∷ d.before) (drop (i + 1) parameters)) (d.told x.name ∙ fresh);
  told = λ name.
      ap (λ b. bytes_eq x.name name || b) (d.told name)
      ∙ ap (λ b. b || list_any (bytes_eq name) names) (nat_list_eq_equiv.symm x.name name)
      ∙ sym (ap (list_any (bytes_eq name)) grown ∙ any_push (bytes_eq name) names x.name);
}

pub differs-not : (parameters : List Ident) (i : ℕ) (names : List (List ℕ)) (x : Ident) → slice_get parameters i ≡ Some x → list_any (bytes_eq x.name) names ≡ true → Differs parameters i names
    → differ_from [] parameters ≡ refuse_name S5 x
differs-not parameters i names x at there d =
    d.goes_on ∙ ap (differ_from d.before) (drop-next parameters i x at)
    ∙ ap (λ b. if b then refuse_name S5 x else differ_from (x ∷ d.before) (drop (i + 1) parameters)) (d.told x.name ∙ there)

pub differs-all : (parameters : List Ident) (i : ℕ) (names : List (List ℕ)) → length parameters ≤ i → Differs parameters i names → differ_from [] parameters ≡ pure tt
differs-all parameters i names all d = d.goes_on ∙ ap (differ_from d.before) (drop-all parameters i all)

-- ---- one parameter more

was_false : (a b : Bool) → a ≡ not b → a ≡ true → b ≡ false
was_false a true e h = cc
was_false a false e h = refl

was_true : (a b : Bool) → a ≡ not b → a ≡ false → b ≡ true
was_true a true e h = refl
was_true a false e h = cc

told_of : (x : Ident) (old : List (Bor (List ℕ))) (v : Bor (List ℕ)) → v.now ≡ x.name → list_any (bytes_eq x.name) (texts old) ≡ list_any (λ k. bytes_eq v.now k.now) old
told_of x old v named = ap (λ n. list_any (bytes_eq n) (texts old)) (sym named) ∙ any_texts v.now old

pub noted-new : (x : Ident) (old new : List (Bor (List ℕ))) (v : Bor (List ℕ)) (added : Bool) → v.now ≡ x.name → added ≡ not (list_any (λ k. bytes_eq v.now k.now) old)
    → new ≡ (if list_any (λ k. bytes_eq v.now k.now) old then old else old ++ v ∷ []) → added ≡ true → (list_any (bytes_eq x.name) (texts old) ≡ false) × (texts new ≡ texts old ++ x.name ∷ [])
noted-new x old new v added named told grown is =
    let fresh = was_false added (list_any (λ k. bytes_eq v.now k.now) old) told is in (
      told_of x old v named ∙ fresh,
      ap texts (grown ∙ ap (λ b. if b then old else old ++ v ∷ []) fresh) ∙ texts-push old v ∙ ap (λ n. texts old ++ n ∷ []) named,
    )

pub noted-again : (x : Ident) (old new : List (Bor (List ℕ))) (v : Bor (List ℕ)) (added : Bool) (e : FrontErr) → v.now ≡ x.name → added ≡ not (list_any (λ k. bytes_eq v.now k.now) old) → added ≡ false
    → Says (record { rule = S5; place = x.place; detail = Name x.name }) e → IsNoted x old new (Err e)
noted-again x old new v added (Refused r) named told is says = (told_of x old v named ∙ was_true added (list_any (λ k. bytes_eq v.now k.now) old) told is, says)
noted-again x old new v added NoMemory named told is says = tt

pub differs-err : (parameters : List Ident) (i : ℕ) (old new : List (Bor (List ℕ))) (x : Ident) (e : FrontErr) (s : State) → slice_get parameters i ≡ Some x → IsNoted x old new (Err e) → Differs parameters i (texts old)
    → Answers {A = Unit {0}} {B = Unit {0}} (λ u. u) (differ_from [] parameters s) (Err e) s
differs-err parameters i old new x (Refused r) s at noted d = ap (λ f. f s) (differs-not parameters i (texts old) x at noted.0 d) ∙ ap Refuses (sym noted.1)
differs-err parameters i old new x NoMemory s at noted d = tt

-- ---- calls

module _ (c : Context) (x : Ident) (parameters : List Ident) (around : Scope) (arguments : List ExprTree) (s : State) where
  pub call-given : differ_from [] parameters s ≡ Yields tt s → length arguments ≡ length parameters
      → call_context c x parameters around arguments s ≡ Yields (record { scope = bound c.scope parameters arguments (opened around); calls = c.calls + 1 }) s
  unfolding call_context
  call-given differs same =
      ap (λ o. and_then o (λ _ t. and_then ((if not (length arguments == length parameters) then refuse S7 x.place (Pair (length arguments) (length parameters)) else pure tt) t) (λ _ u. Yields (record { scope = bound c.scope parameters arguments (opened around); calls = c.calls + 1 }) u))) differs
      ∙ ap (λ b. and_then ((if not b then refuse S7 x.place (Pair (length arguments) (length parameters)) else pure tt) s) (λ _ u. Yields (record { scope = bound c.scope parameters arguments (opened around); calls = c.calls + 1 }) u)) (eq-eqb (length arguments) (length parameters) same)

  pub call-wrong : differ_from [] parameters s ≡ Yields tt s → (length arguments == length parameters) ≡ false
      → call_context c x parameters around arguments s ≡ Refuses (record { rule = S7; place = x.place; detail = Pair (length arguments) (length parameters) })
  unfolding call_context
  call-wrong differs other =
      ap (λ o. and_then o (λ _ t. and_then ((if not (length arguments == length parameters) then refuse S7 x.place (Pair (length arguments) (length parameters)) else pure tt) t) (λ _ u. Yields (record { scope = bound c.scope parameters arguments (opened around); calls = c.calls + 1 }) u))) differs
      ∙ ap (λ b. and_then ((if not b then refuse S7 x.place (Pair (length arguments) (length parameters)) else pure tt) s) (λ _ u. Yields (record { scope = bound c.scope parameters arguments (opened around); calls = c.calls + 1 }) u)) other

  pub call-refused : {A : Type 0} (read : A → Context) (e : FrontErr) → Answers {A = Unit {0}} {B = Unit {0}} (λ u. u) (differ_from [] parameters s) (Err e) s
      → Answers read (call_context c x parameters around arguments s) (Err e) s
  unfolding call_context
  call-refused read (Refused r) h =
      ap (λ o. and_then o (λ _ t. and_then ((if not (length arguments == length parameters) then refuse S7 x.place (Pair (length arguments) (length parameters)) else pure tt) t) (λ _ u. Yields (record { scope = bound c.scope parameters arguments (opened around); calls = c.calls + 1 }) u))) h
  call-refused read NoMemory h = tt
