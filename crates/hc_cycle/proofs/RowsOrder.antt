-- Worked rows of orders: two signals of which one depends on the other have one, and the same numbers the other way round
-- are none.
use Rattle.std.proofs.Common.{◌≡◌, ◌≢◌, ◌<◌, ◌-◌, ◌^◌, ◌%◌, ℕ, zero, suc, List, [], ◌∷◌, false, refl, sym, ap, ◌∙◌, subst, arith, lit<}
use Rattle.std.specs.Prelude.{AllPairs, All}
use Rattle.std.specs.List.{Contains}
use Rattle.hc_num.specs.Number.{Number}
use Rattle.hc_tree.specs.declared.place.Place.{Place}
use Rattle.hc_tree.specs.declared.refusal.Node.{Node}
use Rattle.hc_tree.specs.declared.refusal.Node.TheVariants.{Value}
use Rattle.hc_core.specs.Read.{expression, target, statement}
use Rattle.hc_core.specs.Depends.{Need, needs_of, Depends, IsOrder, place_of}
use Rattle.hc_core.specs.declared.expr.Expr.TheVariants as e
use Rattle.hc_core.specs.declared.stmt.Stmt.TheVariants as sv
use Rattle.hc_core.specs.declared.stmt.Target.TheVariants as tv
use Rattle.hc_core.specs.declared.object.Kind.TheVariants as kind
use Rattle.hc_core.specs.declared.object.Core.{Core}

abbrev here : Place
here = record { line = 1; column = 1 }

abbrev unset : Number
unset = record { width = 1; signed = false; bits = 0 }

-- signals s and t, and `s = t;`
abbrev straight : Core
straight = record {
  objects = record { name = 115 ∷ []; place = here; kind = kind.Signal 1 false unset } ∷ record { name = 116 ∷ []; place = here; kind = kind.Signal 1 false unset } ∷ [];
  main = sv.Assign here (tv.Signal 0) (e.Signal 1);
  clock = 99 ∷ [];
}

abbrev need : Need
need = record { node = Value 0; on = Value 1 ∷ [] }

needs_are : needs_of straight ≡ need ∷ []
unfolding statement target expression
needs_are = refl

one_of_one : {X : Type 0} (x y : X) → Contains (x ∷ []) y → x ≡ y
one_of_one x y (zero, low, is) = is
one_of_one x y (suc k, low, is) = absurd (omega arith)

-- s depends on t, and nothing else does
depends : Depends straight (Value 0) (Value 1)
unfolding statement target expression
depends = record { need = need; uses = (0, lit< tt, refl); node_is = refl; on_is = (0, lit< tt, refl) }

alone : (a b : Node) → Depends straight a b → (Value 0 ≡ a) × (Value 1 ≡ b)
alone a b d =
    let is : need ≡ d.need = one_of_one need d.need (subst (λ (l : List Need). Contains l d.need) needs_are d.uses) in
    (ap (λ (n : Need). n.node) is ∙ d.node_is, one_of_one (Value 1) b (subst (λ (l : List Node). Contains l b) (sym (ap (λ (n : Need). n.on) is)) d.on_is))

differ : Value 0 ≢ Value 1
differ e = let n : place_of (Value 0) ≡ place_of (Value 1) = ap place_of e in omega (arith, n)

two_differ : AllPairs ◌≢◌ (Value 0 ∷ Value 1 ∷ [])
two_differ zero zero d p q = absurd (omega arith)
two_differ zero (suc zero) d p q = differ
two_differ zero (suc (suc j)) d p q = absurd (omega arith)
two_differ (suc i) j d p q = absurd (omega arith)

abbrev ranks : List (Node × ℕ)
ranks = (Value 0, 3) ∷ (Value 1, 1) ∷ []

all_odd : All (λ (r : Node × ℕ). r.1 % 2 ≡ 1) ranks
all_odd zero d h = refl
all_odd (suc zero) d h = refl
all_odd (suc (suc k)) d h = absurd (omega arith)

all_below : All (λ (r : Node × ℕ). r.1 < 2 ^ 32 - 1) ranks
all_below zero d h = lit< tt
all_below (suc zero) d h = lit< tt
all_below (suc (suc k)) d h = absurd (omega arith)

first_rank : (x : ℕ) → Contains ranks (Value 0, x) → x ≡ 3
first_rank x (zero, low, is) = sym (ap (λ (p : Node × ℕ). p.1) is)
first_rank x (suc zero, low, is) = absurd (differ (sym (ap (λ (p : Node × ℕ). p.0) is)))
first_rank x (suc (suc k), low, is) = absurd (omega arith)

second_rank : (x : ℕ) → Contains ranks (Value 1, x) → x ≡ 1
second_rank x (zero, low, is) = absurd (differ (ap (λ (p : Node × ℕ). p.0) is))
second_rank x (suc zero, low, is) = sym (ap (λ (p : Node × ℕ). p.1) is)
second_rank x (suc (suc k), low, is) = absurd (omega arith)

is_order : IsOrder straight ranks
is_order = record {
  all = λ n h. h;
  no_other = λ n h. h;
  once = two_differ;
  odd = all_odd;
  below = all_below;
  above = λ a b x y p q d.
      let is = alone a b d in
      let high = first_rank x (subst (λ (n : Node). Contains ranks (n, x)) (sym is.0) p) in
      let low = second_rank y (subst (λ (n : Node). Contains ranks (n, y)) (sym is.1) q) in
      omega arith;
}

-- the numbers the other way round
not_order : IsOrder straight ((Value 0, 1) ∷ (Value 1, 3) ∷ []) → ⊥
not_order o = let bad = o.above (Value 0) (Value 1) 1 3 (0, lit< tt, refl) (1, lit< tt, refl) depends in omega arith
