-- Constants among the nets: they stay when gates are added, and a gate over them is one of the nets that are there.
use Rattle.std.proofs.Common.{◌≡◌, ◌<◌, ℕ, List, [], ◌∷◌, ◌++◌, length, Bool, true, false, not, ◌&&◌, ◌||◌, Some, None, Result, refl, ap, sym, ◌∙◌, subst, inl, inr, arith}
use Rattle.std.specs.Prelude.{IfOk}
use Rattle.std.proofs.lemmas.List.{get_or_append_left, get_or_past}
use Rattle.std.proofs.lemmas.Bool.{cases_lt}
use Rattle.std.proofs.lemmas.Result.{IfOk-weaker}
use Rattle.hc_net.specs.Run.{Trace}
use Rattle.hc_net.specs.Circuit.{Circuit, History, Does, node_at, constant_at}
use Rattle.hc_net.specs.Made.{Over, Adds, Always, Makes}
use Rattle.hc_net.specs.MadeLemmas.{Adds-none, Adds-most, Adds-always}
use Rattle.hc_net.specs.declared.nets.NoMemory.{NoMemory}
use Rattle.hc_net.specs.declared.node.Node.{Node}
use Rattle.hc_net.specs.declared.node.Node.TheVariants.{Input, Flop, Wire, Gate, Ram}
use Rattle.hc_net.specs.declared.gate.GateKind.TheVariants as kind
use Rattle.hc_token.proofs.Parts.{All-one}

-- ---- constants stay

pub constant_left : (old more : List Node) (k : ℕ) (b : Bool) → constant_at (node_at old k) ≡ Some b → constant_at (node_at (old ++ more) k) ≡ Some b
constant_left old more k b is = elim (cases_lt k (length old)) [
  | inl low ↦ ap constant_at (get_or_append_left old more _ k low) ∙ is
  | inr high ↦ let gone : node_at old k ≡ Wire 0 None = get_or_past old k _ high in let none : constant_at (node_at old k) ≡ None = ap constant_at gone in absurd cc
]

-- gates that are added leave a constant as it is
pub Adds-constant : {most : ℕ} {old new : Circuit} (k : ℕ) (b : Bool) → Adds most old new → constant_at (node_at old.nodes k) ≡ Some b → constant_at (node_at new.nodes k) ≡ Some b
Adds-constant {old} k b a is = subst (λ (l : List Node). constant_at (node_at l k) ≡ Some b) (sym a.nodes) (constant_left old.nodes a.gates k b is)

-- ---- what a constant holds

constant_does : (trace : Trace) (h : History) (k : ℕ) (n : Node) (b : Bool) → Some b ≡ constant_at n → Does trace h k n → (t : ℕ) → h t k ≡ b
constant_does trace h k (Input p i) b is does t = absurd cc
constant_does trace h k (Flop name init d) b is does t = absurd cc
constant_does trace h k (Wire rank from) b is does t = absurd cc
constant_does trace h k (Gate kind.Zero x y) b is does t = let same : b ≡ false = cc in does t ∙ sym same
constant_does trace h k (Gate kind.One x y) b is does t = let same : b ≡ true = cc in does t ∙ sym same
constant_does trace h k (Gate kind.Not x y) b is does t = absurd cc
constant_does trace h k (Gate kind.And x y) b is does t = absurd cc
constant_does trace h k (Gate kind.Or x y) b is does t = absurd cc
constant_does trace h k (Gate kind.Xor x y) b is does t = absurd cc
constant_does trace h k (Ram rank first ram) b is does t = absurd cc

-- a net whose gate gives this constant holds it in every clock
pub constant_holds : (c : Circuit) (k : ℕ) (b value : Bool) → Some b ≡ constant_at (node_at c.nodes k) → b ≡ value → Always c.nodes (λ v. v k ≡ value)
constant_holds c k b value is at trace h e t = constant_does trace h k (node_at c.nodes k) b is (e.each k) t ∙ at

-- ---- gates over constants

-- one of the nets in place of a gate, where net k is a constant
pub stands_for : (c : Circuit) (args : List ℕ) (net k : ℕ) (b value : Bool) {so : (ℕ → Bool) → Type 0} → net < length c.nodes → Over c.nodes args net → Some b ≡ constant_at (node_at c.nodes k) → b ≡ value
    → ((v : ℕ → Bool) → v k ≡ value → so v) → Makes 1 args c c (net ∷ []) so
stands_for c args net k b value there over is at follows = record {
  adds = Adds-most (omega arith) (Adds-none c);
  there = All-one (λ k. k < length c.nodes) net there;
  reach = All-one (Over c.nodes args) net over;
  value = λ trace h e t. follows (h t) (constant_holds c k b value is at trace h e t);
}

-- a constant in place of the negation of a constant
pub negated : (c new : Circuit) (x : ℕ) (b value : Bool) (result : Result ℕ NoMemory) → Some b ≡ constant_at (node_at c.nodes x) → b ≡ value
    → IfOk result (λ z. Makes 1 (x ∷ []) c new (z ∷ []) (λ v. v z ≡ not value))
    → IfOk result (λ z. Makes 1 (x ∷ []) c new (z ∷ []) (λ v. v z ≡ not (v x)))
negated c new x b value result is at ok =
    IfOk-weaker result _ _
    (λ z made. record {
      adds = made.adds;
      there = made.there;
      reach = made.reach;
      value = λ trace h e t. made.value trace h e t ∙ ap not (sym (Adds-always (λ v. v x ≡ value) made.adds (constant_holds c x b value is at) trace h e t));
    })
    ok

-- ---- bits

pub and_left_one : (a b : Bool) → a ≡ true → b ≡ (a && b)
and_left_one a b is = sym (ap (λ x. x && b) is)

pub and_left_zero : (a b : Bool) → a ≡ false → a ≡ (a && b)
and_left_zero a b is = is ∙ sym (ap (λ x. x && b) is)

pub and_right_one : (a b : Bool) → b ≡ true → a ≡ (a && b)
and_right_one true b is = sym is
and_right_one false b is = refl

pub and_right_zero : (a b : Bool) → b ≡ false → b ≡ (a && b)
and_right_zero true b is = refl
and_right_zero false b is = is

pub or_left_one : (a b : Bool) → a ≡ true → a ≡ (a || b)
or_left_one a b is = is ∙ sym (ap (λ x. x || b) is)

pub or_left_zero : (a b : Bool) → a ≡ false → b ≡ (a || b)
or_left_zero a b is = sym (ap (λ x. x || b) is)

pub or_right_one : (a b : Bool) → b ≡ true → b ≡ (a || b)
or_right_one true b is = is
or_right_one false b is = refl

pub or_right_zero : (a b : Bool) → b ≡ false → a ≡ (a || b)
or_right_zero true b is = refl
or_right_zero false b is = sym is
