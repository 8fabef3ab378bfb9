-- The circuit of a test can be sealed.
use Rattle.std.proofs.Common.{◌≡◌, ◌≢◌, ◌<◌, ◌≤◌, ℕ, zero, suc, List, [], ◌∷◌, length, Option, Some, None, get_or, refl, ap, sym, ◌∙◌, arith, Bool}
use Rattle.std.specs.Prelude.{slice_get, All}
use Rattle.std.proofs.lemmas.Option.{slice_get_within}
use Rattle.std.proofs.lemmas.List.Elements.{All-cons, All-nil}
use Rattle.hc_net.specs.Circuit.{flops_of, memories_of}
use Rattle.hc_net.specs.Seal.{IsSealable, Within}
use Rattle.hc_net.specs.Valid.{HasSizes, PortHasSizes, RamHasSizes, port_name}
use Rattle.hc_net.specs.declared.net.Port.{Port}
use Rattle.hc_net.specs.declared.net.FlopName.{FlopName}
use Rattle.hc_net.specs.declared.node.Node.TheVariants.{Flop, Wire}
use Rattle.hc_tests.specs.Sample.{small}

fed : (k : ℕ) (name : FlopName) (init : Bool) → slice_get small.nodes k ≢ Some (Flop name init None)
fed zero name init e = cc
fed (suc zero) name init e = cc
fed (suc (suc zero)) name init e = cc
fed (suc (suc (suc k))) name init e = cc

driven : (k rank : ℕ) (from : Option ℕ) → slice_get small.nodes k ≡ Some (Wire rank from) → (d : ℕ) × (from ≡ Some d) × Within small.nodes rank d
driven zero rank from e = absurd cc
driven (suc zero) rank from e = absurd cc
driven (suc (suc zero)) rank from e = absurd cc
driven (suc (suc (suc k))) rank from e = absurd cc

-- there are no two elements in a list of one
one_alone : {X : Type 0} (xs : List X) (i j : ℕ) (g : X) → length xs ≤ 1 → i < j → slice_get xs j ≡ Some g → ⊥
one_alone xs i j g short lt there = let within = slice_get_within xs j g there in absurd (omega arith)

two_names : (a b : Port) → port_name a ≢ port_name b → (i j : ℕ) (p q : Port) → i < j → slice_get (a ∷ b ∷ []) i ≡ Some p → slice_get (a ∷ b ∷ []) j ≡ Some q → port_name p ≢ port_name q
two_names a b differ i zero p q lt first second same = absurd (omega arith)
two_names a b differ zero (suc zero) p q lt first second same =
    let x : a ≡ p = cc in
    let y : b ≡ q = cc in
    differ (ap port_name x ∙ same ∙ sym (ap port_name y))
two_names a b differ (suc i) (suc zero) p q lt first second same = absurd (omega arith)
two_names a b differ i (suc (suc j)) p q lt first second same = absurd cc

one_wide : HasSizes 1 []
one_wide = record { least = omega arith; most = omega arith; pinned = λ some. absurd (some refl) }

two_sizes : (a b : Port) → PortHasSizes a → PortHasSizes b → All PortHasSizes (a ∷ b ∷ [])
two_sizes a b x y = All-cons PortHasSizes a (b ∷ []) x (All-cons PortHasSizes b [] y (All-nil PortHasSizes))

one : length (flops_of small.nodes) ≤ 1
one = omega arith

none : length (memories_of small.nodes) ≤ 1
none = omega arith

pub small_sealable : IsSealable small
small_sealable = record {
  fed = fed;
  driven = driven;
  flop_names = λ i j f g lt first second. absurd (one_alone (flops_of small.nodes) i j g one lt second);
  ram_names = λ i j r q lt first second. absurd (one_alone (memories_of small.nodes) i j q none lt second);
  port_names = two_names _ _ (λ e. absurd (let first = ap (λ (l : List ℕ). get_or l 0 0) e in omega arith));
  sizes = two_sizes _ _ one_wide one_wide;
  ram_sizes = All-nil RamHasSizes;
}
