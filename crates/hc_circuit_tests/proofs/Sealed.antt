-- The circuits of the tests can be sealed.
use Rattle.std.proofs.Common.{◌≡◌, ◌≢◌, ◌<◌, ◌≤◌, ℕ, zero, suc, List, [], ◌∷◌, length, Option, Some, None, get_or, refl, ap, sym, ◌∙◌, arith, Bool}
use Rattle.std.specs.Prelude.{slice_get, All}
use Rattle.std.proofs.lemmas.Option.{slice_get_within}
use Rattle.std.proofs.lemmas.List.Elements.{All-cons, All-nil}
use Rattle.hc_net.specs.Circuit.{flops_of, memories_of, with_ram}
use Rattle.hc_net.specs.Seal.{IsSealable, Within}
use Rattle.hc_net.specs.Seal.Within.{input, wire, negation, conjunction}
use Rattle.hc_net.specs.Valid.{HasSizes, PortHasSizes, RamHasSizes, port_name}
use Rattle.hc_num.specs.Index.{index_width}
use Rattle.hc_circuit_tests.specs.Sealed.{all_gates, two_wires}
use Rattle.hc_circuit_tests.specs.Memory.{cell, first_words, memory, only_inputs, open_memory}
use Rattle.hc_net.specs.declared.net.Port.{Port}
use Rattle.hc_net.specs.declared.net.FlopName.{FlopName}
use Rattle.hc_net.specs.declared.node.Node.{Node}
use Rattle.hc_net.specs.declared.node.Node.TheVariants.{Input, Flop, Wire, Gate, Ram}

-- each flip-flop of a list is fed, and each placeholder driven
abbrev AreFed : List Node → Type 0
AreFed [] = Unit {0}
AreFed (Input p i ∷ nodes) = AreFed nodes
AreFed (Flop name init None ∷ nodes) = ⊥
AreFed (Flop name init (Some d) ∷ nodes) = AreFed nodes
AreFed (Wire rank from ∷ nodes) = AreFed nodes
AreFed (Gate g a b ∷ nodes) = AreFed nodes
AreFed (Ram rank first ram ∷ nodes) = AreFed nodes

fed_from : (nodes : List Node) → AreFed nodes → (k : ℕ) (name : FlopName) (init : Bool) → slice_get nodes k ≢ Some (Flop name init None)
fed_from [] h k name init e = cc
fed_from (Input p i ∷ nodes) h zero name init e = cc
fed_from (Input p i ∷ nodes) h (suc k) name init e = fed_from nodes h k name init e
fed_from (Flop n j None ∷ nodes) h k name init e = h
fed_from (Flop n j (Some d) ∷ nodes) h zero name init e = cc
fed_from (Flop n j (Some d) ∷ nodes) h (suc k) name init e = fed_from nodes h k name init e
fed_from (Wire rank from ∷ nodes) h zero name init e = cc
fed_from (Wire rank from ∷ nodes) h (suc k) name init e = fed_from nodes h k name init e
fed_from (Gate g a b ∷ nodes) h zero name init e = cc
fed_from (Gate g a b ∷ nodes) h (suc k) name init e = fed_from nodes h k name init e
fed_from (Ram rank first ram ∷ nodes) h zero name init e = cc
fed_from (Ram rank first ram ∷ nodes) h (suc k) name init e = fed_from nodes h k name init e

abbrev AreWithin : List Node → List Node → Type 0
AreWithin all [] = Unit {0}
AreWithin all (Input p i ∷ nodes) = AreWithin all nodes
AreWithin all (Flop name init d ∷ nodes) = AreWithin all nodes
AreWithin all (Wire rank None ∷ nodes) = ⊥
AreWithin all (Wire rank (Some d) ∷ nodes) = Within all rank d × AreWithin all nodes
AreWithin all (Gate g a b ∷ nodes) = AreWithin all nodes
AreWithin all (Ram rank first ram ∷ nodes) = AreWithin all nodes

driven_from : (all nodes : List Node) → AreWithin all nodes → (k rank : ℕ) (from : Option ℕ) → slice_get nodes k ≡ Some (Wire rank from) → (d : ℕ) × (from ≡ Some d) × Within all rank d
driven_from all [] h k rank from e = absurd cc
driven_from all (Input p i ∷ nodes) h zero rank from e = absurd cc
driven_from all (Input p i ∷ nodes) h (suc k) rank from e = driven_from all nodes h k rank from e
driven_from all (Flop name init d ∷ nodes) h zero rank from e = absurd cc
driven_from all (Flop name init d ∷ nodes) h (suc k) rank from e = driven_from all nodes h k rank from e
driven_from all (Wire r None ∷ nodes) h k rank from e = absurd h
driven_from all (Wire r (Some d) ∷ nodes) h zero rank from e =
    let same : r ≡ rank = cc in
    (d, cc, rw (sym same) h.0)
driven_from all (Wire r (Some d) ∷ nodes) h (suc k) rank from e = driven_from all nodes h.1 k rank from e
driven_from all (Gate g a b ∷ nodes) h zero rank from e = absurd cc
driven_from all (Gate g a b ∷ nodes) h (suc k) rank from e = driven_from all nodes h k rank from e
driven_from all (Ram r first ram ∷ nodes) h zero rank from e = absurd cc
driven_from all (Ram r first ram ∷ nodes) h (suc k) rank from e = driven_from all nodes h k rank from e

-- there are no two elements in a list of one
one_alone : {X : Type 0} (xs : List X) (i j : ℕ) (f g : X) → length xs ≤ 1 → i < j → slice_get xs j ≡ Some g → ⊥
one_alone xs i j f g short lt there = let within = slice_get_within xs j g there in absurd (omega arith)

-- names that differ, each from those behind it
abbrev IsOther : Port → List Port → Type 0
IsOther p [] = Unit {0}
IsOther p (q ∷ ports) = (port_name p ≢ port_name q) × IsOther p ports

abbrev AreOther : List Port → Type 0
AreOther [] = Unit {0}
AreOther (p ∷ ports) = IsOther p ports × AreOther ports

other_name : (a : Port) (ports : List Port) → IsOther a ports → (j : ℕ) (q : Port) → slice_get ports j ≡ Some q → port_name a ≢ port_name q
other_name a [] h j q there same = absurd cc
other_name a (b ∷ ports) h zero q there same = let here : b ≡ q = cc in h.0 (same ∙ sym (ap port_name here))
other_name a (b ∷ ports) h (suc j) q there same = other_name a ports h.1 j q there same

names_from : (ports : List Port) → AreOther ports → (i j : ℕ) (p q : Port) → i < j → slice_get ports i ≡ Some p → slice_get ports j ≡ Some q → port_name p ≢ port_name q
names_from [] h i j p q lt first second same = absurd cc
names_from (a ∷ ports) h i zero p q lt first second same = absurd (omega arith)
names_from (a ∷ ports) h zero (suc j) p q lt first second same = let here : a ≡ p = cc in other_name a ports h.0 j q second (ap port_name here ∙ same)
names_from (a ∷ ports) h (suc i) (suc j) p q lt first second same = names_from ports h.1 i j p q (omega arith) first second same

-- names of one letter
letters : (a b : ℕ) → a ≢ b → (a ∷ []) ≢ (b ∷ [])
letters a b differ same = differ (ap (λ (l : List ℕ). get_or l 0 0) same)

no_pins : (width : ℕ) → 1 ≤ width → width ≤ 128 → HasSizes width []
no_pins width least most = record { least = least; most = most; pinned = λ some. absurd (some refl) }

abbrev AreSized : List Port → Type 0
AreSized [] = Unit {0}
AreSized (p ∷ ports) = PortHasSizes p × AreSized ports

sizes_from : (ports : List Port) → AreSized ports → All PortHasSizes ports
sizes_from [] h = All-nil PortHasSizes
sizes_from (p ∷ ports) h = All-cons PortHasSizes p ports h.0 (sizes_from ports h.1)

one : 1 ≤ 1
one = omega arith

none : 0 ≤ 1
none = omega arith

pub all_gates_sealable : IsSealable all_gates
all_gates_sealable = record {
  fed = fed_from all_gates.nodes tt;
  driven = driven_from all_gates.nodes all_gates.nodes (conjunction 7 0 1 refl (input 0 0 0 refl) (input 1 0 1 refl), tt);
  flop_names = λ i j f g lt first second. absurd (one_alone (flops_of all_gates.nodes) i j f g one lt second);
  port_names = names_from all_gates.ports ((letters 97 121 (λ e. omega arith), tt), (tt, tt));
  ram_names = λ i j r s lt first second. absurd (one_alone (memories_of all_gates.nodes) i j r s none lt second);
  sizes = sizes_from all_gates.ports (no_pins 2 (omega arith) (omega arith), (no_pins 2 (omega arith) (omega arith), tt));
  ram_sizes = All-nil RamHasSizes;
}

pub two_wires_sealable : IsSealable two_wires
two_wires_sealable = record {
  fed = fed_from two_wires.nodes tt;
  driven = driven_from two_wires.nodes two_wires.nodes (negation 3 2 0 refl (wire 2 0 (Some 0) refl (omega arith)), (input 0 0 0 refl, tt));
  flop_names = λ i j f g lt first second. absurd (one_alone (flops_of two_wires.nodes) i j f g none lt second);
  port_names = names_from two_wires.ports ((letters 97 121 (λ e. omega arith), tt), (tt, tt));
  ram_names = λ i j r s lt first second. absurd (one_alone (memories_of two_wires.nodes) i j r s none lt second);
  sizes = sizes_from two_wires.ports (no_pins 1 (omega arith) (omega arith), (no_pins 1 (omega arith) (omega arith), tt));
  ram_sizes = All-nil RamHasSizes;
}

all_inputs : AreWithin memory.nodes memory.nodes
all_inputs = (input 0 0 0 refl, (input 1 0 1 refl, (input 2 1 0 refl, (input 3 2 0 refl, (input 4 2 1 refl, (input 5 2 2 refl, tt))))))

pub index_is : 2 ≡ index_width 3
unfolding index_width
index_is = refl

-- the RAM behind the inputs
pub with_memory : with_ram only_inputs 5 3 3 first_words 0 ≡ open_memory
unfolding index_width
with_memory = refl

cell_sizes : RamHasSizes cell
cell_sizes = record { least = omega arith; most = omega arith; some = omega arith; few = omega arith; addr = index_is; d = refl; init = refl }

pub memory_sealable : IsSealable memory
memory_sealable = record {
  fed = fed_from memory.nodes tt;
  driven = driven_from memory.nodes memory.nodes all_inputs;
  flop_names = λ i j f g lt first second. absurd (one_alone (flops_of memory.nodes) i j f g none lt second);
  port_names = names_from memory.ports (
    (letters 97 119 (λ e. omega arith), (letters 97 100 (λ e. omega arith), (letters 97 113 (λ e. omega arith), tt))),
    ((letters 119 100 (λ e. omega arith), (letters 119 113 (λ e. omega arith), tt)), ((letters 100 113 (λ e. omega arith), tt), (tt, tt))),
  );
  ram_names = λ i j r s lt first second. absurd (one_alone (memories_of memory.nodes) i j r s one lt second);
  sizes = sizes_from memory.ports (no_pins 2 (omega arith) (omega arith), (no_pins 1 (omega arith) (omega arith), (no_pins 3 (omega arith) (omega arith), (no_pins 3 (omega arith) (omega arith), tt))));
  ram_sizes = All-cons RamHasSizes cell [] cell_sizes (All-nil RamHasSizes);
}
