-- Input bits and flip-flops have the first places, and what `sealed` asks of its parts.
use Rattle.std.proofs.Common.{◌≡◌, ◌<◌, ℕ, ◌+◌, List, [], ◌∷◌, length, take, Option, Some, None, refl, ap, sym, ◌∙◌, subst, inl, inr, arith}
use Rattle.std.specs.Prelude.{IsSome}
use Rattle.std.proofs.lemmas.List.{get_or_past}
use Rattle.std.proofs.lemmas.Bool.{cases_lt}
use Rattle.hc_net.specs.Circuit.{node_at, input_bits_of, flops_of}
use Rattle.hc_net.specs.Place.{place_at, base_of, first_place, AreFirst, IsPlace, ArePlaces}
use Rattle.hc_net.specs.declared.node.Node.{Node}
use Rattle.hc_net.specs.declared.node.Node.TheVariants.{Input, Flop, Wire, Gate, Ram}
use Rattle.hc_net.proofs.Counts.{inputs_more, flops_more, inputs_front, flops_front}
use Rattle.hc_net.proofs.Places.{gates_in, rams_in, nets_in, over_none}

-- one node's first place
first_below : (nodes : List Node) (k p : ℕ) (n : Node) → k < length nodes → node_at nodes k ≡ n → first_place nodes k n ≡ Some p → p < base_of nodes + 0
first_below nodes k p (Input q i) within is e =
    let at : length (input_bits_of (take k nodes)) ≡ p = cc in
    let one = ap (λ (m : Node). length (input_bits_of (m ∷ []))) is in
    omega (arith, inputs_more nodes k within, inputs_front nodes (k + 1))
first_below nodes k p (Flop name init d) within is e =
    let at : length (input_bits_of nodes) + length (flops_of (take k nodes)) ≡ p = cc in
    let one = ap (λ (m : Node). length (flops_of (m ∷ []))) is in
    omega (arith, flops_more nodes k within, flops_front nodes (k + 1))
first_below nodes k p (Wire rank from) within is e = absurd cc
first_below nodes k p (Gate g a b) within is e = absurd cc
first_below nodes k p (Ram rank first r) within is e = absurd cc

first_is : (nodes : List Node) (places : List (Option ℕ)) (k p : ℕ) (n : Node) → first_place nodes k n ≡ Some p → IsPlace nodes places [] k p n
first_is nodes places k p (Input q i) e = cc
first_is nodes places k p (Flop name init d) e = cc
first_is nodes places k p (Wire rank from) e = absurd cc
first_is nodes places k p (Gate g a b) e = absurd cc
first_is nodes places k p (Ram rank first r) e = absurd cc

first_no_cell : (nodes : List Node) (k p : ℕ) (n : Node) → first_place nodes k n ≡ Some p → (gates_in n ≡ 0) × (rams_in n ≡ 0) × (nets_in n ≡ 0)
first_no_cell nodes k p (Input q i) e = (refl, refl, refl)
first_no_cell nodes k p (Flop name init d) e = (refl, refl, refl)
first_no_cell nodes k p (Wire rank from) e = (refl, refl, refl)
first_no_cell nodes k p (Gate g a b) e = absurd cc
first_no_cell nodes k p (Ram rank first r) e = absurd cc

pub first_are : (nodes : List Node) (places : List (Option ℕ)) → AreFirst nodes places → ArePlaces nodes places []
first_are nodes places f =
    let size = f.size in
    let inside : (k p : ℕ) → place_at places k ≡ Some p → k < length nodes = λ k p there. elim (cases_lt k (length nodes)) [
      | inl low ↦ low
      | inr high ↦ absurd (let e = get_or_past places k None (omega arith) in cc)
    ] in
    let is : (k p : ℕ) → place_at places k ≡ Some p → first_place nodes k (node_at nodes k) ≡ Some p = λ k p there. sym (f.each k (inside k p there)) ∙ there in
    record {
      size = f.size;
      below = λ k p there. first_below nodes k p (node_at nodes k) (inside k p there) refl (is k p there);
      each = λ k p there. first_is nodes places k p (node_at nodes k) (is k p there);
      first = λ k within some. subst (λ (o : Option ℕ). IsSome o) (sym (f.each k within)) some;
      count = sym (over_none gates_in nodes places (λ k p there. (first_no_cell nodes k p (node_at nodes k) (is k p there)).0));
      rams = sym (over_none rams_in nodes places (λ k p there. (first_no_cell nodes k p (node_at nodes k) (is k p there)).1));
      nets = sym (over_none nets_in nodes places (λ k p there. (first_no_cell nodes k p (node_at nodes k) (is k p there)).2));
      earlier = λ j c there. absurd cc;
      from = record { sources = []; size = refl; each = λ i x r source ram. absurd cc; apart = λ i j x y low one two. absurd cc };
    }
