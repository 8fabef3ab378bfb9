use Rattle.std.proofs.Common.{◌≡◌, ℕ, List, Option, sym, subst, arith, length, ◌∙◌}
use Rattle.hc_net.specs.Place.{AreFirst}
use Rattle.hc_net.proofs.First.{first_are}
use Rattle.hc_net.proofs.Sealed.{sealed, written_back}
use Rattle.hc_net.proofs.seal.sealed.Goals as goal

pub cells-requires-clause-places : goal.cells-requires-clause-places
cells-requires-clause-places c = first_are c.as_slice-nodes.result.now c.as_mut_slice.result.now (subst (λ (l : List (Option ℕ)). AreFirst c.as_slice-nodes.result.now l) (sym c.as_mut_slice.ensures.value) c.in_ok-places.ensures.places)

pub from_raw-requires : goal.from_raw-requires
from_raw-requires c =
    let first = c.in_ok-places.ensures.places.size in
    let last = c.in_ok-cells.ensures.places.size in
    let size : length c.cells.new.places ≡ c.in_ok-places.places.len = omega arith in
    let one = c.as_slice-2.ensures.value ∙ written_back _ c.cells.new.places c.in_ok-places.places.items size in
    let two = c.as_slice-3.ensures.value ∙ written_back _ c.cells.new.places c.in_ok-places.places.items size in
    let three = c.as_slice-4.ensures.value ∙ written_back _ c.cells.new.places c.in_ok-places.places.items size in
    (sealed (record { clock = c.args.clock; ports = c.args.ports; nodes = c.args.nodes.now }) c.as_slice-nodes.result.now c.cells.new.places c.as_slice-2.result.now c.as_slice-3.result.now c.as_slice-4.result.now c.in_ok-cells.cells c.in_ok-cells-2.cells c.in_ok-ports.ports c.in_ok-flops.flops c.as_slice-nodes.ensures c.requires.built c.requires.sealable c.in_ok-cells.ensures.places c.in_ok-cells.ensures.all one two three c.in_ok-cells-2.ensures c.in_ok-flops.ensures c.in_ok-ports.ensures).valid

pub returns : goal.returns
returns c =
    let first = c.in_ok-places.ensures.places.size in
    let last = c.in_ok-cells.ensures.places.size in
    let size : length c.cells.new.places ≡ c.in_ok-places.places.len = omega arith in
    let one = c.as_slice-2.ensures.value ∙ written_back _ c.cells.new.places c.in_ok-places.places.items size in
    let two = c.as_slice-3.ensures.value ∙ written_back _ c.cells.new.places c.in_ok-places.places.items size in
    let three = c.as_slice-4.ensures.value ∙ written_back _ c.cells.new.places c.in_ok-places.places.items size in
    rw c.from_raw.ensures (sealed (record { clock = c.args.clock; ports = c.args.ports; nodes = c.args.nodes.now }) c.as_slice-nodes.result.now c.cells.new.places c.as_slice-2.result.now c.as_slice-3.result.now c.as_slice-4.result.now c.in_ok-cells.cells c.in_ok-cells-2.cells c.in_ok-ports.ports c.in_ok-flops.flops c.as_slice-nodes.ensures c.requires.built c.requires.sealable c.in_ok-cells.ensures.places c.in_ok-cells.ensures.all one two three c.in_ok-cells-2.ensures c.in_ok-flops.ensures c.in_ok-ports.ensures)
