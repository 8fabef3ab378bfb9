-- Each stage from those before it, and then the netlist.
use Rattle.hc_net.specs.Seal.{Seals}
use Rattle.hc_build.specs.Implements.{IsNetlistOf}
use Rattle.hc_build.proofs.Making.{netlist_of, if_ok}
use Rattle.hc_build.proofs.StructureCalls.{can_control, can_make_sources, sliced_uses}
use Rattle.hc_build.proofs.StructureSealed.{sealable}
use Rattle.hc_build.proofs.StructureStages.{can_connect}
use Rattle.hc_build.proofs.netlist.build.Goals as goal

pub control-requires : goal.control-requires
control-requires c = can_control c.args.core.now c.place_objects.new.b _ c.requires.core c.in_ok-at.ensures

pub sources-requires-clause-places : goal.sources-requires-clause-places
sources-requires-clause-places c =
    let made = sliced_uses c.as_slice.ensures.value c.in_ok-uses.ensures in
    let can = can_make_sources c.args.core.now c.place_objects.new.b c.control.new.b _ _ c.requires.core c.in_ok-at.ensures made in
    can.places

pub sources-requires-clause-uses : goal.sources-requires-clause-uses
sources-requires-clause-uses c =
    let made = sliced_uses c.as_slice.ensures.value c.in_ok-uses.ensures in
    let can = can_make_sources c.args.core.now c.place_objects.new.b c.control.new.b _ _ c.requires.core c.in_ok-at.ensures made in
    can.uses_are

pub sources-requires-clause-built : goal.sources-requires-clause-built
sources-requires-clause-built c =
    let made = sliced_uses c.as_slice.ensures.value c.in_ok-uses.ensures in
    let can = can_make_sources c.args.core.now c.place_objects.new.b c.control.new.b _ _ c.requires.core c.in_ok-at.ensures made in
    can.built

pub sources-requires-clause-room : goal.sources-requires-clause-room
sources-requires-clause-room c =
    let made = sliced_uses c.as_slice.ensures.value c.in_ok-uses.ensures in
    let can = can_make_sources c.args.core.now c.place_objects.new.b c.control.new.b _ _ c.requires.core c.in_ok-at.ensures made in
    can.room

pub connect-requires : goal.connect-requires
connect-requires c =
    let made = sliced_uses c.as_slice.ensures.value c.in_ok-uses.ensures in
    can_connect c.args.core.now _ _ _ c.place_objects.new.b c.control.new.b c.sources.new.b c.in_ok-at.ensures made c.in_ok-sources.ensures

pub seal-requires : goal.seal-requires
seal-requires c =
    let made = sliced_uses c.as_slice.ensures.value c.in_ok-uses.ensures in
    sealable (record { buildable = c.requires.core; places = c.in_ok-at.ensures; controlled = made; makes_sources = c.in_ok-sources.ensures; connects = c.connect.ensures })

pub returns : goal.returns
returns c =
    let made = sliced_uses c.as_slice.ensures.value c.in_ok-uses.ensures in
    if_ok c.seal.result (Seals c.connect.new.b) (IsNetlistOf c.args.core.now)
    (λ net seals. netlist_of c.args.core.now _ _ _ c.place_objects.new.b c.control.new.b c.sources.new.b c.connect.new.b
    (record { buildable = c.requires.core; places = c.in_ok-at.ensures; controlled = made; makes_sources = c.in_ok-sources.ensures; connects = c.connect.ensures }) net seals) c.seal.ensures
