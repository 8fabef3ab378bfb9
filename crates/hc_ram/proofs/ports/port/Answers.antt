use Rattle.std.proofs.Common.{arith}
use Rattle.hc_ram.proofs.Driven.{pins_driven, row_there, row_few, row_open}
use Rattle.hc_ram.proofs.ports.port.Goals as goal

pub drive_row-requires-clause-there : goal.drive_row-requires-clause-there
drive_row-requires-clause-there c =
    row_there c.args.ram.now c.args.enables.now c.args.indexes.now c.args.writes.now c.args.values.now c.in_ok-sources.sources _ c.args.b.now c.sources.new.b c.requires.pins
    (let we = c.requires.pins.we in omega (arith, we)) c.in_ok-sources.ensures

pub drive_row-requires-clause-few : goal.drive_row-requires-clause-few
drive_row-requires-clause-few c =
    row_few c.args.ram.now c.args.enables.now c.args.indexes.now c.args.writes.now c.args.values.now c.in_ok-sources.sources c.args.b.now c.sources.new.b c.requires.room c.in_ok-sources.ensures

pub drive_row-requires-clause-undriven : goal.drive_row-requires-clause-undriven
drive_row-requires-clause-undriven c =
    row_open c.args.ram.now c.args.enables.now c.args.indexes.now c.args.writes.now c.args.values.now c.in_ok-sources.sources _ c.args.b.now c.sources.new.b c.requires.pins
    (let we = c.requires.pins.we in omega (arith, we)) c.in_ok-sources.ensures

pub drive_row-requires-clause-sources : goal.drive_row-requires-clause-sources
drive_row-requires-clause-sources c = c.in_ok-sources.ensures.there

pub returns : goal.returns
returns c =
    pins_driven c.args.ram.now c.args.enables.now c.args.indexes.now c.args.writes.now c.args.values.now c.in_ok-sources.sources _ c.args.b.now c.sources.new.b c.drive_row.new.b c.requires.pins
    (let we = c.requires.pins.we in omega (arith, we)) c.in_ok-sources.ensures c.drive_row.ensures.driven c.drive_row.ensures.kept c.drive_row.ensures.value
