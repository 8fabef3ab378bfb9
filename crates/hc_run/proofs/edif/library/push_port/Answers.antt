use Rattle.std.specs.Prelude.{codes}
use Rattle.hc_run.specs.Edif.{cell_port}
use Rattle.hc_run.proofs.Append.{five_more}
use Rattle.hc_run.proofs.edif.library.push_port.Goals as goal

pub returns : goal.returns
unfolding cell_port
returns c =
    five_more c.args.text.now.items (codes " (port ") c.args.name.now (codes " (direction ") c.args.direction.now (codes "))") c.in_ok-extend_from_slice.ensures.items c.in_ok-extend_from_slice-2.ensures.items c.in_ok-extend_from_slice-3.ensures.items c.in_ok-extend_from_slice-4.ensures.items
    c.in_ok-extend_from_slice-5.ensures.items
