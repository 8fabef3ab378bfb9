use Rattle.std.proofs.Common.{refl, ap, ◌∙◌}
use Rattle.hc_exparse.specs.declared.part.NameTail.TheVariants.{Port}
use Rattle.hc_exparse.specs.Last.{halt_or_zero}
use Rattle.hc_exparse.specs.Parts.{name_part}
use Rattle.hc_exparse.proofs.Walk.{start, mark_passed, form_read, finished_as, halted_at}
use Rattle.hc_exparse.proofs.Rows as row
use Rattle.hc_exparse.proofs.primary.port.Goals as goal

pub returns-in-Ok : goal.returns-in-Ok
returns-in-Ok c = finished_as name_part (form_read (mark_passed (start c.args.c.now (row.port_row c.args.c.now c.requires)) c.take.new.self c.requires c.take.ensures.end c.take.ensures.token) c.ident.new.c c.in-Ok.ensures.0 c.in-Ok.ensures.1) (Port c.in-Ok.port) refl

pub returns-in-Err : goal.returns-in-Err
returns-in-Err c =
    halted_at (mark_passed (start c.args.c.now (row.port_row c.args.c.now c.requires)) c.take.new.self c.requires c.take.ensures.end c.take.ensures.token) refl c.ident.new.c c.in-Err.halt c.in-Err.ensures c.len-before.ensures c.len-at.ensures (c.or_zero.ensures ∙ ap halt_or_zero c.later.ensures)
