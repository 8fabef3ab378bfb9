use Rattle.std.proofs.Common.{◌∙◌, ap, sym}
use Rattle.hc_scope.specs.Scope.{is_declared}
use Rattle.hc_scope.specs.Reading.{scope_in}
use Rattle.hc_scope.specs.Marks.{Table}
use Rattle.hc_scope.specs.declared.scope.Declared.{Declared}
use Rattle.hc_scope.proofs.Tables.{declares_in}
use Rattle.hc_scope.proofs.table.declares.Goals as goal

pub returns : goal.returns
returns c around = c.contains_key.ensures ∙ declares_in c.args.name.now c.names.inside.table.entries around ∙ ap (λ (t : Table Declared). is_declared c.args.name.now (scope_in t.entries around)) c.names.view_is
