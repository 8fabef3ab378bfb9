use Rattle.std.proofs.Common.{ap, ◌∙◌, arith}
use Rattle.std.proofs.lemmas.List.{take_all}
use Rattle.hc_scope.specs.Scope.{opened}
use Rattle.hc_scope.specs.Reading.{scope_of, declared_in}
use Rattle.hc_scope.proofs.Chains.{reads-Declares}
use Rattle.hc_scope.proofs.names.all_of.Goals as goal

pub returns : goal.returns
returns c =
    reads-Declares c.args.names c.count.result c.args.around
    ∙ ap (λ l. declared_in l (opened (scope_of c.args.around.now))) (take_all c.count.result c.args.names.now.entries (omega arith))
