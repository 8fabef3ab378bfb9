use Rattle.std.proofs.Common.{arith}
use Rattle.hc_evaluate.proofs.ObjectTypes.{constant_index_typed}
use Rattle.hc_evaluate.proofs.index.constant_index.Goals as goal

pub returns-then-magnitude-from-clause-typed : goal.returns-then-magnitude-from-clause-typed
returns-then-magnitude-from-clause-typed c =
    let a = c.aw.ensures in
    λ ks. constant_index_typed ks c.new.result _ _ c.args.length c.new.ensures a.width a.least a.most a.enough (omega arith)
