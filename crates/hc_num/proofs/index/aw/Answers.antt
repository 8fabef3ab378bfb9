use Rattle.std.proofs.Common.{arith}
use Rattle.hc_num.proofs.IndexWidths.{index_width-small, index_width-log, no_smaller}
use Rattle.hc_num.proofs.index.aw.Goals as goal

pub returns-then-n-le2-clause-width : goal.returns-then-n-le2-clause-width
returns-then-n-le2-clause-width c = index_width-small c.args.n (omega arith)

pub returns-else-n-le2-clause-width : goal.returns-else-n-le2-clause-width
returns-else-n-le2-clause-width c = index_width-log c.args.n c.ilog2.result (omega arith) (omega arith)

pub returns-else-n-le2-clause-smallest : goal.returns-else-n-le2-clause-smallest
returns-else-n-le2-clause-smallest c = λ w _ enough. no_smaller c.args.n c.ilog2.result w (omega arith) enough
