use Rattle.std.proofs.Common.{◌≤◌, arith}
use Rattle.hc_expand.proofs.statement.+expand_statement.Goals as goal

pub statement_form-requires-clause-runs : goal.statement_form-requires-clause-runs
statement_form-requires-clause-runs t c =
    let h = c.in-Ok.ensures {u = tt} in
    let some : 1 ≤ c.args.room = h.open in
    record {
      callable = λ alloc old scope calls at s small below sound. (omega arith, sound);
      answers = λ alloc old new scope calls at s r small below post. post.1.0;
      typed = λ alloc old new scope calls at s r small below post. post.1.1.0;
      grows = λ alloc old new scope calls at s r small below post. post.1.1.1;
    }
