use Rattle.std.proofs.Common.{◌≤◌, arith}
use Rattle.hc_evaluate.proofs.expressions.+expand.Goals as goal

pub before_index-before_index_form-requires-clause-nests : goal.before_index-before_index_form-requires-clause-nests
before_index-before_index_form-requires-clause-nests t c =
    let h = c.in-Ok.ensures {u = tt} in
    let some : 1 ≤ c.args.room = h.open in
    record {
      callable = λ alloc old scope calls at e small below sound. (omega arith, sound);
      answers = λ alloc old new scope calls at e r small below post. post.1.0;
      typed = λ alloc old new scope calls at e r small below post. post.1.1.0;
      objects = λ alloc old new scope calls at e r small below post. post.1.1.1;
    }

pub before_index-before_index_form-requires-clause-shows : goal.before_index-before_index_form-requires-clause-shows
before_index-before_index_form-requires-clause-shows t c =
    let h = c.in-Ok.ensures {u = tt} in
    let some : 1 ≤ c.args.room = h.open in
    record {
      callable = λ alloc old scope calls at e small below sound. (omega arith, sound);
      answers = λ alloc old new scope calls at e r small below post. post.1.0;
      typed = λ alloc old new scope calls at e r small below post. post.1.1.0;
      objects = λ alloc old new scope calls at e r small below post. post.1.1.1;
    }

pub expression-expression_form-requires-clause-nests : goal.expression-expression_form-requires-clause-nests
expression-expression_form-requires-clause-nests t c =
    let h = c.in-Ok.ensures {u = tt} in
    let some : 1 ≤ c.args.room = h.open in
    record {
      callable = λ alloc old scope calls at e small below sound. (omega arith, sound);
      answers = λ alloc old new scope calls at e r small below post. post.1.0;
      typed = λ alloc old new scope calls at e r small below post. post.1.1.0;
      objects = λ alloc old new scope calls at e r small below post. post.1.1.1;
    }

pub expression-expression_form-requires-clause-shows : goal.expression-expression_form-requires-clause-shows
expression-expression_form-requires-clause-shows t c =
    let h = c.in-Ok.ensures {u = tt} in
    let some : 1 ≤ c.args.room = h.open in
    record {
      callable = λ alloc old scope calls at e small below sound. (omega arith, sound);
      answers = λ alloc old new scope calls at e r small below post. post.1.0;
      typed = λ alloc old new scope calls at e r small below post. post.1.1.0;
      objects = λ alloc old new scope calls at e r small below post. post.1.1.1;
    }
