use Rattle.std.proofs.Common.{rules}
use Rattle.hc_tree.specs.declared.stmt.Stmt.{the_lemmas}
use Rattle.hc_scope.specs.Nodes.{nodes}
use Rattle.hc_scope.specs.Reading.{context_of}
use Rattle.hc_scope.specs.Statement.{statement_form}
use Rattle.hc_expand.proofs.StatementForms.{delay_form}
use Rattle.hc_expand.proofs.statements.Statements.statement_form.Goals as goal

pub returns-in-Delay-clause-answers : goal.returns-in-Delay-clause-answers
returns-in-Delay-clause-answers g c =
    let a = c.args in
    delay_form (nodes a.self.now.room) (context_of a.scope.now a.calls) c.in-Delay.place a.s.now a.state.now c.in-Delay.is

pub returns-in-IfSelect-clause-answers : goal.returns-in-IfSelect-clause-answers
unfolding statement_form
returns-in-IfSelect-clause-answers g c =
    let chosen = c.if_select.ensures.answers c.in-If.place in
    search (rules, the_lemmas)
