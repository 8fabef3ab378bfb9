use Rattle.std.proofs.Common.{ap, sym, ◌∙◌}
use Rattle.std.specs.Str.{bytes_eq}
use Rattle.hc_scope.specs.Scope as s
use Rattle.hc_scope.specs.Scope.{is_declared}
use Rattle.hc_scope.specs.Reading.{scope_of}
use Rattle.hc_scope.proofs.Places.{only_first, argument_at}
use Rattle.hc_scope.proofs.Chains.{reads-Outside, reads-Declares, reads-Turn, reads-Binds}
use Rattle.hc_scope.proofs.scope.is_declared.Goals as goal

pub returns-in-Outside : goal.returns-in-Outside
returns-in-Outside c = sym (ap (λ x. is_declared c.args.name.now (scope_of x)) c.in-Outside.is ∙ ap (is_declared c.args.name.now) reads-Outside)

pub returns-in-Some : goal.returns-in-Some
returns-in-Some c =
    let is = ap scope_of c.in-Declares.is ∙ reads-Declares c.in-Declares.names c.in-Declares.seen c.in-Declares._around in
    sym (ap (is_declared c.args.name.now) is ∙ (c.in-Some.ensures.among (s.opened (scope_of c.in-Declares._around.now))).told)

pub returns-in-None : goal.returns-in-None
returns-in-None c =
    let is = ap scope_of c.in-Declares.is ∙ reads-Declares c.in-Declares.names c.in-Declares.seen c.in-Declares._around in
    sym (ap (is_declared c.args.name.now) is ∙ (c.in-None.ensures.among (s.opened (scope_of c.in-Declares._around.now))).told)

pub returns-in-Turn : goal.returns-in-Turn
returns-in-Turn c =
    let is = ap scope_of c.in-Turn.is ∙ reads-Turn c.in-Turn.x c.in-Turn._number c.in-Turn._around in
    c.eq.ensures ∙ ap (λ y. bytes_eq y c.args.name.now) c.as_bytes.ensures.bytes ∙ sym (ap (is_declared c.args.name.now) is ∙ only_first (bytes_eq c.in-Turn.x.now.name c.args.name.now))

pub returns-in-Some-find_bound : goal.returns-in-Some-find_bound
returns-in-Some-find_bound c =
    let call = scope_of c.in-Binds._call.now in
    let is = ap scope_of c.in-Binds.is ∙ reads-Binds c.in-Binds.parameters c.in-Binds.arguments c.in-Binds._call c.in-Binds._around in
    let a = argument_at c.in-Binds.arguments.now c.in-Some-find_bound._at c.in-Some-find_bound.ensures.1 in
    sym (ap (is_declared c.args.name.now) is ∙ (c.in-Some-find_bound.ensures.2 call (s.opened (scope_of c.in-Binds._around.now)) a.0 a.1).told)

pub returns-in-None-find_bound : goal.returns-in-None-find_bound
returns-in-None-find_bound c =
    let call = scope_of c.in-Binds._call.now in
    let is = ap scope_of c.in-Binds.is ∙ reads-Binds c.in-Binds.parameters c.in-Binds.arguments c.in-Binds._call c.in-Binds._around in
    sym (ap (is_declared c.args.name.now) is ∙ (c.in-None-find_bound.ensures call (s.opened (scope_of c.in-Binds._around.now))).told)
