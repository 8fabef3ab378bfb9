use Rattle.std.proofs.Common.{take, ◌+◌, ◌≡◌, Some, true, false, ap, sym, ◌∙◌, refl, slice_get}
use Rattle.std.specs.Str.{bytes_eq}
use Rattle.std.proofs.lemmas.Option.{slice_get_read}
use Rattle.hc_scope.specs.Scope as s
use Rattle.hc_scope.specs.Scope.{find}
use Rattle.hc_scope.specs.Expression.{bound}
use Rattle.hc_scope.specs.Reading.{scope_of}
use Rattle.hc_scope.proofs.Places.{declares-declared, passes-declared}
use Rattle.hc_scope.proofs.Chains.{reads-Outside, reads-Declares, reads-Turn, reads-Binds, finds_as, found_by}
use Rattle.hc_scope.proofs.scope.+find_marked.Goals as goal

pub returns-in-Outside : goal.returns-in-Outside
returns-in-Outside t c = ap (λ x. find c.args.name.now (scope_of x)) c.in-Outside.is ∙ ap (find c.args.name.now) reads-Outside

pub returns-in-Some : goal.returns-in-Some
returns-in-Some t c =
    let is = ap scope_of c.in-Declares.is ∙ reads-Declares c.in-Declares.names c.in-Declares.seen c.in-Declares.around in
    found_by
    (ap (find c.args.name.now) is ∙ (c.in-Some.ensures.among (s.opened (scope_of c.in-Declares.around.now))).found)
    c.meant.ensures (reads-Declares c.in-Declares.names _ c.in-Declares.around)

pub returns-in-None : goal.returns-in-None
returns-in-None t c =
    let is = ap scope_of c.in-Declares.is ∙ reads-Declares c.in-Declares.names c.in-Declares.seen c.in-Declares.around in
    finds_as c.find_marked.result (ap (find c.args.name.now) is ∙ (c.in-None.ensures.among (s.opened (scope_of c.in-Declares.around.now))).found) c.find_marked.ensures

pub returns-then-eq : goal.returns-then-eq
returns-then-eq t c =
    let name = c.args.name.now in
    let x = c.in-Turn.x.now in
    let around = s.opened (scope_of c.in-Turn.around.now) in
    let is = ap scope_of c.in-Turn.is ∙ reads-Turn c.in-Turn.x c.in-Turn.number c.in-Turn.around in
    let named : bytes_eq x.name name ≡ true = sym (c.eq.ensures ∙ ap (λ y. bytes_eq y name) c.as_bytes.ensures.bytes) ∙ c.if-eq.true in
    found_by
    (ap (find name) is ∙ (declares-declared name x.name _ around named).found)
    refl (reads-Turn c.in-Turn.x c.in-Turn.number c.in-Turn.around)

pub returns-else-eq : goal.returns-else-eq
returns-else-eq t c =
    let name = c.args.name.now in
    let x = c.in-Turn.x.now in
    let around = s.opened (scope_of c.in-Turn.around.now) in
    let is = ap scope_of c.in-Turn.is ∙ reads-Turn c.in-Turn.x c.in-Turn.number c.in-Turn.around in
    let named : bytes_eq x.name name ≡ false = sym (c.eq.ensures ∙ ap (λ y. bytes_eq y name) c.as_bytes.ensures.bytes) ∙ c.if-eq.false in
    finds_as c.find_marked-else-eq.result (ap (find name) is ∙ (passes-declared name x.name _ around named).found) c.find_marked-else-eq.ensures

pub returns-in-Some-find_bound : goal.returns-in-Some-find_bound
returns-in-Some-find_bound t c =
    let name = c.args.name.now in
    let call = scope_of c.in-Binds.call.now in
    let around = s.opened (scope_of c.in-Binds.around.now) in
    let is = ap scope_of c.in-Binds.is ∙ reads-Binds c.in-Binds.parameters c.in-Binds.arguments c.in-Binds.call c.in-Binds.around in
    let argument = c.index-arguments-at.result in
    let given : slice_get c.in-Binds.arguments.now c.in-Some-find_bound.at ≡ Some argument = slice_get_read c.in-Binds.arguments.now _ c.in-Some-find_bound.at argument refl c.in-Some-find_bound.ensures.1 c.index-arguments-at.is in
    found_by {from = bound call (take (c.in-Some-find_bound.at + 1) c.in-Binds.parameters.now) c.in-Binds.arguments.now around} {to = scope_of c.binds_up_to.result}
    (ap (find name) is ∙ (c.in-Some-find_bound.ensures.2 call around argument given).found)
    (ap (λ e. s.an_argument e call) (sym c.index-arguments-at.is)) c.binds_up_to.ensures

pub returns-in-None-find_bound : goal.returns-in-None-find_bound
returns-in-None-find_bound t c =
    let name = c.args.name.now in
    let call = scope_of c.in-Binds.call.now in
    let around = s.opened (scope_of c.in-Binds.around.now) in
    let is = ap scope_of c.in-Binds.is ∙ reads-Binds c.in-Binds.parameters c.in-Binds.arguments c.in-Binds.call c.in-Binds.around in
    finds_as c.find_marked-in-None-find_bound.result (ap (find name) is ∙ (c.in-None-find_bound.ensures call around).found) c.find_marked-in-None-find_bound.ensures
