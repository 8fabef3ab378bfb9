use Rattle.std.proofs.Common.{◌≡◌, true, false, ap, sym, ◌∙◌}
use Rattle.std.specs.Str.{bytes_eq}
use Rattle.hc_scope.specs.Scope as s
use Rattle.hc_scope.specs.Scope.{find}
use Rattle.hc_scope.specs.Reading.{scope_of}
use Rattle.hc_scope.proofs.Places.{passes-declared}
use Rattle.hc_scope.proofs.Chains.{reads-Declares, reads-Turn, reads-Binds}
use Rattle.hc_scope.proofs.scope.+passed.Goals as goal

pub returns-in-None : goal.returns-in-None
returns-in-None t c =
    let is = ap scope_of c.in-Declares.is ∙ reads-Declares c.in-Declares.names c.in-Declares.seen c.in-Declares.around in
    c.passed.ensures ∙ sym (ap (find c.args.name.now) is ∙ (c.in-None.ensures.among (s.opened (scope_of c.in-Declares.around.now))).found)

pub returns-else-eq : goal.returns-else-eq
returns-else-eq t c =
    let name = c.args.name.now in
    let x = c.in-Turn.x.now in
    let around = s.opened (scope_of c.in-Turn.around.now) in
    let is = ap scope_of c.in-Turn.is ∙ reads-Turn c.in-Turn.x c.in-Turn._number c.in-Turn.around in
    let named : bytes_eq x.name name ≡ false = sym (c.eq.ensures ∙ ap (λ y. bytes_eq y name) c.as_bytes.ensures.bytes) ∙ c.if-eq.false in
    c.passed-else-eq.ensures ∙ sym (ap (find name) is ∙ (passes-declared name x.name _ around named).found)

pub returns-in-None-find_bound : goal.returns-in-None-find_bound
returns-in-None-find_bound t c =
    let name = c.args.name.now in
    let call = scope_of c.in-Binds._call.now in
    let around = s.opened (scope_of c.in-Binds.around.now) in
    let is = ap scope_of c.in-Binds.is ∙ reads-Binds c.in-Binds.parameters c.in-Binds.arguments c.in-Binds._call c.in-Binds.around in
    c.passed-in-None-find_bound.ensures ∙ sym (ap (find name) is ∙ (c.in-None-find_bound.ensures call around).found)

pub returns-else-is_marked : goal.returns-else-is_marked
returns-else-is_marked t c =
    let name = c.args.name.now in
    let around = s.opened (scope_of c.in-Declares.around.now) in
    let is = ap scope_of c.in-Declares.is ∙ reads-Declares c.in-Declares.names c.in-Declares.seen c.in-Declares.around in
    c.passed-else-is_marked.ensures ∙ sym (ap (find name) is ∙ (c.is_marked.ensures c.if-is_marked.false name c.in-Declares.seen c.requires.mark around).found)
