use Rattle.std.proofs.Common.{◌≡◌, refl, rules}
use Rattle.std.proofs.lemmas.Result.{IfOk-weaker}
use Rattle.hc_core.specs.Program.{ToRegister, ToElement, ToWord, ToSignal}
use Rattle.hc_core.specs.Read.{expression, target}
use Rattle.hc_core.specs.Depends.{access_needs, target_accesses}
use Rattle.hc_core.proofs.Read.{reading}
use Rattle.hc_cycle.specs.Sets.{Accesses, Adds}
use Rattle.hc_cycle.proofs.Accesses.{target_none, target_element, target_word}
use Rattle.hc_cycle.proofs.sets.Gather.target.Goals as goal

pub returns-in-Reg : goal.returns-in-Reg
returns-in-Reg c =
    let is : target c.args.t.now ≡ ToRegister c.in-Reg.field-0 = search (rules, reading) in
    simp is (target_none c.args.self.now c.args.start (ToRegister c.in-Reg.field-0) refl)

pub returns-in-Signal : goal.returns-in-Signal
returns-in-Signal c =
    let is : target c.args.t.now ≡ ToSignal c.in-Signal.field-0 = search (rules, reading) in
    simp is (target_none c.args.self.now c.args.start (ToSignal c.in-Signal.field-0) refl)

pub returns-in_ok-read-in-Element : goal.returns-in_ok-read-in-Element
returns-in_ok-read-in-Element c =
    let is : target c.args.t.now ≡ ToElement c.in-Element.field-0 (expression c.in-Element.i) = search (rules, reading) in
    simp is (target_element c.args.self.now c.read.new.self c.args.start c.in_ok-read-in-Element.field-0 c.in-Element.field-0 (expression c.in-Element.i) c.in_ok-read-in-Element.ensures)

pub returns-in_ok-index-in-Word : goal.returns-in_ok-index-in-Word
returns-in_ok-index-in-Word c =
    let is : target c.args.t.now ≡ ToWord c.in-Word.k (expression c.in-Word.i) = search (rules, reading) in
    simp is (IfOk-weaker c.access.result (λ u. Accesses c.read-in-Word.new.self c.access.new.self c.args.start c.in-Word.k c.in_ok-index-in-Word.index)
    (λ u. Adds c.args.self.now c.access.new.self c.args.start (λ xs. access_needs xs (target_accesses (ToWord c.in-Word.k (expression c.in-Word.i)))))
    (λ u a. target_word c.args.self.now c.read-in-Word.new.self c.access.new.self c.args.start c.in_ok-index-in-Word.index c.in-Word.k (expression c.in-Word.i) c.in_ok-index-in-Word.ensures a) c.access.ensures)
