use Rattle.std.proofs.Common.{◌≡◌, [], ◌∷◌, refl, rules}
use Rattle.std.proofs.lemmas.Result.{IfOk-weaker}
use Rattle.hc_tree.specs.declared.refusal.Node.TheVariants.{Value}
use Rattle.hc_core.specs.Program.{ToRegister, ToElement, ToWord, ToSignal}
use Rattle.hc_core.specs.Read.{expression, target}
use Rattle.hc_core.proofs.Read.{reading}
use Rattle.hc_cycle.specs.Sets.{Adds, Assigns}
use Rattle.hc_cycle.proofs.Visiting.{assigns_nothing, assigns_signal}
use Rattle.hc_cycle.proofs.sets.Gather.signal.Goals as goal

pub returns-in-Reg : goal.returns-in-Reg
returns-in-Reg c =
    let is : target c.args.to.now ≡ ToRegister c.in-Reg.field-0 = search (rules, reading) in
    rw is (assigns_nothing c.args.self.now c.args.start c.args.read (ToRegister c.in-Reg.field-0) (λ xs e. refl))

pub returns-in-Element : goal.returns-in-Element
returns-in-Element c =
    let is : target c.args.to.now ≡ ToElement c.in-Element.field-0 (expression c.in-Element.field-1) = search (rules, reading) in
    rw is (assigns_nothing c.args.self.now c.args.start c.args.read (ToElement c.in-Element.field-0 (expression c.in-Element.field-1)) (λ xs e. refl))

pub returns-in-Word : goal.returns-in-Word
returns-in-Word c =
    let is : target c.args.to.now ≡ ToWord c.in-Word.field-0 (expression c.in-Word.field-1) = search (rules, reading) in
    rw is (assigns_nothing c.args.self.now c.args.start c.args.read (ToWord c.in-Word.field-0 (expression c.in-Word.field-1)) (λ xs e. refl))

pub returns-in_ok-on-in-Signal : goal.returns-in_ok-on-in-Signal
returns-in_ok-on-in-Signal c =
    let is : target c.args.to.now ≡ ToSignal c.in-Signal.k = search (rules, reading) in
    rw is (IfOk-weaker c.need.result (λ u. Adds c.union.new.self c.need.new.self c.in_ok-on-in-Signal.on (λ xs. record { node = Value c.in-Signal.k; on = xs } ∷ []))
    (λ u. Assigns c.args.self.now c.need.new.self c.args.start c.args.read (ToSignal c.in-Signal.k))
    (λ u a. assigns_signal c.args.self.now c.union.new.self c.need.new.self c.args.start c.args.read c.in_ok-on-in-Signal.on c.in-Signal.k c.in_ok-on-in-Signal.ensures a) c.need.ensures)
