use Rattle.std.proofs.Common.{◌≡◌, [], ◌∷◌, rules}
use Rattle.hc_core.specs.Program.{send_case, receive_case, no_case}
use Rattle.hc_core.specs.Read.{expression, target, statement, cases}
use Rattle.hc_core.proofs.Read.{reading}
use Rattle.hc_cycle.proofs.Lists.{offer_send, offer_receive}
use Rattle.hc_cycle.proofs.sets.Gather.offer.Goals as goal

pub returns-in_ok-read-in-Send : goal.returns-in_ok-read-in-Send
returns-in_ok-read-in-Send c =
    let is : cases (c.args.case.now ∷ []) ≡ send_case c.in-Send.chan (expression c.in-Send.value) (statement c.in-Send.arm) no_case = search (rules, reading) in
    offer_send c.args.self.now c.read.new.self c.args.start c.in_ok-read-in-Send.field-0 c.in-Send.chan (expression c.in-Send.value) (statement c.in-Send.arm) (cases (c.args.case.now ∷ [])) is c.in_ok-read-in-Send.ensures

pub returns-in_ok-target-in-Recv : goal.returns-in_ok-target-in-Recv
returns-in_ok-target-in-Recv c =
    let is : cases (c.args.case.now ∷ []) ≡ receive_case c.in-Recv.chan (target c.in-Recv.target) (statement c.in-Recv.arm) no_case = search (rules, reading) in
    offer_receive c.args.self.now c.target.new.self c.args.start c.in-Recv.chan (target c.in-Recv.target) (statement c.in-Recv.arm) (cases (c.args.case.now ∷ [])) is c.in_ok-target-in-Recv.ensures
