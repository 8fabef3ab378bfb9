use Rattle.std.proofs.Common.{◌≡◌, ◌∷◌, [], ◌||◌, sym, ap, arith, if◌then◌else◌}
use Rattle.hc_control.proofs.Selectors.{no_gate}
use Rattle.hc_control.proofs.arms.chosen_net.Goals as goal

pub returns-else-is_default : goal.returns-else-is_default
returns-else-is_default c =
    no_gate (c.args.net ∷ c.args.otherwise ∷ []) 0 c.args.b.now (λ v. v c.args.net ≡ (if c.args.is_default then v c.args.net || v c.args.otherwise else v c.args.net)) (omega arith) c.requires.net
    (λ v. sym (ap (λ b. if b then v c.args.net || v c.args.otherwise else v c.args.net) c.if-is_default.false))
