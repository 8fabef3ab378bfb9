use Rattle.std.proofs.Common.{◌≡◌, ◌∷◌, [], sym, ap, arith}
use Rattle.hc_control.specs.Selecting.{same_bit}
use Rattle.hc_control.proofs.Selectors.{no_gate}
use Rattle.hc_control.proofs.labels.as_bit.Goals as goal

pub returns-then-bit : goal.returns-then-bit
returns-then-bit c =
    no_gate (c.args.net ∷ []) 0 c.args.b.now (λ v. v c.args.net ≡ same_bit (v c.args.net) c.args.bit) (omega arith) c.requires.net
    (λ v. sym (ap (same_bit (v c.args.net)) c.if-bit.true))
