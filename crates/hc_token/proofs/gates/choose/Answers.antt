use Rattle.std.proofs.lemmas.Result.{IfOk-weaker}
use Rattle.hc_token.proofs.Chosen.{choose_made}
use Rattle.hc_token.proofs.gates.choose.Goals as goal

pub returns : goal.returns
returns c =
    IfOk-weaker c.or.result _ _
    (λ z joined. choose_made c.args.c c.args.d c.args.x c.args.y c.in_ok-taken.taken c.in_ok-other.other z c.args.b.now c.and.new.b c.and-2.new.b c.or.new.b c.in_ok-taken.ensures.circuit c.in_ok-other.ensures.circuit joined)
    c.or.ensures.circuit
