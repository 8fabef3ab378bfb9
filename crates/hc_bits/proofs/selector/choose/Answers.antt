use Rattle.std.proofs.lemmas.Result.{IfOk-weaker}
use Rattle.hc_bits.proofs.Chosen.{choose_made}
use Rattle.hc_bits.proofs.selector.choose.Goals as goal

pub returns : goal.returns
returns c =
    IfOk-weaker c.or.result _ _
    (λ z joined. choose_made c.args.c c.args.otherwise c.args.x c.args.y c.in-Ok.taken c.in-Ok-and.other z c.args.b.now c.and.new.b c.and-2.new.b c.or.new.b c.in-Ok.ensures c.in-Ok-and.ensures joined)
    c.or.ensures
