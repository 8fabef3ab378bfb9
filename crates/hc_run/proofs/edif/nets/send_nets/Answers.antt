use Rattle.std.proofs.Common.{arith, ap, ◌∙◌, sym, subst, map, ◌+◌}
use Rattle.hc_run.specs.Pins.{read_by}
use Rattle.hc_run.proofs.NetText.{net_more}
use Rattle.hc_run.proofs.Order.{IsLeft, IsLeft-start, IsLeft-more, IsLeft-here}
use Rattle.hc_run.proofs.Sending.{IsSending-start, IsSending-sent, IsSending-exit}
use Rattle.hc_run.proofs.edif.nets.send_nets.Goals as goal

pub loop-n-init : goal.loop-n-init
loop-n-init g c = record { left = IsLeft-start _ c.requires.rises; sending = IsSending-start _ _ _ }

pub returns-in_err-send_net-clause-err : goal.returns-in_err-send_net-clause-err
returns-in_err-send_net-clause-err g c =
    let here = ap (map read_by) c.split_at.ensures.front ∙ IsLeft-here c.loop-n.invariant.left c.count_front.ensures.split in
    let more = net_more (map read_by c.args.readers.now) c.args.drivers.now c.loop-n.n _ c.split_at.result.0.now (omega arith) here in
    IsSending-exit _ _ _ c.from_residual.ensures c.loop-n.invariant.sending more c.in_err-send_net.ensures.err

pub loop-n-preserved : goal.loop-n-preserved
loop-n-preserved g c =
    let here = ap (map read_by) c.split_at.ensures.front ∙ IsLeft-here c.loop-n.invariant.left c.count_front.ensures.split in
    let more = net_more (map read_by c.args.readers.now) c.args.drivers.now c.loop-n.n _ c.split_at.result.0.now (omega arith) here in
    record {
      left = subst (λ t. IsLeft (c.loop-n.n + 1) (map read_by t) (map read_by c.args.readers.now)) (sym c.split_at.ensures.back) (IsLeft-more c.loop-n.invariant.left c.count_front.ensures.split);
      sending = IsSending-sent _ _ c.loop-n.invariant.sending more c.in_ok-send_net.ensures.ok;
    }
