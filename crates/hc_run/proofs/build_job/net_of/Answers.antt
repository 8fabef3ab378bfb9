use Rattle.hc_run.proofs.build_job.net_of.Goals as goal

pub unreachable-requires : goal.unreachable-requires
unreachable-requires c =
    let names = rw c.in-Err-Refused.field-0-is at c.in-Err-Refused.ensures.refused in
    c.requires.acyclic (c.cycles_reach_themselves.ensures c.args.core.now c.in-Err-Refused._refusal names)
