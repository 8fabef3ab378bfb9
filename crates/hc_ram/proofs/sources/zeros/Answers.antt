use Rattle.std.proofs.Common.{◌≡◌, ap, ◌∙◌, arith}
use Rattle.std.specs.Prelude.{replicate}
use Rattle.hc_ram.proofs.PinSources.{zeros_made, zeros_width}
use Rattle.hc_ram.proofs.sources.zeros.Goals as goal

pub returns-clause-width : goal.returns-clause-width
returns-clause-width c =
    let all : c.loop-i.i ≡ c.args.count = omega arith in
    zeros_width c.args.count c.in_ok-zero.zero c.loop-i.nets (c.loop-i.invariant ∙ ap (λ n. replicate n c.in_ok-zero.zero) all)

pub returns-clause-circuit : goal.returns-clause-circuit
returns-clause-circuit c =
    let all : c.loop-i.i ≡ c.args.count = omega arith in
    zeros_made c.args.b.now c.gate.new.self c.in_ok-zero.zero c.args.count c.loop-i.nets c.in_ok-zero.ensures.ok.0 c.in_ok-zero.ensures.ok.1
    (c.loop-i.invariant ∙ ap (λ n. replicate n c.in_ok-zero.zero) all)
