use Rattle.std.proofs.Common.{ap, bit_and, bit_or, bit_xor}
use Rattle.hc_width.specs.Binary.{binary_whole}
use Rattle.hc_width.proofs.Steps.{answers_as}
use Rattle.hc_width.proofs.constants.constants.Goals as goal

pub returns-in-And : goal.returns-in-And
unfolding binary_whole
returns-in-And c =
    answers_as (binary_whole c.args.op c.args.a c.args.b) _ c.args.place _ (ap (λ op. binary_whole op c.args.a c.args.b) c.in-And.is) (c.bits.ensures bit_and (cc))

pub returns-in-Or : goal.returns-in-Or
unfolding binary_whole
returns-in-Or c =
    answers_as (binary_whole c.args.op c.args.a c.args.b) _ c.args.place _ (ap (λ op. binary_whole op c.args.a c.args.b) c.in-Or.is) (c.bits-in-Or.ensures bit_or (cc))

pub returns-in-Xor : goal.returns-in-Xor
unfolding binary_whole
returns-in-Xor c =
    answers_as (binary_whole c.args.op c.args.a c.args.b) _ c.args.place _ (ap (λ op. binary_whole op c.args.a c.args.b) c.in-Xor.is) (c.bits-in-Xor.ensures bit_xor (cc))
