use Rattle.std.proofs.Common.{◌*◌, ◌∙◌, ap, length, take, drop, arith, refl}
use Rattle.hc_stim.proofs.Kept.{kept_within, kept_line}
use Rattle.hc_stim.proofs.stim.Stim.line.Goals as goal

pub overflow_mul-k : goal.overflow_mul-k
overflow_mul-k c =
    let within = kept_within c.self.inside.clocks c.self.inside.inputs c.self.inside.values.items _ c.args.k c.self.view_is c.self.invariant c.requires in
    let small = c.as_slice-values.ensures.len in omega (arith, ap length c.as_slice-values.ensures.value)

pub part-requires : goal.part-requires
part-requires c =
    let within = kept_within c.self.inside.clocks c.self.inside.inputs c.self.inside.values.items _ c.args.k c.self.view_is c.self.invariant c.requires in
    omega (arith, ap length c.as_slice-values.ensures.value)

pub returns : goal.returns
returns c =
    c.part.ensures ∙ ap (λ t. take c.self.inside.inputs (drop (c.args.k * c.self.inside.inputs) t)) c.as_slice-values.ensures.value
    ∙ kept_line c.self.inside.clocks c.self.inside.inputs c.self.inside.values.items _ c.args.k _ c.self.view_is c.requires refl
