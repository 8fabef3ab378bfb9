use Rattle.std.proofs.Common.{◌∙◌, ap, sym, arith}
use Rattle.std.specs.Prelude.{slice_get, ◌≢◌}
use Rattle.std.proofs.lemmas.Option.{slice_get-get_or, slice_get_within}
use Rattle.hc_net.specs.declared.net.Flop.{Flop}
use Rattle.hc_netsim.proofs.Found.{none_more}
use Rattle.hc_netsim.proofs.gates.Gates.flop.Goals as goal

pub returns-then-is_named-clause-none : goal.returns-then-is_named-clause-none
returns-then-is_named-clause-none c =
    let flops = c.as_slice-flops.ensures ∙ ap (λ raw. raw.flops) c.raw.ensures.raw ∙ ap (λ g. g.net.flops) c.self.view_is in
    (λ e. absurd cc, λ none. absurd (none c.loop-k.k _ (ap (λ fs. slice_get fs c.loop-k.k) (sym flops) ∙ slice_get-get_or c.as_slice-flops.result.now c.loop-k.k _ c.loop-k-test.true) (c.is_named.ensures.0 c.if-is_named.true)))

pub loop-k-preserved : goal.loop-k-preserved
loop-k-preserved c = none_more (λ (f : Flop). f.name ≢ c.args.name) c.as_slice-flops.result.now c.loop-k.k _ c.loop-k.invariant (slice_get-get_or c.as_slice-flops.result.now c.loop-k.k _ c.loop-k-test.true) (λ same. let named = c.is_named.ensures.1 same in absurd cc)

pub returns-clause-none : goal.returns-clause-none
returns-clause-none c =
    let flops = c.as_slice-flops.ensures ∙ ap (λ raw. raw.flops) c.raw.ensures.raw ∙ ap (λ g. g.net.flops) c.self.view_is in (
      λ e j f there.
          let here = ap (λ fs. slice_get fs j) flops ∙ there in
          let within = slice_get_within c.as_slice-flops.result.now j f here in
          c.loop-k.invariant j f (omega arith) here,
      λ none. cc,
    )
