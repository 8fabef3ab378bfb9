use Rattle.std.proofs.Common.{◌≡◌, ◌<◌, ◌-◌, ◌^◌, ℕ, List, length, sym, ap, subst, ◌∙◌}
use Rattle.std.specs.Prelude.{All, min}
use Rattle.hc_net.proofs.Built.{built_output, counted_output}
use Rattle.hc_net.proofs.builder.Builder.output.Goals as goal
use Rattle.hc_net.proofs.builder.Builder.output.Goals.{in-Ok, in-Err}

pub invariant_of-self : goal.invariant_of-self
invariant_of-self c =
    let same : c.in_ok-from_slice.field-0 ≡ c.args.from.now = c.in_ok-from_slice.ensures ∙ c.as_slice.ensures in
    let nets = subst (λ (l : List ℕ). All (λ k. k < length c.args.self.now.nodes) l) (sym same) c.requires.nets in
    let wide : c.min-width.result ≡ min (length c.in_ok-from_slice.field-0) (2 ^ 32 - 1) = c.min-width.ensures ∙ ap (λ n. min n (2 ^ 32 - 1)) (c.len.ensures ∙ ap length (sym same)) in
    elim c.match-push.branch [
      | in-Ok w ↦ (counted_output _ c.self.inside.ports _ _ _ _ c.push.new.self c.self.invariant.0 w.in-Ok.ensures.ok, built_output _ c.args.self.now _ c.min-width.result _ c.in_ok-from_slice.field-0 c.push.new.self c.self.view_is c.self.invariant.1 nets c.requires.ports wide w.in-Ok.ensures.ok)
      | in-Err w ↦ rw w.in-Err.ensures.err c.self.invariant
    ]
