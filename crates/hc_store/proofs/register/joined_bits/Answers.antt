use Rattle.std.proofs.Common.{arith, length, ◌∙◌, subst, sym, List, ℕ, ◌<◌}
use Rattle.std.specs.Prelude.{All}
use Rattle.std.proofs.lemmas.List.Elements.{All-append}
use Rattle.std.proofs.lemmas.Result.{IfOk-weaker}
use Rattle.hc_net.specs.MadeLemmas.{Adds-there}
use Rattle.hc_store.proofs.Columns.{joined_made, kept_made}
use Rattle.hc_store.proofs.register.joined_bits.Goals as goal

pub returns-then-is_empty-clause-circuit : goal.returns-then-is_empty-clause-circuit
returns-then-is_empty-clause-circuit c =
    IfOk-weaker c.from_slice.result _ _
    (λ z is. kept_made c.args.q.now c.args.enables.now z c.args.values.now c.args.b.now (grind arith) c.requires.writes (is ∙ c.as_slice.ensures) c.requires.present)
    c.from_slice.ensures

pub next_bits-requires-clause-choices : goal.next_bits-requires-clause-choices
next_bits-requires-clause-choices c =
    let none = c.in_ok-none.ensures.circuit in
    let asked = c.in_ok-some.ensures.circuit in
    subst (λ (l : List ℕ). All (λ k. k < length c.invert.new.b.nodes) l) (sym c.in_ok-choices.ensures)
    (All-append (λ k. k < length c.invert.new.b.nodes) c.args.enables.now c.in_ok-none.none
    (Adds-there c.args.enables.now none.adds (Adds-there c.args.enables.now asked.adds c.requires.enables)) none.there)

pub returns-clause-circuit : goal.returns-clause-circuit
returns-clause-circuit c =
    IfOk-weaker c.next_bits.result _ _
    (λ z made. joined_made c.args.q.now c.args.enables.now c.in_ok-some.some c.in_ok-none.none c.in_ok-choices.choices z c.args.values.now (length c.args.b.now.nodes)
    c.args.b.now c.truth.new.b c.invert.new.b c.next_bits.new.b c.requires.writes c.in_ok-some.ensures.width c.in_ok-none.ensures.width c.requires.values c.in_ok-choices.ensures
    c.in_ok-some.ensures.circuit c.in_ok-none.ensures.circuit made)
    c.next_bits.ensures.circuit
