use Rattle.std.proofs.Common.{◌≡◌, ◌∙◌, ℕ, ap, sym, refl, arith, Some}
use Rattle.std.specs.Prelude.{◌≢◌, slice_get}
use Rattle.std.proofs.lemmas.Option.{slice_get-get_or, slice_get_within}
use Rattle.hc_net.specs.Run.{rams_of}
use Rattle.hc_netsim.specs.Held.{Held}
use Rattle.hc_netsim.proofs.Found.{none_more, no_word, nothing_named, some_word}
use Rattle.hc_netsim.proofs.gates.Gates.word.Goals as goal

pub returns-then-object-clause-some : goal.returns-then-object-clause-some
returns-then-object-clause-some c =
    let m = c.memory-item.result in
    let items = c.as_slice-memory-items in
    let k = c.loop-memory.memory-index in
    let at = ap (λ l. slice_get l k) (sym items.ensures.value) ∙ slice_get-get_or items.result.now k m c.loop-memory-test.true ∙ ap Some (sym c.memory-item.is) in
    rw (← c.self.view_is)
    (some_word (rams_of c.self.inside.net.now.cells) c.self.inside.state.items c.self.inside.memories.items c.args.object c.args.index k m c.self.invariant.valid.v5.ram_names c.self.invariant.rams at (sym c.object.ensures ∙ c.if-object.true)
    c.word.result c.word.ensures.some c.word.ensures.none)

pub returns-then-object-clause-none : goal.returns-then-object-clause-none
returns-then-object-clause-none c =
    let m = c.memory-item.result in
    let items = c.as_slice-memory-items in
    let k = c.loop-memory.memory-index in
    let at = ap (λ l. slice_get l k) (sym items.ensures.value) ∙ slice_get-get_or items.result.now k m c.loop-memory-test.true ∙ ap Some (sym c.memory-item.is) in
    rw (← c.self.view_is)
    (no_word (rams_of c.self.inside.net.now.cells) c.self.inside.state.items c.self.inside.memories.items c.args.object c.args.index k m c.self.invariant.valid.v5.ram_names c.self.invariant.rams at (sym c.object.ensures ∙ c.if-object.true)
    c.word.result c.word.ensures.none)

pub loop-memory-preserved : goal.loop-memory-preserved
loop-memory-preserved c =
    let m = c.memory-item.result in
    let items = c.as_slice-memory-items.result.now in
    let k = c.loop-memory.memory-index in
    none_more (λ (m : Held). m.ram.object ≢ c.args.object) items k m c.loop-memory.invariant (slice_get-get_or items k m c.loop-memory-test.true ∙ ap Some (sym c.memory-item.is)) (λ same. c.if-object.false (c.object.ensures ∙ same))

pub returns-clause-none : goal.returns-clause-none
returns-clause-none c =
    let items = c.as_slice-memory-items in
    let none : (j : ℕ) (m : Held) → slice_get c.self.inside.memories.items j ≡ Some m → m.ram.object ≢ c.args.object = λ j m at.
    let here = ap (λ l. slice_get l j) items.ensures.value ∙ at in
    let within = slice_get_within items.result.now j m here in
    c.loop-memory.invariant j m (omega arith) here in
    rw (← c.self.view_is) (λ e. nothing_named (rams_of c.self.inside.net.now.cells) c.self.inside.memories.items c.args.object c.args.index c.self.invariant.rams none, λ past. refl)
