use Rattle.std.proofs.Common.{arith, List, ℕ, length, subst, sym}
use Rattle.std.proofs.lemmas.Result.{IfOk-weaker}
use Rattle.hc_bits.proofs.Parts.{IfOk-both}
use Rattle.hc_ram.specs.Enabled.{AreLists}
use Rattle.hc_ram.proofs.PinSources.{written_none, written_some}
use Rattle.hc_ram.proofs.sources.written.Goals as goal

pub returns-then-is_empty-clause-circuit : goal.returns-then-is_empty-clause-circuit
returns-then-is_empty-clause-circuit c =
    IfOk-both c.zeros.result _ _ _
    (λ z size made. written_none c.args.width c.args.writers.now.enables z c.args.writers.now.words.items c.args.b.now c.zeros.new.b (grind arith) size made)
    c.zeros.ensures.width c.zeros.ensures.circuit

pub any_enabled-requires-clause-values : goal.any_enabled-requires-clause-values
any_enabled-requires-clause-values c = subst (λ (l : List (List ℕ)). AreLists (length c.args.b.now.nodes) c.args.width l) (sym c.as_slice.ensures.value) c.requires.words

pub returns-clause-circuit : goal.returns-clause-circuit
returns-clause-circuit c =
    IfOk-weaker c.any_enabled.result _ _
    (λ z made. written_some c.args.width c.args.writers.now.enables z c.as_slice.result.now c.args.writers.now.words.items c.args.b.now c.any_enabled.new.b c.as_slice.ensures.value made)
    c.any_enabled.ensures.circuit
