-- The names of a scope that grows, and what a function that declares ensures.
use Rattle.std.specs.Prelude.{List, ℕ, Result}
use denote.Bor.{Bor}
use Rattle.hc_tree.specs.declared.refusal.FrontErr.{FrontErr}
use Rattle.hc_scope.specs.declared.state.State.{State}
use Rattle.hc_scope.specs.Expansion.{Outcome}
use Rattle.hc_scope.specs.Parts.{Context}
use Rattle.hc_scope.specs.Reading.{scope_in, scope_of, Answers}
use Rattle.hc_scope.specs.declared.scope.Declared.{Declared}
use Rattle.hc_scope.specs.declared.scope.Scope.{Scope}

-- the names that a table declares, in order
abbrev pub Entries : Type 0
Entries = List (Bor (List ℕ) × Declared)

-- the context of all names of a table
abbrev pub context_in : Entries → Scope → ℕ → Context
context_in entries around calls = record { scope = scope_in entries (scope_of around); calls = calls }

-- the context behind what is declared is that of the table, with the state behind it; or the refusal; or want of memory
abbrev pub AnswersNames : Entries → Scope → ℕ → Outcome Context → Result (Unit {0}) FrontErr → State → Type 0
AnswersNames entries around calls outcome result new = Answers (λ u. context_in entries around calls) outcome result new
