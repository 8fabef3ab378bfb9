-- What the code's scopes and answers stand for.
use Rattle.std.specs.Prelude.{◌≡◌, List, [], ◌∷◌, take, Option, Some, None, Result, Ok, Err, ℕ}
use denote.Bor.{Bor}
use Rattle.hc_tree.specs.declared.expr.ExprTree.{ExprTree}
use Rattle.hc_tree.specs.declared.refusal.FrontErr.{FrontErr}
use Rattle.hc_tree.specs.declared.refusal.FrontErr.TheVariants.{Refused, NoMemory}
use Rattle.hc_tree.specs.declared.refusal.Refusal.{Refusal}
use Rattle.hc_scope.specs.Scope as s
use Rattle.hc_scope.specs.Expression.{bound}
use Rattle.hc_scope.specs.declared.state.State.{State}
use Rattle.hc_scope.specs.Expansion.{Outcome, Yields, Refuses}
use Rattle.hc_scope.specs.Parts.{Context}
use Rattle.hc_scope.specs.Parts as p
use Rattle.hc_scope.specs.declared.shown.Shown.{Shown}
use Rattle.hc_scope.specs.declared.shown.Shown.TheVariants as shown
use Rattle.hc_width.specs.Operand.{operand}
use Rattle.hc_scope.specs.declared.scope.Declared.{Declared}
use Rattle.hc_scope.specs.declared.scope.Declared.TheVariants as d
use Rattle.hc_scope.specs.declared.scope.Meaning.{Meaning}
use Rattle.hc_scope.specs.declared.scope.Meaning.TheVariants as m
use Rattle.hc_scope.specs.declared.scope.Found.{Found}
use Rattle.hc_scope.specs.declared.scope.Named.{Named}
use Rattle.hc_scope.specs.declared.scope.Named.TheVariants as n
use Rattle.hc_scope.specs.declared.scope.Scope as code
use Rattle.hc_scope.specs.declared.scope.Scope.{Scope}

-- what a declared name stands for
abbrev pub declared_of : Declared → s.Meaning
declared_of (d.Object k) = s.an_object k
declared_of (d.Interface k port) = s.an_interface k port.now.name
declared_of (d.Expression parameters body) = s.an_expression parameters.now body.now
declared_of (d.Procedure parameters body) = s.a_procedure parameters.now body.now

-- names declared one after another within a scope
abbrev pub declared_in : List (Bor (List ℕ) × Declared) → s.Scope → s.Scope
declared_in [] around = around
declared_in (entry ∷ rest) around = declared_in rest (s.declared entry.0.now (declared_of entry.1) around)

-- the scope of all names of a table, within another one
abbrev pub scope_in : List (Bor (List ℕ) × Declared) → s.Scope → s.Scope
scope_in names around = declared_in names (s.opened around)

-- the scope that a chain stands for
unfoldable pub scope_of : Scope → s.Scope
scope_of code.Outside = s.outside
scope_of (code.Declares' names seen p around) = declared_in (take seen names.now.entries) (s.opened (scope_of around))
scope_of (code.Turn' x v p around) = s.declared x.now.name (s.a_number v.now) (s.opened (scope_of around))
scope_of (code.Binds' parameters arguments p call q around) = bound (scope_of call) parameters.now arguments.now (s.opened (scope_of around))

-- what is found
abbrev pub meaning_of : Meaning → s.Meaning
meaning_of (m.Object k) = s.an_object k
meaning_of (m.Interface k port) = s.an_interface k port.now.name
meaning_of (m.Number v) = s.a_number v.now
meaning_of (m.Expression parameters body) = s.an_expression parameters.now body.now
meaning_of (m.Procedure parameters body) = s.a_procedure parameters.now body.now
meaning_of (m.Argument e scope) = s.an_argument e.now (scope_of scope.now)

abbrev pub found_of : Found → s.Found
found_of f = record { meaning = meaning_of f.meaning; scope = scope_of f.scope }

abbrev pub Finds : Option s.Found → Option Found → Type 0
Finds found None = found ≡ None
Finds found (Some f) = found ≡ Some (found_of f)

-- what an expression stands for before an index
abbrev pub shown_of : Shown → p.Shown
shown_of (shown.Value v) = p.a_value (operand v)
shown_of (shown.Memory k) = p.a_memory k

-- the index that an argument gave a name
abbrev pub given_of : Option (Bor ExprTree × Bor Scope) → Option (ExprTree × s.Scope)
given_of None = None
given_of (Some i) = Some (i.0.now, scope_of i.1.now)

-- what stands in the place of a target or a channel
abbrev pub named_of : Named → s.Named
named_of (n.Missing x) = s.missing x.now
named_of (n.NoName x) = s.no_name x.now
named_of (n.Known x meaning i) = s.named x.now (meaning_of meaning) (given_of i)

-- a context of the code
abbrev pub context_of : Scope → ℕ → Context
context_of scope calls = record { scope = scope_of scope; calls = calls }

-- ---- what a function that expands ensures

-- the value, as it is read, and the state behind it; or the refusal; or want of memory
abbrev pub Answers : {A B : Type 0} → (A → B) → Outcome B → Result A FrontErr → State → Type 0
Answers read outcome (Ok a) new = outcome ≡ Yields (read a) new
Answers read outcome (Err (Refused r)) new = outcome ≡ Refuses r
Answers read outcome (Err NoMemory) new = Unit {0}

-- a refusal, or want of memory
abbrev pub Says : Refusal → FrontErr → Type 0
Says refusal (Refused r) = r ≡ refusal
Says refusal NoMemory = Unit {0}
