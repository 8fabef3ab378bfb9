-- What the parts of a node give is paid by the nodes that they visit.
use Rattle.std.proofs.Common.{◌≡◌, ℕ, ◌+◌, ◌-◌, ◌≤◌, Bool, ℤ, List, length, subst, ◌∙◌, arith}
use Rattle.hc_tree.specs.declared.place.Place.{Place}
use Rattle.hc_tree.specs.declared.name.Ident.{Ident}
use Rattle.hc_tree.specs.declared.refusal.Rule.{Rule}
use Rattle.hc_tree.specs.declared.refusal.Detail.{Detail}
use Rattle.hc_tree.specs.declared.expr.ExprTree.{ExprTree}
use Rattle.hc_tree.specs.declared.stmt.Simple.{Simple}
use Rattle.hc_tree.specs.declared.stmt.Stmt.{Stmt}
use Rattle.hc_tree.specs.declared.stmt.Block.{Block}
use Rattle.hc_tree.specs.declared.stmt.Arm.{Arm}
use Rattle.hc_tree.specs.declared.stmt.Case.{Case}
use Rattle.hc_tree.specs.declared.stmt.Other.{Other}
use Rattle.hc_core.specs.Program.{Statement, Cases, no_case}
use Rattle.hc_core.specs.Parts.{statement_parts, all_parts, cases_parts}
use Rattle.hc_width.specs.Operand.{Operand}
use Rattle.hc_scope.specs.declared.state.State.{State}
use Rattle.hc_scope.specs.Expansion.{Expansion, Yields, ◌>>=◌, ◌<$>◌, pure, refuse}
use Rattle.hc_scope.specs.Parts.{Context, TypeOf, DeclaredName, Shown, a_value, a_memory, ArmParts, Parts}
use Rattle.hc_scope.specs.Statement.{in_order}
use Rattle.hc_expand.proofs.CountedSteps.{Counts, none, goes_through}
use Rattle.hc_expand.proofs.CountedWidths.{operand_parts}

-- ---- sizes

-- a value has its parts, and one is left of its node
abbrev pub value_size : Operand → ℕ
value_size v = operand_parts v + 1

-- a value of which one part is left of its node
abbrev pub one : {A : Type 0} → A → ℕ
one a = 1

abbrev pub shown_parts : Shown → ℕ
shown_parts (a_value v) = operand_parts v
shown_parts (a_memory k) = 0

-- the statements of a sequence
abbrev pub sequence_parts : List Statement → ℕ
sequence_parts parts = all_parts (in_order parts)

-- the statements of a block, and one part is left of its node
abbrev pub block_size : List Statement → ℕ
block_size parts = all_parts (in_order parts) + 1

-- an arm with its label values
abbrev pub arm_size : ArmParts → ℕ
arm_size a = 1 + length a.values + statement_parts a.body

-- a case, in front of no others
abbrev pub case_size : (Cases → Cases) → ℕ
case_size made = cases_parts (made no_case)

-- a case has as many parts in front of others
abbrev pub Adds : (Cases → Cases) → Type 0
Adds made = (rest : Cases) → cases_parts (made rest) ≡ cases_parts (made no_case) + cases_parts rest

-- ---- what is so of all that is yielded

pub record Ends {A : Type 0} (good : A → State → Type 0) (p : Expansion A) : Type 0 where
  pub ends : (s : State) (a : A) (t : State) → p s ≡ Yields a t → good a t

pub ends_after : {A B : Type 0} {good : B → State → Type 0} (p : Expansion A) {next : A → Expansion B} → ((a : A) → Ends good (next a)) → Ends good (p >>= next)
ends_after p {next = next} rest = record {
  ends = λ s b t is. (let th = goes_through (p s) next b t is in (rest th.value).ends th.state b t th.next_is);
}

pub ends_refused : {A : Type 0} {good : A → State → Type 0} {rule : Rule} {place : Place} {detail : Detail} → Ends good (refuse rule place detail)
ends_refused = record { ends = λ s a t is. absurd (cc) }

pub ends_given : {A : Type 0} {good : A → Type 0} {a : A} → good a → Ends (λ b t. good b) (pure a)
ends_given {good = good} {a = a} is_good = record {
  ends = λ s b t is. (let value : a ≡ b = cc in subst good value is_good);
}

-- what is made of what an expansion yields, and then goes on
record Mapped {A B C : Type 0} (p : Expansion A) (f : A → B) (next : B → Expansion C) (s : State) (c : C) (t : State) : Type 0 where
  value : A
  state : State
  first_is : p s ≡ Yields value state
  next_is : next (f value) state ≡ Yields c t

goes_mapped : {A B C : Type 0} (p : Expansion A) (f : A → B) (next : B → Expansion C) (s : State) (c : C) (t : State)
    → (f <$> p >>= next) s ≡ Yields c t → Mapped p f next s c t
goes_mapped p f next s c t is =
    let outer = goes_through ((f <$> p) s) next c t is in
    let inner = goes_through (p s) (λ x. pure (f x)) outer.value outer.state outer.first_is in
    let value : f inner.value ≡ outer.value = cc in
    let state : inner.state ≡ outer.state = cc in
    record { value = inner.value; state = inner.state; first_is = inner.first_is; next_is = (λ i. next (value i) (state i)) ∙ outer.next_is }

pub ends_mapped : {A B C : Type 0} {good : C → State → Type 0} (p : Expansion A) (f : A → B) (next : B → Expansion C) → ((a : A) → Ends good (next (f a)))
    → Ends good (f <$> p >>= next)
ends_mapped p f next rest = record {
  ends = λ s c t is. (let m = goes_mapped p f next s c t is in (rest m.value).ends m.state c t m.next_is);
}

pub after_mapped : {A B C : Type 0} {n : ℕ} (m : ℕ) {size : A → ℕ} {size' : C → ℕ} {p : Expansion A} (f : A → B) (next : B → Expansion C) → Counts m size p
    → m ≤ n → ((a : A) → Counts (size a + (n - m)) size' (next (f a))) → Counts n size' (f <$> p >>= next)
after_mapped m {p = p} f next first le rest = record {
  few = λ s c t is. (
      let by = goes_mapped p f next s c t is in
      let e = first.few s by.value by.state by.first_is in
      let g = (rest by.value).few by.state c t by.next_is in
      omega arith);
  limited = λ s c t is within. (
      let by = goes_mapped p f next s c t is in
      (rest by.value).limited by.state c t by.next_is (first.limited s by.value by.state by.first_is within));
}

-- a step of which more is known
pub after_known : {A B : Type 0} {n : ℕ} {size : A → ℕ} {size' : B → ℕ} {p : Expansion A} {next : A → Expansion B} {good : A → Type 0} → Counts 0 size p
    → Ends (λ a t. good a) p → ((a : A) → good a → Counts (size a + n) size' (next a)) → Counts n size' (p >>= next)
after_known {p = p} {next = next} first known rest = record {
  few = λ s b t is. (
      let th = goes_through (p s) next b t is in
      let f = first.few s th.value th.state th.first_is in
      let g = (rest th.value (known.ends s th.value th.state th.first_is)).few th.state b t th.next_is in
      omega arith);
  limited = λ s b t is within. (
      let th = goes_through (p s) next b t is in
      (rest th.value (known.ends s th.value th.state th.first_is)).limited th.state b t th.next_is (first.limited s th.value th.state th.first_is within));
}

-- ---- nodes at some depth

pub record Paid (p : Parts) : Type 0 where
  pub leaf : (c : Context) (place : Place) → Counts 0 none (p.leaf c place)
  pub name : (c : Context) (t : TypeOf) (x : DeclaredName) → Counts 0 none (p.name c t x)
  pub expression : (c : Context) (x : ExprTree) → Counts 0 value_size (p.expression c x)
  pub before_index : (c : Context) (x : ExprTree) → Counts 0 shown_parts (p.before_index c x)
  pub simple : (c : Context) (x : Simple) → Counts 0 statement_parts (p.simple c x)
  pub step : (c : Context) (x : Ident) (v : ℤ) (s : Simple) → Counts 0 none (p.step c x v s)
  pub statement : (c : Context) (s : Stmt) → Counts 0 statement_parts (p.statement c s)
  pub block : (c : Context) (b : Block) → Counts 0 block_size (p.block c b)
  pub arm : (c : Context) (w : ℕ) (s : Bool) (a : Arm) → Counts 0 arm_size (p.arm c w s a)
  pub case : (c : Context) (x : Case) → Counts 0 case_size (p.case c x)
  pub adds : (c : Context) (x : Case) → Ends (λ made t. Adds made) (p.case c x)
  pub other : (c : Context) (x : Other) → Counts 0 statement_parts (p.other c x)
