-- Sets of nodes that share their parts: a table of unions, which a set names by their numbers (this project's own).
use Rattle.std.specs.Prelude.{◌≡◌, ◌≤◌, ℕ, length, slice_set, List, [], ◌∷◌, ◌++◌, Option, Some, None, slice_get, Bool}
use Rattle.hc_tree.specs.declared.refusal.Node.{Node}
use Rattle.hc_tree.specs.declared.refusal.Node.TheVariants.{Value}
use Rattle.hc_core.specs.Program.{Expression, Target, Statement, Statements, stop, ◌⨾◌, Cases, Arms}
use Rattle.hc_core.specs.Depends.{Need, accesses, access_needs, signal_needs, needs, case_accesses, case_needs, arm_needs, needs_behind}
use Rattle.hc_core.specs.Instant.{deps, passes, finishes, partners, case_finishes, arm_passes, arm_finishes, where_it, Before, and_then}
use Rattle.hc_core.specs.Zero.{zero, some_zero, has_default}
use Rattle.hc_cycle.specs.declared.sets.Set.{Set}
use Rattle.hc_cycle.specs.declared.sets.Set.TheVariants.{Empty, One, Union}
use Rattle.hc_cycle.specs.declared.sets.Ends.{Ends}
use Rattle.hc_cycle.specs.declared.sets.CaseEnds.{CaseEnds}
use Rattle.hc_cycle.specs.declared.sets.ArmEnds.{ArmEnds}
use Rattle.hc_cycle.specs.declared.sets.Gather.{Gather}

-- Unions by their numbers; a number that is kept for later has none yet.
abbrev pub Table : Type 0
Table = List (Option (Set × Set))

-- A set has these members by a table. Order and number don't count.
pub data Reads (table : Table) : Set → List Node → Type 0 where
  no_member : Reads table Empty []
  one_member : (n : Node) → Reads table (One n) (n ∷ [])
  members : (k : ℕ) (a b : Set) (xs ys : List Node) → slice_get table k ≡ Some (Some (a, b)) → Reads table a xs → Reads table b ys → Reads table (Union k) (xs ++ ys)

-- Pairs of a node and a set are these dependencies, in any order.
pub data ReadNeeds (table : Table) : List (Node × Set) → List Need → Type 0 where
  no_need : ReadNeeds table [] []
  one_need : (n : Node) (s : Set) (on : List Node) → Reads table s on → ReadNeeds table ((n, s) ∷ []) (record { node = n; on = on } ∷ [])
  both_needs : (l m : List (Node × Set)) (xs ys : List Need) → ReadNeeds table l xs → ReadNeeds table m ys → ReadNeeds table (l ++ m) (xs ++ ys)
  in_turn : (l : List (Node × Set)) (xs ys : List Need) → ReadNeeds table l (xs ++ ys) → ReadNeeds table l (ys ++ xs)

-- a table has the unions of another
abbrev pub Extends : Table → Table → Type 0
Extends old new = (k : ℕ) (p : Set × Set) → slice_get old k ≡ Some (Some p) → slice_get new k ≡ Some (Some p)

-- A table goes on from another: it has its unions, and the numbers that are kept have still none.
pub record Grows (old new : Table) : Type 0 where
  pub extends : Extends old new
  pub waits : (k : ℕ) → slice_get old k ≡ Some None → slice_get new k ≡ Some None

-- A set has these members by each table that has the unions of this one.
pub record Shows (g : Gather) (s : Set) (xs : List Node) : Type 0 where
  pub shows : (table : Table) → Extends g.table table → Reads table s xs

-- A set is the union of two.
pub record Joins (old new : Gather) (a b s : Set) : Type 0 where
  pub grows : Grows old.table new.table
  pub same : new.needs ≡ old.needs
  pub shows : (table : Table) (xs ys : List Node) → Extends new.table table → Reads table a xs → Reads table b ys → Reads table s (xs ++ ys)

-- Dependencies are added, which are those that a set of nodes that decide a start gives.
pub record Adds (old new : Gather) (start : Set) (gives : List Node → List Need) : Type 0 where
  pub grows : Grows old.table new.table
  pub added : List (Node × Set)
  pub needs_are : new.needs ≡ old.needs ++ added
  pub says : (table : Table) (xs : List Node) → Extends new.table table → Reads table start xs → ReadNeeds table added (gives xs)

-- What decides that a statement takes no clock, is passed and finishes.
pub record AreEnds (g : Gather) (e : Ends) (s : Statement) : Type 0 where
  pub zero_is : e.zero ≡ zero s
  pub pass : Shows g e.pass (passes s)
  pub finish : Shows g e.finish (finishes s)

-- A set has the nodes that are read in an expression, and its words are accessed.
pub record AreRead (old new : Gather) (start s : Set) (e : Expression) : Type 0 where
  pub reads : Shows new s (deps e)
  pub adds : Adds old new start (λ xs. access_needs xs (accesses e))

-- A RAM or ROM is accessed, with an index that reads a set.
pub record Accesses (old new : Gather) (start : Set) (memory : ℕ) (index : Set) : Type 0 where
  pub grows : Grows old.table new.table
  pub adds : (ys : List Node) → Shows old index ys → Adds old new start (λ xs. record { node = Value memory; on = xs ++ ys } ∷ [])

-- A number is kept for a set.
pub record Keeps (old new : Gather) (at : ℕ) : Type 0 where
  pub grows : Grows old.table new.table
  pub same : new.needs ≡ old.needs
  pub fresh : length old.table ≤ at
  pub none : slice_get new.table at ≡ Some None

-- A number that was kept is that of the union of two sets.
pub record Fills (old new : Gather) (at : ℕ) (a b : Set) : Type 0 where
  pub same : new.needs ≡ old.needs
  pub table_is : new.table ≡ slice_set old.table at (Some (a, b))

-- The dependencies of a statement are added, and its ends are known.
pub record Visits (old new : Gather) (start : Set) (e : Ends) (s : Statement) : Type 0 where
  pub adds : Adds old new start (λ xs. needs xs s)
  pub ends : AreEnds new e s

-- Ends of two statements together.
pub record Beside (old new : Gather) (zero : Bool) (a b e : Ends) : Type 0 where
  pub grows : Grows old.table new.table
  pub same : new.needs ≡ old.needs
  pub zero_is : e.zero ≡ zero
  pub pass : (xs ys : List Node) → Shows old a.pass xs → Shows old b.pass ys → Shows new e.pass (xs ++ ys)
  pub finish : (xs ys : List Node) → Shows old a.finish xs → Shows old b.finish ys → Shows new e.finish (xs ++ ys)

-- Ends of a statement of which a set too decides the pass.
pub record Decided (old new : Gather) (read : Set) (a e : Ends) : Type 0 where
  pub grows : Grows old.table new.table
  pub same : new.needs ≡ old.needs
  pub zero_is : e.zero ≡ a.zero
  pub pass : (xs ys : List Node) → Shows old read xs → Shows old a.pass ys → Shows new e.pass (where_it a.zero (xs ++ ys))
  pub finish : (ys : List Node) → Shows old a.finish ys → Shows new e.finish ys

-- The dependencies of a target that is assigned, where it is a signal.
pub record Assigns (old new : Gather) (start read : Set) (t : Target) : Type 0 where
  pub grows : Grows old.table new.table
  pub adds : (e : Expression) → Shows old read (deps e) → Adds old new start (λ xs. signal_needs xs t e)

-- The dependencies of cases are added, and their partners and what decides their finish are known.
pub record VisitsCases (old new : Gather) (start : Set) (e : CaseEnds) (all : Cases) : Type 0 where
  pub adds : Adds old new start (λ xs. access_needs xs (case_accesses all) ++ case_needs all)
  pub partners_are : Shows new e.partners (partners all)
  pub finish : Shows new e.finish (case_finishes all)

-- The words that cases access are added, and their partners are known.
pub record VisitsOffers (old new : Gather) (start s : Set) (all : Cases) : Type 0 where
  pub adds : Adds old new start (λ xs. access_needs xs (case_accesses all))
  pub partners_are : Shows new s (partners all)

-- The dependencies of a statement that is started by no value of the clock are added, and what decides that it finishes, in
-- the clock in which it is started or later, is known.
pub record VisitsTaken (old new : Gather) (s : Set) (body : Statement) : Type 0 where
  pub adds : (start : Set) → Adds old new start (λ xs. needs [] body)
  pub finish : Shows new s (finishes body ++ passes body)

-- The dependencies of the arms of cases are added, and what decides their finish is known.
pub record VisitsCaseArms (old new : Gather) (s : Set) (all : Cases) : Type 0 where
  pub adds : (start : Set) → Adds old new start (λ xs. case_needs all)
  pub finish : Shows new s (case_finishes all)

-- The dependencies of arms are added, and their ends are known.
pub record VisitsArms (old new : Gather) (start : Set) (e : ArmEnds) (all : Arms) : Type 0 where
  pub adds : Adds old new start (λ xs. arm_needs xs all)
  pub zero_is : e.ends.zero ≡ some_zero all
  pub other_is : e.other ≡ has_default all
  pub pass : Shows new e.ends.pass (arm_passes all)
  pub finish : Shows new e.ends.finish (arm_finishes all)

-- A part of a sequence is behind the parts before it.
pub record IsBehind (g : Gather) (e : Ends) (b : Before) : Type 0 where
  pub zero_is : e.zero ≡ b.may_pass
  pub pass : Shows g e.pass b.pass
  pub finish : Shows g e.finish b.finish

-- A set decides the start of a part behind others.
pub record StartsBehind (old new : Gather) (start : Set) (before : Ends) (s : Set) : Type 0 where
  pub grows : Grows old.table new.table
  pub same : new.needs ≡ old.needs
  pub shows : (b : Before) → IsBehind old before b → (table : Table) (xs : List Node) → Extends new.table table → Reads table start xs
      → Reads table s (b.finish ++ where_it b.may_pass (xs ++ b.pass))

-- One more part stands behind others.
pub record Follows (old new : Gather) (before next e : Ends) : Type 0 where
  pub grows : Grows old.table new.table
  pub same : new.needs ≡ old.needs
  pub ends : (b : Before) (s : Statement) → IsBehind old before b → AreEnds old next s → IsBehind new e (and_then b s (finishes s))

-- what is known behind all of the statements
abbrev pub behind_all : Before → Statements → Before
behind_all b stop = b
behind_all b (next ⨾ rest) = behind_all (and_then b next (finishes next)) rest

-- The dependencies of statements behind others are added.
pub record VisitsBehind (old new : Gather) (start : Set) (before e : Ends) (all : Statements) : Type 0 where
  pub adds : (b : Before) → IsBehind old before b → Adds old new start (λ xs. needs_behind xs b all)
  pub ends : (b : Before) → IsBehind old before b → IsBehind new e (behind_all b all)
