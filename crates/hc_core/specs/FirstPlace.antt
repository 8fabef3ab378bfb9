-- The first place at which a core breaks a rule: objects by number, then statements, an outer statement before those within it,
-- and left before right (this project's own). A rule tells of an object and of a statement what it finds there, as the object
-- that it names.
use Rattle.std.specs.Prelude.{ℕ, ◌+◌, List, [], ◌∷◌, Option, Some, None}
use Rattle.hc_tree.specs.declared.place.Place.{Place}
use Rattle.hc_core.specs.Program.{Statement, Skip, Assign, Delay, Send, Receive, Prialt, PrialtElse, Seq, Par, If, While, DoWhile, Switch, Statements, stop, ◌⨾◌, Cases, no_case, send_case, receive_case, Arms, no_arm, arm}
use Rattle.hc_core.specs.Read.{statement}
use Rattle.hc_core.specs.declared.object.Kind.{Kind}
use Rattle.hc_core.specs.declared.object.Object.{Object}
use Rattle.hc_core.specs.declared.object.Core.{Core}

-- the first of two, if there is one
abbrev pub first_of : {A : Type 0} → Option A → Option A → Option A
first_of (Some found) rest = Some found
first_of None rest = rest

-- what is found at a place, else what is found within
abbrev pub here_or : {A : Type 0} → Place → Option A → Option (Place × A) → Option (Place × A)
here_or place (Some found) within = Some (place, found)
here_or place None within = within

abbrev mutual
  -- what is found in a statement with its place, else what is found first within it
  pub first_where : {A : Type 0} → (Statement → Option A) → Statement → Option (Place × A)
  first_where finds Skip = None
  first_where finds (Assign place t e) = here_or place (finds (Assign place t e)) None
  first_where finds (Delay place) = here_or place (finds (Delay place)) None
  first_where finds (Send place chan e) = here_or place (finds (Send place chan e)) None
  first_where finds (Receive place chan t) = here_or place (finds (Receive place chan t)) None
  first_where finds (Prialt place cases) = here_or place (finds (Prialt place cases)) (first_in_cases finds cases)
  first_where finds (PrialtElse place cases rest) =
      here_or place (finds (PrialtElse place cases rest)) (first_of (first_in_cases finds cases) (first_where finds rest))
  first_where finds (Seq place parts) = here_or place (finds (Seq place parts)) (first_in finds parts)
  first_where finds (Par place branches) = here_or place (finds (Par place branches)) (first_in finds branches)
  first_where finds (If place c a b) = here_or place (finds (If place c a b)) (first_of (first_where finds a) (first_where finds b))
  first_where finds (While place c body) = here_or place (finds (While place c body)) (first_where finds body)
  first_where finds (DoWhile place body c) = here_or place (finds (DoWhile place body c)) (first_where finds body)
  first_where finds (Switch place e arms) = here_or place (finds (Switch place e arms)) (first_in_arms finds arms)

  pub first_in : {A : Type 0} → (Statement → Option A) → Statements → Option (Place × A)
  first_in finds stop = None
  first_in finds (first ⨾ rest) = first_of (first_where finds first) (first_in finds rest)

  pub first_in_cases : {A : Type 0} → (Statement → Option A) → Cases → Option (Place × A)
  first_in_cases finds no_case = None
  first_in_cases finds (send_case chan e first rest) = first_of (first_where finds first) (first_in_cases finds rest)
  first_in_cases finds (receive_case chan t first rest) = first_of (first_where finds first) (first_in_cases finds rest)

  pub first_in_arms : {A : Type 0} → (Statement → Option A) → Arms → Option (Place × A)
  first_in_arms finds no_arm = None
  first_in_arms finds (arm values other body rest) = first_of (first_where finds body) (first_in_arms finds rest)

-- what is found first in objects that are numbered from k on, with the place of its declaration
abbrev pub first_object : {A : Type 0} → (ℕ → Kind → Option A) → ℕ → List Object → Option (Place × A)
first_object finds k [] = None
first_object finds k (o ∷ rest) = here_or o.place (finds k o.kind) (first_object finds (k + 1) rest)

-- what is found first in a core
abbrev pub first_found : {A : Type 0} → (ℕ → Kind → Option A) → (Statement → Option A) → Core → Option (Place × A)
first_found in_objects in_statements core = first_of (first_object in_objects 0 core.objects) (first_where in_statements (statement core.main))
