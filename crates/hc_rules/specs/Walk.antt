-- What is found in a statement, apart from what is found first in the statements within it.
use Rattle.std.specs.Prelude.{Option, Some, None}
use Rattle.hc_tree.specs.declared.place.Place.{Place}
use Rattle.hc_core.specs.Program.{Statement, Skip, Assign, Delay, Send, Receive, Prialt, PrialtElse, Seq, Par, If, While, DoWhile, Switch}
use Rattle.hc_core.specs.FirstPlace.{first_of, here_or, first_where, first_in, first_in_cases, first_in_arms}

-- the place of a statement, if it has one
abbrev pub place_of : Statement → Option Place
place_of Skip = None
place_of (Assign place t e) = Some place
place_of (Delay place) = Some place
place_of (Send place chan e) = Some place
place_of (Receive place chan t) = Some place
place_of (Prialt place cases) = Some place
place_of (PrialtElse place cases rest) = Some place
place_of (Seq place parts) = Some place
place_of (Par place branches) = Some place
place_of (If place c a b) = Some place
place_of (While place c body) = Some place
place_of (DoWhile place body c) = Some place
place_of (Switch place e arms) = Some place

abbrev pub found_at : {A : Type 0} → Option Place → Option A → Option (Place × A)
found_at None found = None
found_at (Some place) found = here_or place found None

-- what is found in a statement itself
abbrev pub here : {A : Type 0} → (Statement → Option A) → Statement → Option (Place × A)
here finds s = found_at (place_of s) (finds s)

-- what is found first within it
abbrev pub within : {A : Type 0} → (Statement → Option A) → Statement → Option (Place × A)
within finds Skip = None
within finds (Assign place t e) = None
within finds (Delay place) = None
within finds (Send place chan e) = None
within finds (Receive place chan t) = None
within finds (Prialt place cases) = first_in_cases finds cases
within finds (PrialtElse place cases rest) = first_of (first_in_cases finds cases) (first_where finds rest)
within finds (Seq place parts) = first_in finds parts
within finds (Par place branches) = first_in finds branches
within finds (If place c a b) = first_of (first_where finds a) (first_where finds b)
within finds (While place c body) = first_where finds body
within finds (DoWhile place body c) = first_where finds body
within finds (Switch place e arms) = first_in_arms finds arms
