-- The actions of what is left of a statement are those of the statement: its leaves stand in text order.
use Rattle.std.proofs.Common.{◌≡◌, ℕ, ◌+◌, List, ◌++◌, map, length, None, refl, sym, ap, ◌∙◌, append_assoc}
use Rattle.std.proofs.lemmas.List.{append-nil, map-append, length-map}
use Rattle.hc_core.specs.FirstPlace.{first_of}
use Rattle.hc_core.specs.Program as p
use Rattle.hc_core.specs.Program.{Statement, Statements, stop, ◌⨾◌, Arms, no_arm, arm}
use Rattle.hc_meaning.specs.Control.{Leaf}
use Rattle.hc_meaning.specs.Residual.{Action, Residual, Then, residual, sequence, sequence_behind, branches_left, arms_left}
use Rattle.hc_control.specs.Built.{is_built_expression, unbuilt_statement, unbuilt_parts, unbuilt_arms}
use Rattle.hc_control.specs.Listing.{actions_in, actions_in_all, actions_in_arms, leaf_action}
use Rattle.hc_control.specs.Starts.{leaves, leaves_of_branches, leaves_of_arms}
use Rattle.hc_control.proofs.NoneFound.{none_first, none_within, not_none}

-- the actions of two lists of leaves, one behind the other
both : (xs ys : List Leaf) (first second : List Action) → map leaf_action xs ≡ first → map leaf_action ys ≡ second → map leaf_action (xs ++ ys) ≡ first ++ second
both xs ys first second one two = map-append leaf_action xs ys ∙ ap (λ l. l ++ map leaf_action ys) one ∙ ap (λ l. first ++ l) two

mutual
  unfolding residual sequence sequence_behind branches_left arms_left

  pub listed : (s : Statement) (n : ℕ) → unbuilt_statement s ≡ None → map leaf_action (leaves (residual s n).0) ≡ actions_in s
  listed p.Skip n h = refl
  listed (p.Assign place t e) n h = refl
  listed (p.Delay place) n h = refl
  listed (p.Seq place parts) n h = sequence_listed parts n h
  listed (p.Send place chan e) n h = absurd (not_none _ h)
  listed (p.Receive place chan t) n h = absurd (not_none _ h)
  listed (p.Prialt place cases) n h = absurd (not_none _ h)
  listed (p.PrialtElse place cases rest) n h = absurd (not_none _ h)
  listed (p.Par place branches) n h = branches_listed branches n h
  listed (p.If place c a b) n h =
      let parts = none_first (unbuilt_statement a) (unbuilt_statement b) (none_within (is_built_expression c) place (first_of (unbuilt_statement a) (unbuilt_statement b)) h) in
      both (leaves (residual a (n + 1)).0) (leaves (residual b (residual a (n + 1)).1).0) (actions_in a) (actions_in b) (listed a (n + 1) parts.0) (listed b (residual a (n + 1)).1 parts.1)
  listed (p.While place c body) n h = listed body (n + 1) (none_within (is_built_expression c) place (unbuilt_statement body) h)
  listed (p.DoWhile place body c) n h = listed body n (none_within (is_built_expression c) place (unbuilt_statement body) h)
  listed (p.Switch place e arms) n h = arms_listed arms (n + 1) (none_within (is_built_expression e) place (unbuilt_arms arms) h)

  sequence_listed : (parts : Statements) (n : ℕ) → unbuilt_parts parts ≡ None → map leaf_action (leaves (sequence parts n).0) ≡ actions_in_all parts
  sequence_listed stop n h = refl
  sequence_listed (first ⨾ rest) n h =
      let parts = none_first (unbuilt_statement first) (unbuilt_parts rest) h in
      behind_listed (actions_in first) (residual first n).0 rest (residual first n).1 (listed first n parts.0) parts.1

  behind_listed : (list : List Action) (done : Residual) (rest : Statements) (n : ℕ) → map leaf_action (leaves done) ≡ list → unbuilt_parts rest ≡ None
      → map leaf_action (leaves (sequence_behind done rest n).0) ≡ list ++ actions_in_all rest
  behind_listed list done stop n d h = d ∙ sym (append-nil list)
  behind_listed list done (next ⨾ rest) n d h =
      let parts = none_first (unbuilt_statement next) (unbuilt_parts rest) h in
      let here = both (leaves done) (leaves (residual next n).0) list (actions_in next) d (listed next n parts.0) in
      behind_listed (list ++ actions_in next) (Then done (residual next n).0) rest (residual next n).1 here parts.1 ∙ append_assoc list (actions_in next) (actions_in_all rest)

  branches_listed : (branches : Statements) (n : ℕ) → unbuilt_parts branches ≡ None → map leaf_action (leaves_of_branches (branches_left branches n).0) ≡ actions_in_all branches
  branches_listed stop n h = refl
  branches_listed (first ⨾ rest) n h =
      let parts = none_first (unbuilt_statement first) (unbuilt_parts rest) h in
      both (leaves (residual first n).0) (leaves_of_branches (branches_left rest (residual first n).1).0) (actions_in first) (actions_in_all rest) (listed first n parts.0)
      (branches_listed rest (residual first n).1 parts.1)

  arms_listed : (arms : Arms) (n : ℕ) → unbuilt_arms arms ≡ None → map leaf_action (leaves_of_arms (arms_left arms n).0) ≡ actions_in_arms arms
  arms_listed no_arm n h = refl
  arms_listed (arm values other body rest) n h =
      let parts = none_first (unbuilt_statement body) (unbuilt_arms rest) h in
      both (leaves (residual body n).0) (leaves_of_arms (arms_left rest (residual body n).1).0) (actions_in body) (actions_in_arms rest) (listed body n parts.0)
      (arms_listed rest (residual body n).1 parts.1)

-- there are as many leaves as actions
pub listed_count : (s : Statement) (n : ℕ) → unbuilt_statement s ≡ None → length (leaves (residual s n).0) ≡ length (actions_in s)
listed_count s n h = sym (length-map (leaves (residual s n).0) leaf_action) ∙ ap length (listed s n h)
