-- What the actions at the front of a clock write: the writes of each action that is on, in text order.
use Rattle.std.proofs.Common.{◌≡◌, ◌<◌, ℕ, suc, ◌+◌, List, [], ◌∷◌, ◌++◌, length, map, Bool, true, false, None, if◌then◌else◌, flat_map, refl, ap, ◌∙◌, arith}
use Rattle.std.specs.Prelude.{slice_index, All}
use Rattle.std.proofs.lemmas.List.Elements.{All-nil, All-cons, All-append}
use Rattle.hc_core.specs.FirstPlace.{first_of}
use Rattle.hc_core.specs.Program as p
use Rattle.hc_core.specs.Program.{Statement, Statements, stop, ◌⨾◌, Arms, no_arm, arm}
use Rattle.hc_core.specs.declared.object.Kind.{Kind}
use Rattle.hc_meaning.specs.Residual.{Action, Assign, Delay, Send, Receive, Residual, Then, residual, sequence, sequence_behind, branches_left, arms_left}
use Rattle.hc_meaning.specs.Control.{Leaf, does, chooses_from}
use Rattle.hc_meaning.specs.Value.{World, number_of}
use Rattle.hc_meaning.specs.Clock.{Write, written_at, writes}
use Rattle.hc_control.specs.Built.{is_built_expression, unbuilt_statement, unbuilt_parts, unbuilt_arms}
use Rattle.hc_control.specs.Listing.{leaf_action}
use Rattle.hc_control.specs.Starts.{leaves, leaves_of_branches, leaves_of_arms, selected}
use Rattle.hc_control.specs.Uses.{IsBuiltAction}
use Rattle.hc_control.proofs.NoneFound.{none_first, none_within, not_none}

-- ---- leaves are actions

abbrev pub IsAct : Leaf → Type 0
IsAct (does n a) = Unit {0}
IsAct (chooses_from n cases) = ⊥

mutual
  unfolding residual sequence sequence_behind branches_left arms_left

  pub all_act : (s : Statement) (n : ℕ) → unbuilt_statement s ≡ None → All IsAct (leaves (residual s n).0)
  all_act p.Skip n h = All-nil IsAct
  all_act (p.Assign place t e) n h = All-cons IsAct (does n (Assign t e)) [] tt (All-nil IsAct)
  all_act (p.Delay place) n h = All-cons IsAct (does n Delay) [] tt (All-nil IsAct)
  all_act (p.Seq place parts) n h = sequence_act parts n h
  all_act (p.Send place chan e) n h = absurd (not_none _ h)
  all_act (p.Receive place chan t) n h = absurd (not_none _ h)
  all_act (p.Prialt place cases) n h = absurd (not_none _ h)
  all_act (p.PrialtElse place cases rest) n h = absurd (not_none _ h)
  all_act (p.Par place branches) n h = branches_act branches n h
  all_act (p.If place c a b) n h =
      let parts = none_first (unbuilt_statement a) (unbuilt_statement b) (none_within (is_built_expression c) place (first_of (unbuilt_statement a) (unbuilt_statement b)) h) in
      All-append IsAct (leaves (residual a (n + 1)).0) (leaves (residual b (residual a (n + 1)).1).0) (all_act a (n + 1) parts.0) (all_act b (residual a (n + 1)).1 parts.1)
  all_act (p.While place c body) n h = all_act body (n + 1) (none_within (is_built_expression c) place (unbuilt_statement body) h)
  all_act (p.DoWhile place body c) n h = all_act body n (none_within (is_built_expression c) place (unbuilt_statement body) h)
  all_act (p.Switch place e arms) n h = arms_act arms (n + 1) (none_within (is_built_expression e) place (unbuilt_arms arms) h)

  sequence_act : (parts : Statements) (n : ℕ) → unbuilt_parts parts ≡ None → All IsAct (leaves (sequence parts n).0)
  sequence_act stop n h = All-nil IsAct
  sequence_act (first ⨾ rest) n h =
      let parts = none_first (unbuilt_statement first) (unbuilt_parts rest) h in
      behind_act (residual first n).0 rest (residual first n).1 (all_act first n parts.0) parts.1

  behind_act : (done : Residual) (rest : Statements) (n : ℕ) → All IsAct (leaves done) → unbuilt_parts rest ≡ None → All IsAct (leaves (sequence_behind done rest n).0)
  behind_act done stop n d h = d
  behind_act done (next ⨾ rest) n d h =
      let parts = none_first (unbuilt_statement next) (unbuilt_parts rest) h in
      let here = All-append IsAct (leaves done) (leaves (residual next n).0) d (all_act next n parts.0) in
      behind_act (Then done (residual next n).0) rest (residual next n).1 here parts.1

  branches_act : (branches : Statements) (n : ℕ) → unbuilt_parts branches ≡ None → All IsAct (leaves_of_branches (branches_left branches n).0)
  branches_act stop n h = All-nil IsAct
  branches_act (first ⨾ rest) n h =
      let parts = none_first (unbuilt_statement first) (unbuilt_parts rest) h in
      All-append IsAct (leaves (residual first n).0) (leaves_of_branches (branches_left rest (residual first n).1).0) (all_act first n parts.0) (branches_act rest (residual first n).1 parts.1)

  arms_act : (arms : Arms) (n : ℕ) → unbuilt_arms arms ≡ None → All IsAct (leaves_of_arms (arms_left arms n).0)
  arms_act no_arm n h = All-nil IsAct
  arms_act (arm values other body rest) n h =
      let parts = none_first (unbuilt_statement body) (unbuilt_arms rest) h in
      All-append IsAct (leaves (residual body n).0) (leaves_of_arms (arms_left rest (residual body n).1).0) (all_act body n parts.0) (arms_act rest (residual body n).1 parts.1)

-- ---- what is written

-- what an action of built forms writes at the edge
abbrev pub wrote : World → Action → List Write
wrote w (Assign t e) = written_at w t (number_of w e).bits
wrote w Delay = []
wrote w (Send chan e) = []
wrote w (Receive chan t) = []

-- what those actions write that are on by their numbers, of which the first is n
abbrev pub wrote_from : World → (ℕ → Bool) → ℕ → List Action → List Write
wrote_from w on n [] = []
wrote_from w on n (a ∷ rest) = (if on n then wrote w a else []) ++ wrote_from w on (n + 1) rest

wrote_is : (kinds : List Kind) (w : World) (front : List Leaf) (n : ℕ) (a : Action) → IsBuiltAction kinds a → writes w front (does n a) ≡ wrote w a
wrote_is kinds w front n (Assign t e) built = refl
wrote_is kinds w front n Delay built = refl
wrote_is kinds w front n (Send chan e) built = refl
wrote_is kinds w front n (Receive chan t) built = absurd built

selected_first : (kinds : List Kind) (w : World) (front : List Leaf) (m : ℕ) (a : Action) (bits : List Bool) (list : List Leaf) (behind : List Write) → IsBuiltAction kinds a → (b : Bool)
    → flat_map (writes w front) (selected bits list) ≡ behind → flat_map (writes w front) (selected (b ∷ bits) (does m a ∷ list)) ≡ (if b then wrote w a else []) ++ behind
selected_first kinds w front m a bits list behind built true is =
    ap (λ l. l ++ flat_map (writes w front) (selected bits list)) (wrote_is kinds w front m a built) ∙ ap (λ l. wrote w a ++ l) is
selected_first kinds w front m a bits list behind built false is = is

-- what is selected by the bits of nets writes what those actions write whose nets hold
pub selected_writes : (kinds : List Kind) (w : World) (front : List Leaf) (v on : ℕ → Bool) (n : ℕ) (starts : List ℕ) (list : List Leaf)
    → ((i : ℕ) → i < length starts → v (slice_index starts i) ≡ on (n + i)) → length starts ≡ length list → All IsAct list → All (IsBuiltAction kinds) (map leaf_action list)
    → flat_map (writes w front) (selected (map v starts) list) ≡ wrote_from w on n (map leaf_action list)
selected_writes kinds w front v on n [] [] is count act built = refl
selected_writes kinds w front v on n [] (l ∷ list) is count act built = absurd (omega (arith, count))
selected_writes kinds w front v on n (s ∷ starts) [] is count act built = absurd (omega (arith, count))
selected_writes kinds w front v on n (s ∷ starts) (chooses_from m cases ∷ list) is count act built = absurd (act 0 (does 0 Delay) (omega arith))
selected_writes kinds w front v on n (s ∷ starts) (does m a ∷ list) is count act built =
    selected_first kinds w front m a (map v starts) list (wrote_from w on (n + 1) (map leaf_action list)) (built 0 Delay (omega arith)) (v s)
    (selected_writes kinds w front v on (n + 1) starts list (λ i low. is (suc i) (omega (arith, low)) ∙ ap on (let e : n + suc i ≡ n + 1 + i = omega arith in e)) (omega (arith, count))
    (λ i d low. act (suc i) d (omega (arith, low))) (λ i d low. built (suc i) d (omega (arith, low))))
    ∙ ap (λ b. (if b then wrote w a else []) ++ wrote_from w on (n + 1) (map leaf_action list)) (is 0 (omega arith) ∙ ap on (let e : n + 0 ≡ n = omega arith in e))
