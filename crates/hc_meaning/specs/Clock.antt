-- One clock of a core: what agrees within it, what is completed in it, when it is clean, and what the objects hold after it (after
-- the timing of the Handel-C manual; what goes beyond it is this project's own).
use Rattle.std.specs.Prelude.{◌≡◌, ◌≢◌, ℕ, ◌+◌, List, [], ◌∷◌, ◌++◌, Bool, true, false, ◌||◌, ◌==◌, nat_lt, bit_or, if◌then◌else◌, Option, Some, None, slice_get, slice_index_or, AllPairs}
use Rattle.std.specs.List.{list_any, flat_map}
use Rattle.hc_core.specs.Program.{Target, ToRegister, ToElement, ToWord, ToSignal}
use Rattle.hc_core.specs.Depends.{Access, accesses, target_accesses}
use Rattle.hc_core.specs.Rules.{accessed, is_in}
use Rattle.hc_core.specs.Read.{expression}
use Rattle.hc_core.specs.declared.object.Kind.{Kind}
use Rattle.hc_core.specs.declared.object.Kind.TheVariants as kind
use Rattle.hc_meaning.specs.Residual.{Action, Assign, Delay, Send, Receive, Offer, Sends, Receives, Residual, Skip, Act, Prialt, PrialtElse, Then, Par, If, While, DoWhile, Switch, Branches, ended, ◌∥◌, Cases, no_case, case_of}
use Rattle.hc_meaning.specs.Value.{Store, with_word, Instant, World, number_of}
use Rattle.hc_meaning.specs.Control.{is_ready, Condition, Leaf, does, chooses_from}

-- ---- what agrees

-- the values that a front assigns to a signal
abbrev pub assigned : World → ℕ → Leaf → List ℕ
assigned w k (does n (Assign (ToSignal j) e)) = if j == k then (number_of w e).bits ∷ [] else []
assigned w k _ = []

-- the bitwise or of numbers
abbrev pub or_all : List ℕ → ℕ
or_all [] = 0
or_all (bits ∷ rest) = bit_or bits (or_all rest)

-- the bitwise or of what is assigned, or the default where nothing is
abbrev pub presented : ℕ → List ℕ → ℕ
presented unset [] = unset
presented unset (bits ∷ rest) = or_all (bits ∷ rest)

-- the number of a signal, object k; what is no signal has 0
abbrev pub signal_bits : World → List Leaf → ℕ → Kind → ℕ
signal_bits w front k (kind.Signal width s unset) = presented unset.bits (flat_map (assigned w k) front)
signal_bits w front k _ = 0

-- whether an action is a plain send or a plain receive on a channel
abbrev pub is_send : ℕ → Leaf → Bool
is_send k (does n (Send chan e)) = chan == k
is_send k _ = false

abbrev pub is_receive : ℕ → Leaf → Bool
is_receive k (does n (Receive chan t)) = chan == k
is_receive k _ = false

-- what each object has from the front, numbered from k on
abbrev pub each_from : {A : Type 0} → (ℕ → Kind → A) → ℕ → List Kind → List A
each_from of k [] = []
each_from of k (kind ∷ kinds) = of k kind ∷ each_from of (k + 1) kinds

-- what a front gives, read in a world
abbrev pub shown_by : World → List Leaf → Instant
shown_by w front = record {
  signals = each_from (signal_bits w front) 0 w.kinds;
  sends = each_from (λ k kind. list_any (is_send k) front) 0 w.kinds;
  receives = each_from (λ k kind. list_any (is_receive k) front) 0 w.kinds;
}

-- the instant of a world is what the front gives in it
abbrev pub Agrees : World → List Leaf → Type 0
Agrees w front = w.instant ≡ shown_by w front

-- ---- what is completed

-- the first ready case: its number and its offer, with its arm
abbrev pub first_ready : World → Cases → Option ((ℕ × Offer) × Residual)
first_ready w no_case = None
first_ready w (case_of n offer body rest) = if is_ready w offer then Some ((n, offer), body) else first_ready w rest

-- the case that a `prialt` of the front takes: its number and its offer
abbrev pub taken : World → Leaf → Option (ℕ × Offer)
taken w (does n a) = None
taken w (chooses_from n cases) = case_in (first_ready w cases)
  where
    case_in : Option ((ℕ × Offer) × Residual) → Option (ℕ × Offer)
    case_in None = None
    case_in (Some found) = Some found.0

-- whether it is a receive case on channel k, or a send case
abbrev pub takes_receive : ℕ → Option (ℕ × Offer) → Bool
takes_receive k (Some (n, Receives chan t)) = chan == k
takes_receive k _ = false

abbrev pub takes_send : ℕ → Option (ℕ × Offer) → Bool
takes_send k (Some (n, Sends chan e)) = chan == k
takes_send k _ = false

-- whether an action is finished at the edge
abbrev pub is_completed : World → List Leaf → Action → Bool
is_completed w front (Assign t e) = true
is_completed w front Delay = true
is_completed w front (Send chan e) = slice_index_or w.instant.receives chan false || list_any (λ l. takes_receive chan (taken w l)) front
is_completed w front (Receive chan t) = slice_index_or w.instant.sends chan false || list_any (λ l. takes_send chan (taken w l)) front

-- a `prialt` after the edge: the arm of its first ready case, or itself
abbrev pub arm_or : Residual → Option ((ℕ × Offer) × Residual) → Residual
arm_or waiting None = waiting
arm_or waiting (Some found) = found.1

abbrev mutual
  -- what is left of a resolved statement after the edge
  pub behind_edge : World → List Leaf → Residual → Residual
  behind_edge w front Skip = Skip
  behind_edge w front (Act n a) = if is_completed w front a then Skip else Act n a
  behind_edge w front (Prialt n cases) = arm_or (Prialt n cases) (first_ready w cases)
  behind_edge w front (PrialtElse n cases other) = arm_or (PrialtElse n cases other) (first_ready w cases)
  behind_edge w front (Then a b) = Then (behind_edge w front a) b
  behind_edge w front (Par branches) = Par (all_behind_edge w front branches)
  behind_edge w front (If n c a b) = If n c a b
  behind_edge w front (While n c body) = While n c body
  behind_edge w front (DoWhile body n c) = DoWhile body n c
  behind_edge w front (Switch n e arms) = Switch n e arms

  pub all_behind_edge : World → List Leaf → Branches → Branches
  all_behind_edge w front ended = ended
  all_behind_edge w front (first ∥ rest) = behind_edge w front first ∥ all_behind_edge w front rest

-- ---- what is written

-- the values that are sent on a channel in the clock: by plain sends, and by send cases that are taken
abbrev pub sent_by : World → ℕ → Leaf → List ℕ
sent_by w k (does n (Send chan e)) = if chan == k then (number_of w e).bits ∷ [] else []
sent_by w k (does n a) = []
sent_by w k (chooses_from n cases) = sent_in (taken w (chooses_from n cases))
  where
    sent_in : Option (ℕ × Offer) → List ℕ
    sent_in (Some (n, Sends chan e)) = if chan == k then (number_of w e).bits ∷ [] else []
    sent_in _ = []

-- the value that is sent on a channel in a clean clock
abbrev pub sent : World → List Leaf → ℕ → ℕ
sent w front k = slice_index_or (flat_map (sent_by w k) front) 0 0

-- a number that is written at an index of an object
pub record Write : Type 0 where
  pub object : ℕ
  pub index : ℕ
  pub bits : ℕ

-- what is written where: a signal is no part of the store
abbrev pub written_at : World → Target → ℕ → List Write
written_at w (ToRegister k) bits = record { object = k; index = 0; bits = bits } ∷ []
written_at w (ToElement k i) bits = record { object = k; index = (number_of w i).bits; bits = bits } ∷ []
written_at w (ToWord k i) bits = record { object = k; index = (number_of w i).bits; bits = bits } ∷ []
written_at w (ToSignal k) bits = []

-- what an action of the front writes at the edge, all values being read before it
abbrev pub writes : World → List Leaf → Leaf → List Write
writes w front (does n (Assign t e)) = written_at w t (number_of w e).bits
writes w front (does n Delay) = []
writes w front (does n (Send chan e)) = []
writes w front (does n (Receive chan t)) = if is_completed w front (Receive chan t) then written_at w t (sent w front chan) else []
writes w front (chooses_from n cases) = received (taken w (chooses_from n cases))
  where
    received : Option (ℕ × Offer) → List Write
    received (Some (n, Receives chan t)) = written_at w t (sent w front chan)
    received _ = []

-- what the whole front writes
abbrev pub all_writes : World → List Leaf → List Write
all_writes w front = flat_map (writes w front) front

-- the store with these numbers written; a write outside changes nothing
abbrev pub after : List Write → Store → Store
after [] store = store
after (x ∷ rest) store = after rest (with_word store x.object x.index x.bits)

-- ---- clean clocks

-- how many cells of registers an object has: a register is one, an array has one for each element
abbrev pub register_cells : Option Kind → ℕ
register_cells (Some (kind.Reg w s init)) = 1
register_cells (Some (kind.Array w s n init)) = n
register_cells _ = 0

-- how many words an object has in a memory: a RAM's and a ROM's, which are counted by its uses
abbrev pub memory_words : Option Kind → ℕ
memory_words (Some (kind.Ram w s n init)) = n
memory_words (Some (kind.Rom w s n init)) = n
memory_words _ = 0

-- the registers and the elements inside their arrays that are written, as object and index
abbrev pub cells_written : List Kind → List Write → List (ℕ × ℕ)
cells_written kinds [] = []
cells_written kinds (x ∷ rest) = if nat_lt x.index (register_cells (slice_get kinds x.object)) then (x.object, x.index) ∷ cells_written kinds rest else cells_written kinds rest

-- the signals that an action assigns
abbrev pub signals_of : Leaf → List ℕ
signals_of (does n (Assign (ToSignal k) e)) = k ∷ []
signals_of _ = []

-- what an action accesses of RAMs and ROMs, each word that is read or written
abbrev pub action_accesses : Action → List Access
action_accesses (Assign t e) = target_accesses t ++ accesses e
action_accesses Delay = []
action_accesses (Send chan e) = accesses e
action_accesses (Receive chan t) = target_accesses t

-- what the cases of a `prialt` access, without their arms
abbrev pub offered_accesses : Cases → List Access
offered_accesses no_case = []
offered_accesses (case_of n (Sends chan e) body rest) = accesses e ++ offered_accesses rest
offered_accesses (case_of n (Receives chan t) body rest) = target_accesses t ++ offered_accesses rest

-- the RAMs and ROMs that an action of the front accesses, each as often as it does
abbrev pub leaf_uses : Leaf → List ℕ
leaf_uses (does n a) = accessed (action_accesses a)
leaf_uses (chooses_from n cases) = accessed (offered_accesses cases)

-- the RAMs and ROMs that a condition accesses
abbrev pub condition_uses : Condition → List ℕ
condition_uses c = accessed (accesses c.value)

-- the number of an action
abbrev pub leaf_number : Leaf → ℕ
leaf_number (does n a) = n
leaf_number (chooses_from n cases) = n

-- the number of an action or condition that accesses object k, where it does
abbrev pub user : ℕ → ℕ → List ℕ → List ℕ
user k n uses = if is_in k uses then n ∷ [] else []

-- the uses of a RAM or ROM in a clock, by their numbers: the actions of the front and the evaluated conditions that access it
abbrev pub users : ℕ → List Leaf → List Condition → List ℕ
users k front conditions = flat_map (λ l. user k (leaf_number l) (leaf_uses l)) front ++ flat_map (λ c. user k c.number (condition_uses c)) conditions

-- the channels on which sends and receives are offered, those of all cases of a `prialt` with them
abbrev pub case_sends : Cases → List ℕ
case_sends no_case = []
case_sends (case_of n (Sends chan e) body rest) = chan ∷ case_sends rest
case_sends (case_of n (Receives chan t) body rest) = case_sends rest

abbrev pub case_receives : Cases → List ℕ
case_receives no_case = []
case_receives (case_of n (Sends chan e) body rest) = case_receives rest
case_receives (case_of n (Receives chan t) body rest) = chan ∷ case_receives rest

-- the channels on which an action of the front offers a send, and a receive
abbrev pub send_offers : Leaf → List ℕ
send_offers (does n (Send chan e)) = chan ∷ []
send_offers (does n a) = []
send_offers (chooses_from n cases) = case_sends cases

abbrev pub receive_offers : Leaf → List ℕ
receive_offers (does n (Receive chan t)) = chan ∷ []
receive_offers (does n a) = []
receive_offers (chooses_from n cases) = case_receives cases

-- Nothing is used twice in the clock: all uses of a RAM or ROM are one, since a condition can be evaluated more than once.
pub record IsClean (w : World) (front : List Leaf) (conditions : List Condition) : Type 0 where
  pub written : AllPairs ◌≢◌ (cells_written w.kinds (all_writes w front))
  pub assigned : AllPairs ◌≢◌ (flat_map signals_of front)
  pub accessed : (k : ℕ) → AllPairs ◌≡◌ (users k front conditions)
  pub sends : AllPairs ◌≢◌ (flat_map send_offers front)
  pub receives : AllPairs ◌≢◌ (flat_map receive_offers front)

-- ---- outputs

-- the numbers of the outputs in order
abbrev pub output_of : World → Kind → List ℕ
output_of w (kind.Output width s pins value) = (number_of w (expression value)).bits ∷ []
output_of w _ = []

-- the numbers of all outputs
abbrev pub outputs : World → List ℕ
outputs w = flat_map (output_of w) w.kinds
