-- Which values within a clock depend on which, and when their dependencies have a cycle or an order (this project's own).
use Rattle.std.specs.Prelude.{◌≡◌, ◌≢◌, ◌<◌, ◌≤◌, ℕ, ◌+◌, ◌-◌, ◌*◌, ◌%◌, ◌^◌, List, [], ◌∷◌, ◌++◌, map, All, AllPairs}
use Rattle.std.specs.List.{Contains}
use Rattle.hc_tree.specs.declared.refusal.Node.{Node}
use Rattle.hc_tree.specs.declared.refusal.Node.TheVariants.{Value, Sends, Receives}
use Rattle.hc_core.specs.Program.{Expression, Constant, Register, Element, Word, Signal, Input, Unary, Binary, Slice, Choice, Target, ToRegister, ToElement, ToWord, ToSignal, Statement, Skip, Assign, Delay, Send, Receive, Prialt, PrialtElse, Seq, Par, If, While, DoWhile, Switch, Statements, stop, ◌⨾◌, Cases, no_case, send_case, receive_case, Arms, no_arm, arm}
use Rattle.hc_core.specs.Read.{statement}
use Rattle.hc_core.specs.Typed.{kinds_of}
use Rattle.hc_core.specs.Instant.{nodes_from, deps, partners, where_it, finishes, Before, first_part, and_then}
use Rattle.hc_core.specs.declared.object.Core.{Core}

-- a node, and nodes that it depends on by one use
pub record Need : Type 0 where
  pub node : Node
  pub on : List Node

-- a RAM or ROM that is accessed, with the index
abbrev pub Access : Type 0
Access = ℕ × Expression

-- the words that are read in an expression
abbrev pub accesses : Expression → List Access
accesses (Constant n) = []
accesses (Register k) = []
accesses (Element k i) = accesses i
accesses (Word k i) = (k, i) ∷ accesses i
accesses (Signal k) = []
accesses (Input k) = []
accesses (Unary op a) = accesses a
accesses (Binary op a b) = accesses a ++ accesses b
accesses (Slice a high low) = accesses a
accesses (Choice c a b) = accesses c ++ accesses a ++ accesses b

-- the words that are written and read in a target
abbrev pub target_accesses : Target → List Access
target_accesses (ToRegister k) = []
target_accesses (ToElement k i) = accesses i
target_accesses (ToWord k i) = (k, i) ∷ accesses i
target_accesses (ToSignal k) = []

-- the words that are accessed in the values and targets of cases
abbrev pub case_accesses : Cases → List Access
case_accesses no_case = []
case_accesses (send_case chan e first rest) = accesses e ++ case_accesses rest
case_accesses (receive_case chan t first rest) = target_accesses t ++ case_accesses rest

-- a RAM or ROM depends on the start of what accesses it and on what its index reads
abbrev pub access_needs : List Node → List Access → List Need
access_needs start all = map (λ a. record { node = Value a.0; on = start ++ deps a.1 }) all

-- a signal depends on the start of an assignment to it and on what the value reads
abbrev pub signal_needs : List Node → Target → Expression → List Need
signal_needs start (ToRegister k) e = []
signal_needs start (ToElement k i) e = []
signal_needs start (ToWord k i) e = []
signal_needs start (ToSignal k) e = record { node = Value k; on = start ++ deps e } ∷ []

abbrev mutual
  -- what the nodes that a statement uses depend on, where these nodes decide its start
  pub needs : List Node → Statement → List Need
  needs start Skip = []
  needs start (Assign place t e) = signal_needs start t e ++ access_needs start (target_accesses t ++ accesses e)
  needs start (Delay place) = []
  needs start (Send place chan e) = record { node = Sends chan; on = start } ∷ access_needs start (accesses e)
  needs start (Receive place chan t) = record { node = Receives chan; on = start } ∷ access_needs start (target_accesses t)
  needs start (Prialt place cases) = access_needs start (case_accesses cases) ++ case_needs cases
  needs start (PrialtElse place cases rest) =
      access_needs start (case_accesses cases) ++ case_needs cases ++ needs (start ++ partners cases) rest
  needs start (Seq place parts) = sequence_needs start parts
  needs start (Par place branches) = all_needs start branches
  needs start (If place c a b) = access_needs start (accesses c) ++ needs (start ++ deps c) a ++ needs (start ++ deps c) b
  needs start (While place c body) =
      access_needs (start ++ finishes body) (accesses c) ++ needs (start ++ finishes body ++ deps c) body
  needs start (DoWhile place body c) =
      access_needs (finishes body) (accesses c) ++ needs (start ++ finishes body ++ deps c) body
  needs start (Switch place e arms) = access_needs start (accesses e) ++ arm_needs (start ++ deps e) arms

  -- a sequence is read from the left, two parts at a time
  pub sequence_needs : List Node → Statements → List Need
  sequence_needs start stop = []
  sequence_needs start (first ⨾ rest) = needs start first ++ needs_behind start (first_part first (finishes first)) rest

  -- a part starts where the parts before it finish, or where they are started and passed
  pub needs_behind : List Node → Before → Statements → List Need
  needs_behind start b stop = []
  needs_behind start b (next ⨾ rest) =
      needs (b.finish ++ where_it b.may_pass (start ++ b.pass)) next ++ needs_behind start (and_then b next (finishes next)) rest

  pub all_needs : List Node → Statements → List Need
  all_needs start stop = []
  all_needs start (first ⨾ rest) = needs start first ++ all_needs start rest

  -- the arm of a case is started by no value of the clock
  pub case_needs : Cases → List Need
  case_needs no_case = []
  case_needs (send_case chan e first rest) = needs [] first ++ case_needs rest
  case_needs (receive_case chan t first rest) = needs [] first ++ case_needs rest

  pub arm_needs : List Node → Arms → List Need
  arm_needs start no_arm = []
  arm_needs start (arm values other body rest) = needs start body ++ arm_needs start rest

-- the nodes of a core, in order
abbrev pub nodes_of : Core → List Node
nodes_of core = nodes_from 0 (kinds_of core.objects)

-- what the nodes of a core depend on; the start of `main` is decided by none
abbrev pub needs_of : Core → List Need
needs_of core = needs [] (statement core.main)

-- One node depends on another by some use.
pub record Depends (core : Core) (node on : Node) : Type 0 where
  pub need : Need
  pub uses : Contains (needs_of core) need
  pub node_is : need.node ≡ node
  pub on_is : Contains need.on on

-- One node leads to another along dependencies.
pub data Reaches (core : Core) : Node → Node → Type 0 where
  directly : (a b : Node) → Depends core a b → Reaches core a b
  through : (a b c : Node) → Depends core a b → Reaches core b c → Reaches core a c

-- some node leads to itself
abbrev pub Cyclic : Core → Type 0
Cyclic core = (node : Node) × Reaches core node node

-- the place of a node in the order of objects, in which the sends of a channel come before its receives
abbrev pub place_of : Node → ℕ
place_of (Value k) = 2 * k
place_of (Sends k) = 2 * k
place_of (Receives k) = 2 * k + 1

-- each node depends on the next one, and the last on this one
abbrev pub Leads : Core → Node → List Node → Node → Type 0
Leads core node [] to = Depends core node to
Leads core node (next ∷ rest) to = Depends core node next × Leads core next rest to

-- A cycle, which is its first node and the others: distinct nodes of which each depends on the next and the last on the
-- first, the least first.
pub record IsCycleFrom (core : Core) (first : Node) (others : List Node) : Type 0 where
  pub leads : Leads core first others first
  pub distinct : AllPairs ◌≢◌ (first ∷ others)
  pub least : All (λ n. place_of first ≤ place_of n) others

abbrev pub IsCycle : Core → List Node → Type 0
IsCycle core [] = ⊥
IsCycle core (first ∷ others) = IsCycleFrom core first others

-- An order of the nodes of a core: each node once and no other, with an odd number below 2^32 - 1 that is above those of
-- the nodes that it depends on.
pub record IsOrder (core : Core) (ranks : List (Node × ℕ)) : Type 0 where
  pub all : (node : Node) → Contains (nodes_of core) node → Contains (map (λ r. r.0) ranks) node
  pub no_other : (node : Node) → Contains (map (λ r. r.0) ranks) node → Contains (nodes_of core) node
  pub once : AllPairs ◌≢◌ (map (λ r. r.0) ranks)
  pub odd : All (λ r. r.1 % 2 ≡ 1) ranks
  pub below : All (λ r. r.1 < 2 ^ 32 - 1) ranks
  pub above : (a b : Node) (x y : ℕ) → Contains ranks (a, x) → Contains ranks (b, y) → Depends core a b → y < x
