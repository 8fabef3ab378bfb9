-- What has a value within a clock, and which of these values a statement's start, pass and finish are decided by (this
-- project's own). Sets of nodes are lists, in which order and number don't count.
use Rattle.std.specs.Prelude.{ℕ, ◌+◌, List, [], ◌∷◌, ◌++◌, Bool, ◌&&◌, if◌then◌else◌}
use Rattle.hc_tree.specs.declared.refusal.Node.{Node}
use Rattle.hc_tree.specs.declared.refusal.Node.TheVariants.{Value, Sends, Receives}
use Rattle.hc_core.specs.Program.{Expression, Constant, Register, Element, Word, Signal, Input, Unary, Binary, Slice, Choice, Statement, Skip, Assign, Delay, Send, Receive, Prialt, PrialtElse, Seq, Par, If, While, DoWhile, Switch, Statements, stop, ◌⨾◌, Cases, no_case, send_case, receive_case, Arms, no_arm, arm}
use Rattle.hc_core.specs.Zero.{always_holds, zero, all_zero}
use Rattle.hc_core.specs.declared.object.Kind.{Kind}
use Rattle.hc_core.specs.declared.object.Kind.TheVariants as kind

-- the nodes of an object: a signal, RAM or ROM is one, and a channel has one for its plain sends and one for its plain receives
abbrev pub kind_nodes : ℕ → Kind → List Node
kind_nodes k (kind.Reg w s init) = []
kind_nodes k (kind.Array w s n init) = []
kind_nodes k (kind.Ram w s n init) = Value k ∷ []
kind_nodes k (kind.Rom w s n init) = Value k ∷ []
kind_nodes k (kind.Signal w s unset) = Value k ∷ []
kind_nodes k (kind.Chan w s queue) = Sends k ∷ Receives k ∷ []
kind_nodes k (kind.Input w s pins) = []
kind_nodes k (kind.Output w s pins value) = []

-- the nodes of objects that are numbered from k on
abbrev pub nodes_from : ℕ → List Kind → List Node
nodes_from k [] = []
nodes_from k (kind ∷ kinds) = kind_nodes k kind ++ nodes_from (k + 1) kinds

-- the signals, RAMs and ROMs that are read anywhere in an expression
abbrev pub deps : Expression → List Node
deps (Constant n) = []
deps (Register k) = []
deps (Element k i) = deps i
deps (Word k i) = Value k ∷ deps i
deps (Signal k) = Value k ∷ []
deps (Input k) = []
deps (Unary op a) = deps a
deps (Binary op a b) = deps a ++ deps b
deps (Slice a high low) = deps a
deps (Choice c a b) = deps c ++ deps a ++ deps b

-- the partners of cases: the plain receives of a channel for a send case, the plain sends for a receive case
abbrev pub partners : Cases → List Node
partners no_case = []
partners (send_case chan e first rest) = Receives chan ∷ partners rest
partners (receive_case chan t first rest) = Sends chan ∷ partners rest

-- these nodes where it holds, and else none
abbrev pub where_it : Bool → List Node → List Node
where_it holds nodes = if holds then nodes else []

abbrev mutual
  -- what decides whether a statement is passed in the clock in which it is started: nothing where it can't be
  pub passes : Statement → List Node
  passes Skip = []
  passes (Assign place t e) = []
  passes (Delay place) = []
  passes (Send place chan e) = []
  passes (Receive place chan t) = []
  passes (Prialt place cases) = []
  passes (PrialtElse place cases rest) = where_it (zero rest) (partners cases ++ passes rest)
  passes (Seq place parts) = where_it (all_zero parts) (all_passes parts)
  passes (Par place branches) = where_it (all_zero branches) (all_passes branches)
  passes (If place c a b) = where_it (zero (If place c a b)) (deps c ++ passes a ++ passes b)
  passes (While place c body) = where_it (zero (While place c body)) (deps c)
  passes (DoWhile place body c) = []
  passes (Switch place e arms) = where_it (zero (Switch place e arms)) (deps e ++ arm_passes arms)

  pub all_passes : Statements → List Node
  all_passes stop = []
  all_passes (first ⨾ rest) = passes first ++ all_passes rest

  pub arm_passes : Arms → List Node
  arm_passes no_arm = []
  arm_passes (arm values other body rest) = passes body ++ arm_passes rest

-- what is known of the parts of a sequence up to some part: whether they may take no clock, what decides their pass and
-- what decides their finish
pub record Before : Type 0 where
  pub may_pass : Bool
  pub pass : List Node
  pub finish : List Node

-- a part alone, and a part behind others
abbrev pub first_part : Statement → List Node → Before
first_part s finish = record { may_pass = zero s; pass = passes s; finish = finish }

abbrev pub and_then : Before → Statement → List Node → Before
and_then b s finish = record {
  may_pass = b.may_pass && zero s;
  pass = where_it (b.may_pass && zero s) (b.pass ++ passes s);
  finish = finish ++ where_it (zero s) (b.finish ++ passes s);
}

abbrev mutual
  -- what decides whether a statement that was started in an earlier clock finishes
  pub finishes : Statement → List Node
  finishes Skip = []
  finishes (Assign place t e) = []
  finishes (Delay place) = []
  finishes (Send place chan e) = []
  finishes (Receive place chan t) = []
  finishes (Prialt place cases) = case_finishes cases
  finishes (PrialtElse place cases rest) = case_finishes cases ++ finishes rest
  finishes (Seq place parts) = sequence_finishes parts
  finishes (Par place branches) = all_finishes branches
  finishes (If place c a b) = finishes a ++ finishes b
  finishes (While place c body) = if always_holds c then [] else finishes body ++ deps c
  finishes (DoWhile place body c) = finishes body ++ deps c
  finishes (Switch place e arms) = arm_finishes arms

  -- a sequence is read from the left, two parts at a time
  pub sequence_finishes : Statements → List Node
  sequence_finishes stop = []
  sequence_finishes (first ⨾ rest) = finishes_behind (first_part first (finishes first)) rest

  pub finishes_behind : Before → Statements → List Node
  finishes_behind b stop = b.finish
  finishes_behind b (next ⨾ rest) = finishes_behind (and_then b next (finishes next)) rest

  pub all_finishes : Statements → List Node
  all_finishes stop = []
  all_finishes (first ⨾ rest) = finishes first ++ all_finishes rest

  -- the arm of a case is started in the clock after the one in which the case is taken
  pub case_finishes : Cases → List Node
  case_finishes no_case = []
  case_finishes (send_case chan e first rest) = finishes first ++ passes first ++ case_finishes rest
  case_finishes (receive_case chan t first rest) = finishes first ++ passes first ++ case_finishes rest

  pub arm_finishes : Arms → List Node
  arm_finishes no_arm = []
  arm_finishes (arm values other body rest) = finishes body ++ arm_finishes rest
