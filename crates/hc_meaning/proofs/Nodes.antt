-- What is watched of each kind of node: the values assigned to a signal, the plain sends and receives on a channel, and the
-- accesses of a RAM or ROM.
use Rattle.std.proofs.Common.{◌≡◌, ℕ, zero, suc, ◌+◌, ◌==◌, Bool, true, false, ◌||◌, List, [], ◌∷◌, ◌++◌, map, flat_map, slice_index_or, refl, sym, ap, ◌∙◌, subst, arith, eqb-true}
use Rattle.std.specs.Prelude.{if◌then◌else◌}
use Rattle.std.specs.List.{list_any}
use Rattle.hc_num.specs.Number.{Number}
use Rattle.hc_tree.specs.declared.refusal.Node.{Node}
use Rattle.hc_tree.specs.declared.refusal.Node.TheVariants as node
use Rattle.hc_core.specs.Program.{Expression, Target, ToRegister, ToElement, ToWord, ToSignal}
use Rattle.hc_core.specs.Instant.{deps}
use Rattle.hc_core.specs.Depends.{Access, accesses, target_accesses, access_needs, signal_needs}
use Rattle.hc_core.specs.declared.object.Kind.{Kind}
use Rattle.hc_core.specs.declared.object.Kind.TheVariants as kind
use Rattle.hc_meaning.specs.Residual.{Action, Assign, Delay, Send, Receive, Residual, Cases}
use Rattle.hc_meaning.specs.Value.{World, Instant, number_of}
use Rattle.hc_meaning.specs.Control.{resolved, evaluated, front, some_ready, Condition, Leaf, does, chooses_from}
use Rattle.hc_meaning.specs.Clock.{assigned, presented, signal_bits, is_send, is_receive, each_from}
use Rattle.hc_meaning.proofs.Sets.{Waits, partners, action_needs, needs}
use Rattle.hc_meaning.specs.Uses.{indexes, access_at, leaf_words, condition_words}
use Rattle.hc_meaning.specs.Clock.{action_accesses}
use Rattle.hc_meaning.proofs.Every.{Every, every_left, every_right, HoldsAt, needs_right, in_case}
use Rattle.hc_meaning.proofs.Alike.{UsedIn}
use Rattle.hc_meaning.proofs.Fronts.{Shows, Watch, alike}

-- the expressions that an action reads
abbrev pub target_expressions : Target → List Expression
target_expressions (ToRegister k) = []
target_expressions (ToElement k i) = i ∷ []
target_expressions (ToWord k i) = i ∷ []
target_expressions (ToSignal k) = []

abbrev pub action_expressions : Action → List Expression
action_expressions (Assign t e) = e ∷ target_expressions t
action_expressions Delay = []
action_expressions (Send chan e) = e ∷ []
action_expressions (Receive chan t) = target_expressions t

abbrev pub leaf_expressions : Leaf → List Expression
leaf_expressions (does n a) = action_expressions a
leaf_expressions (chooses_from n cases) = []

abbrev pub UsedLeaf : (Expression → Type 0) → Leaf → Type 0
UsedLeaf Used l = Every Used (leaf_expressions l)

abbrev no_test : Expression → Bool
no_test e = false

abbrev no_condition : Condition → List ℕ
no_condition c = []

abbrev is_signal : ℕ → Action → Bool
is_signal k (Assign (ToRegister j) e) = false
is_signal k (Assign (ToElement j i) e) = false
is_signal k (Assign (ToWord j i) e) = false
is_signal k (Assign (ToSignal j) e) = j == k
is_signal k Delay = false
is_signal k (Send chan e) = false
is_signal k (Receive chan t) = false

abbrev sends_it : ℕ → Action → Bool
sends_it k (Assign t e) = false
sends_it k Delay = false
sends_it k (Send chan e) = chan == k
sends_it k (Receive chan t) = false

abbrev receives_it : ℕ → Action → Bool
receives_it k (Assign t e) = false
receives_it k Delay = false
receives_it k (Send chan e) = false
receives_it k (Receive chan t) = chan == k

none_if : (b : Bool) (x : List ℕ) → b ≡ false → (if b then x else []) ≡ []
none_if true x e = absurd cc
none_if false x e = refl

signal_quiet : (x : World) (k n : ℕ) (a : Action) → is_signal k a ≡ false → assigned x k (does n a) ≡ []
signal_quiet x k n (Assign (ToRegister j) e) h = refl
signal_quiet x k n (Assign (ToElement j i) e) h = refl
signal_quiet x k n (Assign (ToWord j i) e) h = refl
signal_quiet x k n (Assign (ToSignal j) e) h = none_if (j == k) ((number_of x e).bits ∷ []) h
signal_quiet x k n Delay h = refl
signal_quiet x k n (Send chan e) h = refl
signal_quiet x k n (Receive chan t) h = refl

abbrev signal_shows : (x : World) (k : ℕ) → Shows ℕ (is_signal k) no_test
signal_shows x k = record { leaf = assigned x k; condition = no_condition; cases = λ n cases. refl; action = λ n a h. signal_quiet x k n a h; tested = λ n c h. refl }

abbrev mark : (Leaf → Bool) → Leaf → List ℕ
mark test l = if test l then 0 ∷ [] else []

send_quiet : (k n : ℕ) (a : Action) → sends_it k a ≡ false → mark (is_send k) (does n a) ≡ []
send_quiet k n (Assign t e) h = refl
send_quiet k n Delay h = refl
send_quiet k n (Send chan e) h = none_if (chan == k) (0 ∷ []) h
send_quiet k n (Receive chan t) h = refl

receive_quiet : (k n : ℕ) (a : Action) → receives_it k a ≡ false → mark (is_receive k) (does n a) ≡ []
receive_quiet k n (Assign t e) h = refl
receive_quiet k n Delay h = refl
receive_quiet k n (Send chan e) h = refl
receive_quiet k n (Receive chan t) h = none_if (chan == k) (0 ∷ []) h

abbrev send_shows : (k : ℕ) → Shows ℕ (sends_it k) no_test
send_shows k = record { leaf = mark (is_send k); condition = no_condition; cases = λ n cases. refl; action = λ n a h. send_quiet k n a h; tested = λ n c h. refl }

abbrev receive_shows : (k : ℕ) → Shows ℕ (receives_it k) no_test
receive_shows k = record { leaf = mark (is_receive k); condition = no_condition; cases = λ n cases. refl; action = λ n a h. receive_quiet k n a h; tested = λ n c h. refl }

abbrev has_some : List Expression → Bool
has_some [] = false
has_some (x ∷ xs) = true

none_shown : (n : ℕ) (x : World) (list : List Expression) → has_some list ≡ false → map (access_at n x) list ≡ []
none_shown n x [] h = refl
none_shown n x (i ∷ list) h = absurd cc

abbrev word_shows : (x : World) (k : ℕ) → Shows (ℕ × ℕ) (λ a. has_some (indexes k (action_accesses a))) (λ e. has_some (indexes k (accesses e)))
word_shows x k = record {
  leaf = leaf_words k x;
  condition = condition_words k x;
  cases = λ n cases. refl;
  action = λ n a h. none_shown n x (indexes k (action_accesses a)) h;
  tested = λ n c h. none_shown n x (indexes k (accesses c)) h;
}

-- whether a front has one that passes the test is told by the marks
abbrev some_mark : List ℕ → Bool
some_mark [] = false
some_mark (x ∷ xs) = true

marks_tell : (test : Leaf → Bool) (list : List Leaf) → list_any test list ≡ some_mark (flat_map (mark test) list)
marks_tell test [] = refl
marks_tell test (l ∷ list) = by (test l) (marks_tell test list)
  where
    by : (b : Bool) → list_any test list ≡ some_mark (flat_map (mark test) list) → (b || list_any test list) ≡ some_mark ((if b then 0 ∷ [] else []) ++ flat_map (mark test) list)
    by true e = refl
    by false e = e

-- ---- what each object has

pub each_same : {A : Type 0} (of og : ℕ → Kind → A) (kinds : List Kind) (j i m : ℕ) (d : A) → j + i ≡ m → ((kind : Kind) → of m kind ≡ og m kind)
    → slice_index_or (each_from of j kinds) i d ≡ slice_index_or (each_from og j kinds) i d
each_same of og [] j i m d e f = refl
each_same of og (kind ∷ kinds) j zero m d e f = let e' : m ≡ j = omega arith in subst (λ x. of x kind ≡ og x kind) e' (f kind)
each_same of og (kind ∷ kinds) j (suc i) m d e f = each_same of og kinds (j + 1) i m d (omega arith) f

pub each_all : {A : Type 0} (of og : ℕ → Kind → A) (kinds : List Kind) (j : ℕ) → ((i : ℕ) (kind : Kind) → of i kind ≡ og i kind) → each_from of j kinds ≡ each_from og j kinds
each_all of og [] j f = refl
each_all of og (kind ∷ kinds) j f = rw (f j kind, each_all of og kinds (j + 1) f) refl

pub bits_same : (v w : World) (lv lw : List Leaf) (k : ℕ) → flat_map (assigned v k) lv ≡ flat_map (assigned w k) lw → (kind : Kind) → signal_bits v lv k kind ≡ signal_bits w lw k kind
bits_same v w lv lw k e (kind.Reg a s i) = refl
bits_same v w lv lw k e (kind.Array a s n i) = refl
bits_same v w lv lw k e (kind.Ram a s n i) = refl
bits_same v w lv lw k e (kind.Rom a s n i) = refl
bits_same v w lv lw k e (kind.Signal a s u) = ap (presented u.bits) e
bits_same v w lv lw k e (kind.Chan a s q) = refl
bits_same v w lv lw k e (kind.Input a s p) = refl
bits_same v w lv lw k e (kind.Output a s p o) = refl

-- what a front gives, over these kinds
abbrev pub shown_over : List Kind → World → List Leaf → Instant
shown_over kinds x leaves = record {
  signals = each_from (signal_bits x leaves) 0 kinds;
  sends = each_from (λ k kind. list_any (is_send k) leaves) 0 kinds;
  receives = each_from (λ k kind. list_any (is_receive k) leaves) 0 kinds;
}

module _ (v w : World) (P : Node → Type 0) (Used : Expression → Type 0)
    (values : (e : Expression) → Used e → Every P (deps e) → number_of v e ≡ number_of w e)
    (ready : (cases : Cases) → Every P (partners cases) → some_ready v cases ≡ some_ready w cases)
    (inner : (e : Expression) → Used e → Every (λ a. Used a.1) (accesses e))
  where
    abbrev W : Node → (X : Type 0) → Type 0
    W m X = Watch P Used (UsedLeaf Used) m X

    left : (a b : List Node) → Every P (a ++ b) → Every P a
    left a b h = every_left P a b h

    right : (a b : List Node) → Every P (a ++ b) → Every P b
    right a b h = every_right P a b h

    -- ---- signals

    signal_on : (k : ℕ) (st : List Node) (t : Target) (e : Expression) → is_signal k (Assign t e) ≡ true → HoldsAt P (node.Value k) (action_needs st (Assign t e)) → Every P (st ++ deps e)
    signal_on k st (ToRegister j) e b h = absurd cc
    signal_on k st (ToElement j i) e b h = absurd cc
    signal_on k st (ToWord j i) e b h = absurd cc
    signal_on k st (ToSignal j) e b h = h.0 (ap node.Value (eqb-true j k b))

    signal_start : (k : ℕ) (st : List Node) (a : Action) → is_signal k a ≡ true → HoldsAt P (node.Value k) (action_needs st a) → Every P st
    signal_start k st (Assign t e) b h = left st (deps e) (signal_on k st t e b h)
    signal_start k st Delay b h = absurd cc
    signal_start k st (Send chan e) b h = absurd cc
    signal_start k st (Receive chan t) b h = absurd cc

    signal_same : (k : ℕ) (st : List Node) (n : ℕ) (a : Action) → is_signal k a ≡ true → HoldsAt P (node.Value k) (action_needs st a) → UsedLeaf Used (does n a) → assigned v k (does n a) ≡ assigned w k (does n a)
    signal_same k st n (Assign (ToRegister j) e) b h u = absurd cc
    signal_same k st n (Assign (ToElement j i) e) b h u = absurd cc
    signal_same k st n (Assign (ToWord j i) e) b h u = absurd cc
    signal_same k st n (Assign (ToSignal j) e) b h u =
        ap (λ (x : Number). if j == k then x.bits ∷ [] else []) (values e u.0 (right st (deps e) (signal_on k st (ToSignal j) e b h)))
    signal_same k st n Delay b h u = absurd cc
    signal_same k st n (Send chan e) b h u = absurd cc
    signal_same k st n (Receive chan t) b h u = absurd cc

    -- what no condition does
    never : (st : List Node) → false ≡ true → Every P st
    never st b = absurd (let z = b in cc)

    abbrev signal_watch : (k : ℕ) → Watch P Used (UsedLeaf Used) (node.Value k) ℕ
    signal_watch k = record {
      f = is_signal k;
      g = no_test;
      one = signal_shows v k;
      two = signal_shows w k;
      starts = λ st a b h. signal_start k st a b h;
      starts_test = λ st c b h. never st b;
      same = λ st n a b h u. signal_same k st n a b h u;
      same_test = λ st n c b h u. refl;
    }

    -- ---- channels

    send_start : (k : ℕ) (st : List Node) (a : Action) → sends_it k a ≡ true → HoldsAt P (node.Sends k) (action_needs st a) → Every P st
    send_start k st (Assign t e) b h = absurd cc
    send_start k st Delay b h = absurd cc
    send_start k st (Send chan e) b h = h.0 (ap node.Sends (eqb-true chan k b))
    send_start k st (Receive chan t) b h = absurd cc

    receive_start : (k : ℕ) (st : List Node) (a : Action) → receives_it k a ≡ true → HoldsAt P (node.Receives k) (action_needs st a) → Every P st
    receive_start k st (Assign t e) b h = absurd cc
    receive_start k st Delay b h = absurd cc
    receive_start k st (Send chan e) b h = absurd cc
    receive_start k st (Receive chan t) b h = h.0 (ap node.Receives (eqb-true chan k b))

    abbrev send_watch : (k : ℕ) → Watch P Used (UsedLeaf Used) (node.Sends k) ℕ
    send_watch k = record {
      f = sends_it k;
      g = no_test;
      one = send_shows k;
      two = send_shows k;
      starts = λ st a b h. send_start k st a b h;
      starts_test = λ st c b h. never st b;
      same = λ st n a b h u. refl;
      same_test = λ st n c b h u. refl;
    }

    abbrev receive_watch : (k : ℕ) → Watch P Used (UsedLeaf Used) (node.Receives k) ℕ
    receive_watch k = record {
      f = receives_it k;
      g = no_test;
      one = receive_shows k;
      two = receive_shows k;
      starts = λ st a b h. receive_start k st a b h;
      starts_test = λ st c b h. never st b;
      same = λ st n a b h u. refl;
      same_test = λ st n c b h u. refl;
    }

    -- ---- RAMs and ROMs

    access_start : (k : ℕ) (st : List Node) (list : List Access) → has_some (indexes k list) ≡ true → HoldsAt P (node.Value k) (access_needs st list) → Every P st
    access_start k st [] b h = absurd cc
    access_start k st (a ∷ list) b h = in_case (a.0 == k) (λ e. access_start k st list (later (a.0 == k) e b) h.1) (λ e. left st (deps a.1) (h.0 (ap node.Value (eqb-true a.0 k e))))
      where
        later : (t : Bool) → t ≡ false → has_some (if t then a.1 ∷ indexes k list else indexes k list) ≡ true → has_some (indexes k list) ≡ true
        later true e h = absurd cc
        later false e h = h

    word_list : (k : ℕ) (st : List Node) (n : ℕ) (list : List Access) → HoldsAt P (node.Value k) (access_needs st list) → Every (λ a. Used a.1) list
        → map (access_at n v) (indexes k list) ≡ map (access_at n w) (indexes k list)
    word_list k st n [] h u = refl
    word_list k st n (a ∷ list) h u = by (a.0 == k) refl (word_list k st n list h.1 u.1)
      where
        by : (t : Bool) → (a.0 == k) ≡ t → map (access_at n v) (indexes k list) ≡ map (access_at n w) (indexes k list) → map (access_at n v) (if t then a.1 ∷ indexes k list else indexes k list) ≡ map (access_at n w) (if t then a.1 ∷ indexes k list else indexes k list)
        by false e more = more
        by true e more = rw (values a.1 u.0 (right st (deps a.1) (h.0 (ap node.Value (eqb-true a.0 k e)))), more) refl

    action_accessed : (k : ℕ) (st : List Node) (a : Action) → HoldsAt P (node.Value k) (action_needs st a) → HoldsAt P (node.Value k) (access_needs st (action_accesses a))
    action_accessed k st (Assign t e) h = needs_right P (node.Value k) (signal_needs st t e) (access_needs st (target_accesses t ++ accesses e)) h
    action_accessed k st Delay h = tt
    action_accessed k st (Send chan e) h = h.1
    action_accessed k st (Receive chan t) h = h.1

    target_used : (t : Target) → Every Used (target_expressions t) → Every (λ a. Used a.1) (target_accesses t)
    target_used (ToRegister k) u = tt
    target_used (ToElement k i) u = inner i u.0
    target_used (ToWord k i) u = (u.0, inner i u.0)
    target_used (ToSignal k) u = tt

    pub action_used : (a : Action) → Every Used (action_expressions a) → Every (λ a. Used a.1) (action_accesses a)
    action_used (Assign t e) u = both (target_accesses t) (accesses e) (target_used t u.1) (inner e u.0)
      where
        both : (x y : List Access) → Every (λ a. Used a.1) x → Every (λ a. Used a.1) y → Every (λ a. Used a.1) (x ++ y)
        both [] y h k = k
        both (a ∷ x) y h k = (h.0, both x y h.1 k)
    action_used Delay u = tt
    action_used (Send chan e) u = inner e u.0
    action_used (Receive chan t) u = target_used t u

    abbrev word_watch : (k : ℕ) → Watch P Used (UsedLeaf Used) (node.Value k) (ℕ × ℕ)
    word_watch k = record {
      f = λ a. has_some (indexes k (action_accesses a));
      g = λ e. has_some (indexes k (accesses e));
      one = word_shows v k;
      two = word_shows w k;
      starts = λ st a b h. access_start k st (action_accesses a) b (action_accessed k st a h);
      starts_test = λ st c b h. access_start k st (accesses c) b h;
      same = λ st n a b h u. word_list k st n (action_accesses a) (action_accessed k st a h) (action_used a u);
      same_test = λ st n c b h u. word_list k st n (accesses c) h (inner c u);
    }

    -- ---- what is left shows the same

    module _ (r : Residual) (waits : Waits r) (tests : UsedIn Used (evaluated v r)) (leaves : Every (UsedLeaf Used) (front (resolved v r))) where
      pub signals_alike : (k : ℕ) → HoldsAt P (node.Value k) (needs [] r) → flat_map (assigned v k) (front (resolved v r)) ≡ flat_map (assigned w k) (front (resolved w r))
      signals_alike k h = (alike v w P Used values ready (UsedLeaf Used) (node.Value k) ℕ (signal_watch k) [] r waits h tests leaves).leaves

      pub sends_alike : (k : ℕ) → HoldsAt P (node.Sends k) (needs [] r) → list_any (is_send k) (front (resolved v r)) ≡ list_any (is_send k) (front (resolved w r))
      sends_alike k h =
          marks_tell (is_send k) (front (resolved v r)) ∙ ap some_mark (alike v w P Used values ready (UsedLeaf Used) (node.Sends k) ℕ (send_watch k) [] r waits h tests leaves).leaves
          ∙ sym (marks_tell (is_send k) (front (resolved w r)))

      pub receives_alike : (k : ℕ) → HoldsAt P (node.Receives k) (needs [] r) → list_any (is_receive k) (front (resolved v r)) ≡ list_any (is_receive k) (front (resolved w r))
      receives_alike k h =
          marks_tell (is_receive k) (front (resolved v r)) ∙ ap some_mark (alike v w P Used values ready (UsedLeaf Used) (node.Receives k) ℕ (receive_watch k) [] r waits h tests leaves).leaves
          ∙ sym (marks_tell (is_receive k) (front (resolved w r)))

      pub words_alike : (k : ℕ) → HoldsAt P (node.Value k) (needs [] r)
          → (flat_map (leaf_words k v) (front (resolved v r)) ++ flat_map (condition_words k v) (evaluated v r)) ≡ (flat_map (leaf_words k w) (front (resolved w r)) ++ flat_map (condition_words k w) (evaluated w r))
      words_alike k h =
          let a = alike v w P Used values ready (UsedLeaf Used) (node.Value k) (ℕ × ℕ) (word_watch k) [] r waits h tests leaves in
          rw (a.leaves, a.conditions) refl

      -- ---- what the front gives

      pub signal_shown : (kinds : List Kind) (k : ℕ) → HoldsAt P (node.Value k) (needs [] r)
          → slice_index_or (each_from (signal_bits v (front (resolved v r))) 0 kinds) k 0 ≡ slice_index_or (each_from (signal_bits w (front (resolved w r))) 0 kinds) k 0
      signal_shown kinds k h =
          each_same (signal_bits v (front (resolved v r))) (signal_bits w (front (resolved w r))) kinds 0 k k 0 (omega arith) (bits_same v w (front (resolved v r)) (front (resolved w r)) k (signals_alike k h))

      pub send_shown : (kinds : List Kind) (k : ℕ) → HoldsAt P (node.Sends k) (needs [] r)
          → slice_index_or (each_from (λ k kind. list_any (is_send k) (front (resolved v r))) 0 kinds) k false ≡ slice_index_or (each_from (λ k kind. list_any (is_send k) (front (resolved w r))) 0 kinds) k false
      send_shown kinds k h =
          each_same (λ k kind. list_any (is_send k) (front (resolved v r))) (λ k kind. list_any (is_send k) (front (resolved w r))) kinds 0 k k false (omega arith) (λ kind. sends_alike k h)

      pub receive_shown : (kinds : List Kind) (k : ℕ) → HoldsAt P (node.Receives k) (needs [] r)
          → slice_index_or (each_from (λ k kind. list_any (is_receive k) (front (resolved v r))) 0 kinds) k false ≡ slice_index_or (each_from (λ k kind. list_any (is_receive k) (front (resolved w r))) 0 kinds) k false
      receive_shown kinds k h =
          each_same (λ k kind. list_any (is_receive k) (front (resolved v r))) (λ k kind. list_any (is_receive k) (front (resolved w r))) kinds 0 k k false (omega arith) (λ kind. receives_alike k h)

      pub all_shown : (kinds : List Kind) → ((m : Node) → HoldsAt P m (needs [] r)) → shown_over kinds v (front (resolved v r)) ≡ shown_over kinds w (front (resolved w r))
      all_shown kinds h =
          rw (
            each_all (signal_bits v (front (resolved v r))) (signal_bits w (front (resolved w r))) kinds 0 (λ i kind. bits_same v w (front (resolved v r)) (front (resolved w r)) i (signals_alike i (h (node.Value i))) kind),
            each_all (λ k kind. list_any (is_send k) (front (resolved v r))) (λ k kind. list_any (is_send k) (front (resolved w r))) kinds 0 (λ i kind. sends_alike i (h (node.Sends i))),
            each_all (λ k kind. list_any (is_receive k) (front (resolved v r))) (λ k kind. list_any (is_receive k) (front (resolved w r))) kinds 0 (λ i kind. receives_alike i (h (node.Receives i))),
          ) refl
