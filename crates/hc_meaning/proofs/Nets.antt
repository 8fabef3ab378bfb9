-- In a clean clock that follows clean ones, each world that is made of nets is the clock's own.
use Rattle.std.proofs.Common.{◌≡◌, ℕ, List, [], ◌∷◌, None, ap, ◌∙◌, subst, arith}
use Rattle.hc_tree.specs.declared.refusal.Node.{Node}
use Rattle.hc_core.specs.Typed.{kinds_of}
use Rattle.hc_core.specs.Sound.{IsSound}
use Rattle.hc_core.specs.Depends.{IsOrder, accesses, needs_of}
use Rattle.hc_core.specs.Program.{Expression}
use Rattle.hc_core.specs.declared.object.Core.{Core}
use Rattle.hc_meaning.specs.Residual.{Residual}
use Rattle.hc_meaning.specs.Value.{Store, World, Instant}
use Rattle.hc_meaning.specs.Control.{resolved, evaluated, front, Leaf, does, chooses_from}
use Rattle.hc_meaning.specs.Clock.{all_writes, after, behind_edge}
use Rattle.hc_meaning.specs.Run.{Run, State, Settled, world_in, front_of, conflict, state_after}
use Rattle.hc_meaning.specs.OneInstant.{LoopsWait}
use Rattle.hc_meaning.specs.Nets.{Member, AccessesApart, OffersApart, but_for, IsUsed, Wired, Identified}
use Rattle.hc_meaning.proofs.Marks.{Mark, marks, reaches_no_word}
use Rattle.hc_meaning.proofs.Every.{Every}
use Rattle.hc_meaning.proofs.Numbers.{LeafIs, resolved_marks, front_marks}
use Rattle.hc_meaning.proofs.Writes.{LeafApart, identified_writes}
use Rattle.hc_meaning.proofs.Order.{rank_in, falls_of}
use Rattle.hc_meaning.proofs.There.{there}
use Rattle.hc_meaning.proofs.Law.{Reached, main_of, main_waits, reached, reached_waits, core_needs}
use Rattle.hc_meaning.proofs.Once.{used_once, reached_marks}
use Rattle.hc_meaning.proofs.AccessOnce.{access_once}
use Rattle.hc_meaning.proofs.OffersApart.{read_nothing, outputs_same}
use Rattle.hc_meaning.proofs.Wired.{ported}
use Rattle.hc_meaning.proofs.Identify.{Found, identified}
use Rattle.hc_meaning.proofs.Twice.{clean_of}

-- the cases that the front offers are main's
leaves_apart : (fr : List Leaf) → Every (LeafIs (λ (x : ℕ × Mark). reaches_no_word x.1)) fr → Every LeafApart fr
leaves_apart [] h = tt
leaves_apart (does n a ∷ fr) h = (tt, leaves_apart fr h.1)
leaves_apart (chooses_from n cases ∷ fr) h = (h.0, leaves_apart fr h.1)

all_reach : (list big : List (ℕ × Mark)) → ((x : ℕ × Mark) → Member x big → reaches_no_word x.1) → Every (λ x. Member x big) list → Every (λ (x : ℕ × Mark). reaches_no_word x.1) list
all_reach [] big f h = tt
all_reach (x ∷ list) big f h = (f x h.0, all_reach list big f h.1)

-- no case of the front accesses a RAM or ROM
pub front_apart : (core : Core) → OffersApart core → (r : Residual) → Reached (main_of core) r → (v : World) → Every LeafApart (front (resolved v r))
front_apart core offers r h v =
    let none = all_reach (marks r) (marks (main_of core)) (read_nothing core offers) (reached_marks (main_of core) r h) in
    let Q = λ (x : ℕ × Mark). reaches_no_word x.1 in
    leaves_apart (front (resolved v r)) (front_marks Q (resolved v r) (resolved_marks Q v r none))

-- where nothing is accessed, all that is accessed is the clock's
unread : (v : World) (r : Residual) (e : Expression) → accesses e ≡ [] → IsUsed v r e
unread v r e h a m = absurd (subst (Member a) h m)

state : Residual → Store → State
state rest store = record { rest = rest; store = store }

-- what is written and what is left give the state behind
next_is : (v : World) (r : Residual) (q : Instant) (word : ℕ → ℕ → ℕ)
    → behind_edge (but_for v q word) (front_of (but_for v q word) r) (resolved (but_for v q word) r) ≡ behind_edge v (front_of v r) (resolved v r)
    → all_writes (but_for v q word) (front_of (but_for v q word) r) ≡ all_writes v (front_of v r) → state_after (but_for v q word) r ≡ state_after v r
unfolding state
next_is v r q word rest writes =
    ap (λ x. state x (after (all_writes (but_for v q word) (front_of (but_for v q word) r)) v.store)) rest
    ∙ ap (λ l. state (behind_edge v (front_of v r) (resolved v r)) (after l v.store)) writes

pub nets_are : (core : Core) (ranks : List (Node × ℕ)) → IsSound core → LoopsWait core → AccessesApart core → OffersApart core → IsOrder core ranks
    → (trace : ℕ → List ℕ) (n : ℕ) (run : Run core trace n) (inputs : List ℕ) (settled : Settled (kinds_of core.objects) inputs (run.state n))
    → conflict (world_in settled) (run.state n).rest ≡ None → (q : Instant) (word : ℕ → ℕ → ℕ) → Wired (world_in settled) (run.state n).rest q word
    → Identified (world_in settled) (run.state n).rest q word
nets_are core ranks sound loops apart offers o trace n run inputs settled clean q word wired =
    let s = run.state n in
    let v = world_in settled in
    let h = reached core trace n run n (omega arith) in
    let waits = reached_waits (main_of core) s.rest (main_waits core loops) h in
    let used = (clean_of v (front_of v s.rest) (evaluated v s.rest) clean).accessed in
    let i : Found v s.rest q word = identified v s.rest q word waits settled.agrees (used_once core s.rest v h (access_once core apart) used) (ported v s.rest q word wired) (needs_of core)
    (λ P m g. core_needs core P m s.rest h g) (rank_in ranks) (falls_of core ranks (there core sound) o) in
    let writes = identified_writes v s.rest q word i (front_apart core offers s.rest h v) in
    record {
      instant = i.instant;
      control = i.control;
      conditions = i.tests;
      values = i.values;
      writes = writes;
      next = next_is v s.rest q word i.rest writes;
      shows = outputs_same v (but_for v q word) (λ e none. i.values e (unread v s.rest e none)) core offers;
    }
