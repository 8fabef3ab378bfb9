-- Branches side by side, with a latch for each.
use Rattle.std.proofs.Common.{◌≡◌, ℕ, zero, suc, List, [], ◌∷◌, ◌++◌, Bool, true, false, not, ◌&&◌, ◌||◌, if◌then◌else◌, Option, Some, None, refl, ap, sym, ◌∙◌, subst, slice_get}
use Rattle.hc_meaning.specs.Residual.{Residual, Skip, Par, Branches, ended, ◌∥◌}
use Rattle.hc_meaning.specs.Value.{World}
use Rattle.hc_meaning.specs.Control.{resolved, all_resolved, all_ended, together, front, all_fronts, evaluated, all_evaluated, is_skip, Condition, Leaf}
use Rattle.hc_meaning.specs.Clock.{behind_edge, all_behind_edge}
use Rattle.hc_control.specs.Token.{Clocks, current, held_behind, token_at, ends, IsFair, IsFairBefore, asked, SameMembers, Follows}
use Rattle.hc_control.specs.Lists.{Wires, FollowAll, all_pass, all_done, are_some, all_enabled, all_tested, IsJoined}
use Rattle.hc_control.proofs.Steps.{skip_is, both_first, both_second, or_false, and_false, fair_at_first, fair_next, over_clocks, IsFree, Tells, tells, free_nowhere, free_idle, free_ended}
use Rattle.hc_control.proofs.Members.{same_refl, same_trans, same_append, empty, at, plus, same_by}

-- ---- one branch

-- what is left of a branch within what is left of the whole, what is left of it as a statement, and its latch
data One : Residual → Option Residual → Bool → Type 0 where
  goes : (p : Residual) → One p (Some p) false
  waits : One Skip None true

one_done : (w : World) (p : Residual) (held : Option Residual) (latch finish : Bool) → One p held latch → finish ≡ ends w held → (finish || latch) ≡ is_skip (resolved w p)
one_done w p held latch finish (goes q) is = rw is (or_false (is_skip (resolved w q)))
one_done w p held latch finish waits is = rw is refl

one_now : (w : World) (s p : Residual) (held : Option Residual) (latch : Bool) → One p held latch → current w s false held ≡ resolved w p
one_now w s p held latch (goes q) = refl
one_now w s p held latch waits = refl

one_free : (w : World) (start : Bool) (p : Residual) (held : Option Residual) (latch : Bool) → One p held latch → is_skip (resolved w p) ≡ true → IsFree w start held
one_free w start p held latch (goes q) is = free_ended w start q is
one_free w start p held latch waits is = free_nowhere w start

one_behind : (w : World) (leaves : List Leaf) (x : Residual) (latch over : Bool) → over ≡ is_skip x → latch ≡ (over && true) → One (behind_edge w leaves x) (held_behind w leaves x) latch
one_behind w leaves x latch true is e = rw (e, skip_is x (sym is)) waits
one_behind w leaves x latch false is e = rw (e, ← is) (goes (behind_edge w leaves x))

-- ---- all branches, by what is left of each as a statement

abbrev currents : World → Bool → (Residual → Option Residual) → Branches → Branches
currents w start token ended = ended
currents w start token (s ∥ rest) = current w s start (token s) ∥ currents w start token rest

-- the whole stands nowhere
abbrev Nowhere : (Residual → Option Residual) → Branches → (ℕ → Bool) → Type 0
Nowhere token ended latch = Unit {0}
Nowhere token (s ∥ rest) latch = (token s ≡ None) × (latch zero ≡ false) × Nowhere token rest (λ i. latch (suc i))

-- these parts are left of the whole
abbrev Split : (Residual → Option Residual) → Branches → Branches → (ℕ → Bool) → Type 0
Split token ended ended latch = Unit {0}
Split token ended (s ∥ rest) latch = ⊥
Split token (p ∥ ps) ended latch = ⊥
Split token (p ∥ ps) (s ∥ rest) latch = One p (token s) (latch zero) × Split token ps rest (λ i. latch (suc i))

abbrev are_branches : Branches → Bool
are_branches ended = false
are_branches (s ∥ rest) = true

-- what is left of the whole
data Held (token : Residual → Option Residual) (branches : Branches) (latch : ℕ → Bool) : Option Residual → Type 0 where
  nowhere : Nowhere token branches latch → Held token branches latch None
  split : (ps : Branches) → Split token ps branches latch → are_branches ps ≡ true → Held token branches latch (Some (Par ps))

abbrev TellAll : World → Bool → (Residual → Option Residual) → ℕ → Branches → List Wires → Type 0
TellAll w start token t ended [] = Unit {0}
TellAll w start token t ended (x ∷ xs) = ⊥
TellAll w start token t (s ∥ rest) [] = ⊥
TellAll w start token t (s ∥ rest) (x ∷ xs) = Tells w s start (x.pass t) (x.finish t) (token s) × TellAll w start token t rest xs

abbrev FreeAll : World → Bool → (Residual → Option Residual) → Branches → Type 0
FreeAll w start token ended = Unit {0}
FreeAll w start token (s ∥ rest) = IsFree w start (token s) × FreeAll w start token rest

-- each latch behind a clock, by the circuit
abbrev NextAll : ℕ → Bool → Bool → Bool → List Wires → (ℕ → Bool) → (ℕ → Bool) → Type 0
NextAll t start pass finish [] latch later = Unit {0}
NextAll t start pass finish (x ∷ xs) latch later =
    (later zero ≡ ((start && (x.pass t && not pass)) || ((x.finish t || latch zero) && not finish)))
    × NextAll t start pass finish xs (λ i. latch (suc i)) (λ i. later (suc i))

-- each latch behind a clock, by the law: the branch stands at nothing, and not all do
abbrev LatchAll : World → Bool → (Residual → Option Residual) → Bool → Branches → (ℕ → Bool) → Type 0
LatchAll w start token all ended later = Unit {0}
LatchAll w start token all (s ∥ rest) later =
    (later zero ≡ (is_skip (current w s start (token s)) && not all)) × LatchAll w start token all rest (λ i. later (suc i))

next_all : (t : ℕ) (start pass finish : Bool) (wires : List Wires) (latch later : ℕ → Bool)
    → ((i : ℕ) (x : Wires) → slice_get wires i ≡ Some x → later i ≡ ((start && (x.pass t && not pass)) || ((x.finish t || latch i) && not finish)))
    → NextAll t start pass finish wires latch later
next_all t start pass finish [] latch later h = tt
next_all t start pass finish (x ∷ xs) latch later h =
    (h zero x refl, next_all t start pass finish xs (λ i. latch (suc i)) (λ i. later (suc i)) (λ i y same. h (suc i) y same))

-- ---- what the whole stands at

over_together : (branches : Branches) (all : Bool) → all ≡ all_ended branches → is_skip (together branches) ≡ all
over_together branches true is = rw (← is) refl
over_together branches false is = rw (← is) refl

currents_started : (w : World) (token : Residual → Option Residual) (branches : Branches) → currents w true token branches ≡ all_resolved w branches
currents_started w token ended = refl
currents_started w token (s ∥ rest) = ap (λ b. resolved w s ∥ b) (currents_started w token rest)

currents_split : (w : World) (token : Residual → Option Residual) (ps branches : Branches) (latch : ℕ → Bool) → Split token ps branches latch
    → currents w false token branches ≡ all_resolved w ps
currents_split w token ended ended latch h = refl
currents_split w token ended (s ∥ rest) latch h = absurd h
currents_split w token (p ∥ ps) ended latch h = absurd h
currents_split w token (p ∥ ps) (s ∥ rest) latch h =
    let head = one_now w s p (token s) (latch zero) h.0 in
    let tail = currents_split w token ps rest (λ i. latch (suc i)) h.1 in
    ap (λ x. x ∥ currents w false token rest) head ∙ ap (λ b. resolved w p ∥ b) tail

currents_idle : (w : World) (token : Residual → Option Residual) (branches : Branches) (latch : ℕ → Bool) → Nowhere token branches latch
    → all_ended (currents w false token branches) ≡ true
currents_idle w token ended latch h = refl
currents_idle w token (s ∥ rest) latch h = rw (h.0) (currents_idle w token rest (λ i. latch (suc i)) h.2)

-- ---- passes, ends and free starts

passes_all : (w : World) (token : Residual → Option Residual) (t : ℕ) (branches : Branches) (wires : List Wires) → TellAll w true token t branches wires
    → all_pass wires t ≡ all_ended (all_resolved w branches)
passes_all w token t ended [] h = refl
passes_all w token t ended (x ∷ xs) h = absurd h
passes_all w token t (s ∥ rest) [] h = absurd h
passes_all w token t (s ∥ rest) (x ∷ xs) h = rw (h.0.passes refl, passes_all w token t rest xs h.1) refl

done_split : (w : World) (start : Bool) (token : Residual → Option Residual) (t : ℕ) (ps branches : Branches) (wires : List Wires) (latch : ℕ → Bool)
    → TellAll w start token t branches wires → Split token ps branches latch → all_done wires latch t ≡ all_ended (all_resolved w ps)
done_split w start token t ended ended [] latch h g = refl
done_split w start token t ended ended (x ∷ xs) latch h g = absurd h
done_split w start token t ended (s ∥ rest) wires latch h g = absurd g
done_split w start token t (p ∥ ps) ended wires latch h g = absurd g
done_split w start token t (p ∥ ps) (s ∥ rest) [] latch h g = absurd h
done_split w start token t (p ∥ ps) (s ∥ rest) (x ∷ xs) latch h g =
    rw (one_done w p (token s) (latch zero) (x.finish t) g.0 h.0.finishes, done_split w start token t ps rest xs (λ i. latch (suc i)) h.1 g.1) refl

free_split : (w : World) (start : Bool) (token : Residual → Option Residual) (ps branches : Branches) (latch : ℕ → Bool) → Split token ps branches latch
    → all_ended (all_resolved w ps) ≡ true → FreeAll w start token branches
free_split w start token ended ended latch g is = tt
free_split w start token ended (s ∥ rest) latch g is = absurd g
free_split w start token (p ∥ ps) ended latch g is = absurd g
free_split w start token (p ∥ ps) (s ∥ rest) latch g is = (
  one_free w start p (token s) (latch zero) g.0 (both_first (is_skip (resolved w p)) (all_ended (all_resolved w ps)) is),
  free_split w start token ps rest (λ i. latch (suc i)) g.1 (both_second (is_skip (resolved w p)) (all_ended (all_resolved w ps)) is),
)

free_none : (w : World) (start : Bool) (token : Residual → Option Residual) (branches : Branches) (latch : ℕ → Bool) → Nowhere token branches latch
    → FreeAll w start token branches
free_none w start token ended latch g = tt
free_none w start token (s ∥ rest) latch g = (rw (g.0) (free_nowhere w start), free_none w start token rest (λ i. latch (suc i)) g.2)

free_all_idle : (w : World) (token : Residual → Option Residual) (branches : Branches) → FreeAll w false token branches
free_all_idle w token ended = tt
free_all_idle w token (s ∥ rest) = (free_idle w (token s), free_all_idle w token rest)

some_wires : (w : World) (start : Bool) (token : Residual → Option Residual) (t : ℕ) (ps branches : Branches) (wires : List Wires) (latch : ℕ → Bool)
    → TellAll w start token t branches wires → Split token ps branches latch → are_branches ps ≡ true → are_some wires ≡ true
some_wires w start token t ended branches wires latch h g is = absurd cc
some_wires w start token t (p ∥ ps) ended wires latch h g is = absurd g
some_wires w start token t (p ∥ ps) (s ∥ rest) [] latch h g is = absurd h
some_wires w start token t (p ∥ ps) (s ∥ rest) (x ∷ xs) latch h g is = refl

none_done : (w : World) (start : Bool) (token : Residual → Option Residual) (t : ℕ) (branches : Branches) (wires : List Wires) (latch : ℕ → Bool)
    → TellAll w start token t branches wires → Nowhere token branches latch → (are_some wires && all_done wires latch t) ≡ false
none_done w start token t ended [] latch h g = refl
none_done w start token t ended (x ∷ xs) latch h g = absurd h
none_done w start token t (s ∥ rest) [] latch h g = absurd h
none_done w start token t (s ∥ rest) (x ∷ xs) latch h g = rw (h.0.finishes, g.0, g.1) refl

ends_together : (w : World) (start : Bool) (token : Residual → Option Residual) (t : ℕ) (branches : Branches) (wires : List Wires) (latch : ℕ → Bool) (held : Option Residual)
    → TellAll w start token t branches wires → Held token branches latch held → (are_some wires && all_done wires latch t) ≡ ends w held
ends_together w start token t branches wires latch held h (nowhere g) = none_done w start token t branches wires latch h g
ends_together w start token t branches wires latch held h (split ps g some) =
    rw (some_wires w start token t ps branches wires latch h g some) (done_split w start token t ps branches wires latch h g
    ∙ sym (over_together (all_resolved w ps) (all_ended (all_resolved w ps)) refl))

-- ---- latches

-- no branch is over while the whole goes on
abbrev Quiet : ℕ → Bool → List Wires → (ℕ → Bool) → Type 0
Quiet t finish [] latch = Unit {0}
Quiet t finish (x ∷ xs) latch = (((x.finish t || latch zero) && not finish) ≡ false) × Quiet t finish xs (λ i. latch (suc i))

quiet_finished : (t : ℕ) (finish : Bool) (wires : List Wires) (latch : ℕ → Bool) → finish ≡ true → Quiet t finish wires latch
quiet_finished t finish [] latch is = tt
quiet_finished t finish (x ∷ xs) latch is = (rw is (and_false (x.finish t || latch zero)), quiet_finished t finish xs (λ i. latch (suc i)) is)

quiet_nowhere : (w : World) (start : Bool) (token : Residual → Option Residual) (t : ℕ) (finish : Bool) (branches : Branches) (wires : List Wires) (latch : ℕ → Bool)
    → TellAll w start token t branches wires → Nowhere token branches latch → Quiet t finish wires latch
quiet_nowhere w start token t finish ended [] latch h g = tt
quiet_nowhere w start token t finish ended (x ∷ xs) latch h g = absurd h
quiet_nowhere w start token t finish (s ∥ rest) [] latch h g = absurd h
quiet_nowhere w start token t finish (s ∥ rest) (x ∷ xs) latch h g =
    (rw (h.0.finishes, g.0, g.1) refl, quiet_nowhere w start token t finish rest xs (λ i. latch (suc i)) h.1 g.2)

latch_started : (w : World) (token : Residual → Option Residual) (t : ℕ) (pass finish : Bool) (branches : Branches) (wires : List Wires) (latch later : ℕ → Bool)
    → TellAll w true token t branches wires → Quiet t finish wires latch → NextAll t true pass finish wires latch later
    → LatchAll w true token pass branches later
latch_started w token t pass finish ended wires latch later h q n = tt
latch_started w token t pass finish (s ∥ rest) [] latch later h q n = absurd h
latch_started w token t pass finish (s ∥ rest) (x ∷ xs) latch later h q n = (
  n.0 ∙ rw (q.0, h.0.passes refl) (or_false (is_skip (resolved w s) && not pass)),
  latch_started w token t pass finish rest xs (λ i. latch (suc i)) (λ i. later (suc i)) h.1 q.1 n.1,
)

latch_idle : (w : World) (token : Residual → Option Residual) (t : ℕ) (pass finish : Bool) (branches : Branches) (wires : List Wires) (latch later : ℕ → Bool)
    → TellAll w false token t branches wires → Quiet t finish wires latch → NextAll t false pass finish wires latch later
    → LatchAll w false token true branches later
latch_idle w token t pass finish ended wires latch later h q n = tt
latch_idle w token t pass finish (s ∥ rest) [] latch later h q n = absurd h
latch_idle w token t pass finish (s ∥ rest) (x ∷ xs) latch later h q n = (
  n.0 ∙ q.0 ∙ sym (and_false (is_skip (current w s false (token s)))),
  latch_idle w token t pass finish rest xs (λ i. latch (suc i)) (λ i. later (suc i)) h.1 q.1 n.1,
)

latch_split : (w : World) (token : Residual → Option Residual) (t : ℕ) (pass finish : Bool) (ps branches : Branches) (wires : List Wires) (latch later : ℕ → Bool)
    → TellAll w false token t branches wires → Split token ps branches latch → NextAll t false pass finish wires latch later
    → LatchAll w false token finish branches later
latch_split w token t pass finish ended ended wires latch later h g n = tt
latch_split w token t pass finish ended (s ∥ rest) wires latch later h g n = absurd g
latch_split w token t pass finish (p ∥ ps) ended wires latch later h g n = absurd g
latch_split w token t pass finish (p ∥ ps) (s ∥ rest) [] latch later h g n = absurd h
latch_split w token t pass finish (p ∥ ps) (s ∥ rest) (x ∷ xs) latch later h g n = (
  n.0 ∙ rw (one_done w p (token s) (latch zero) (x.finish t) g.0 h.0.finishes, one_now w s p (token s) (latch zero) g.0) refl,
  latch_split w token t pass finish ps rest xs (λ i. latch (suc i)) (λ i. later (suc i)) h.1 g.1 n.1,
)

-- ---- the edge

-- all have ended
behind_nowhere : (w : World) (leaves : List Leaf) (start : Bool) (token after : Residual → Option Residual) (branches : Branches) (later : ℕ → Bool)
    → ((s : Residual) → after s ≡ held_behind w leaves (current w s start (token s))) → all_ended (currents w start token branches) ≡ true
    → LatchAll w start token true branches later → Nowhere after branches later
behind_nowhere w leaves start token after ended later next is h = tt
behind_nowhere w leaves start token after (s ∥ rest) later next is h =
    let first = both_first (is_skip (current w s start (token s))) (all_ended (currents w start token rest)) is in (
      next s ∙ rw first refl,
      h.0 ∙ and_false (is_skip (current w s start (token s))),
      behind_nowhere w leaves start token after rest (λ i. later (suc i)) next (both_second (is_skip (current w s start (token s))) (all_ended (currents w start token rest)) is) h.1,
    )

-- not all have
behind_split : (w : World) (leaves : List Leaf) (start : Bool) (token after : Residual → Option Residual) (branches : Branches) (later : ℕ → Bool)
    → ((s : Residual) → after s ≡ held_behind w leaves (current w s start (token s))) → LatchAll w start token false branches later
    → Split after (all_behind_edge w leaves (currents w start token branches)) branches later
behind_split w leaves start token after ended later next h = tt
behind_split w leaves start token after (s ∥ rest) later next h = (
  rw (next s) (one_behind w leaves (current w s start (token s)) (later zero) (is_skip (current w s start (token s))) refl h.0),
  behind_split w leaves start token after rest (λ i. later (suc i)) next h.1,
)

some_go : (w : World) (leaves : List Leaf) (branches : Branches) → all_ended branches ≡ false → are_branches (all_behind_edge w leaves branches) ≡ true
some_go w leaves ended is = absurd cc
some_go w leaves (s ∥ rest) is = refl

behind : (w : World) (leaves : List Leaf) (start : Bool) (token after : Residual → Option Residual) (branches : Branches) (later : ℕ → Bool) (all : Bool)
    → ((s : Residual) → after s ≡ held_behind w leaves (current w s start (token s))) → all ≡ all_ended (currents w start token branches)
    → LatchAll w start token all branches later → Held after branches later (held_behind w leaves (together (currents w start token branches)))
behind w leaves start token after branches later true next is h =
    rw (← is) (nowhere (behind_nowhere w leaves start token after branches later next (sym is) h))
behind w leaves start token after branches later false next is h =
    rw (← is) (split (all_behind_edge w leaves (currents w start token branches)) (behind_split w leaves start token after branches later next h)
    (some_go w leaves (currents w start token branches) (sym is)))

-- ---- one clock

record Clock (w : World) (start : Bool) (token : Residual → Option Residual) (branches : Branches) (later : ℕ → Bool) (held : Option Residual) : Type 0 where
  free : FreeAll w start token branches
  now : current w (Par branches) start held ≡ together (currents w start token branches)
  latches : LatchAll w start token (all_ended (currents w start token branches)) branches later

one_clock : (w : World) (start : Bool) (token : Residual → Option Residual) (t : ℕ) (pass finish : Bool) (branches : Branches) (wires : List Wires) (latch later : ℕ → Bool)
    (held : Option Residual) → TellAll w start token t branches wires → NextAll t start pass finish wires latch later → pass ≡ all_pass wires t → finish ≡ ends w held
    → IsFree w start held → Held token branches latch held → Clock w start token branches later held
one_clock w true token t pass finish branches wires latch later held h n passes finishes free (nowhere g) = record {
  free = free_none w true token branches latch g;
  now = rw (currents_started w token branches) refl;
  latches = subst (λ b. LatchAll w true token b branches later)
      (passes ∙ passes_all w token t branches wires h ∙ ap all_ended (sym (currents_started w token branches)))
      (latch_started w token t pass finish branches wires latch later h (quiet_nowhere w true token t finish branches wires latch h g) n);
}
one_clock w true token t pass finish branches wires latch later held h n passes finishes free (split ps g some) =
    let over = free refl (Par ps) refl in
    record {
      free = free_split w true token ps branches latch g (sym (over_together (all_resolved w ps) (all_ended (all_resolved w ps)) refl) ∙ over);
      now = rw (currents_started w token branches) refl;
      latches = subst (λ b. LatchAll w true token b branches later)
          (passes ∙ passes_all w token t branches wires h ∙ ap all_ended (sym (currents_started w token branches)))
          (latch_started w token t pass finish branches wires latch later h (quiet_finished t finish wires latch (finishes ∙ over)) n);
    }
one_clock w false token t pass finish branches wires latch later held h n passes finishes free (nowhere g) =
    let idle = currents_idle w token branches latch g in
    record {
      free = free_all_idle w token branches;
      now = rw idle refl;
      latches = subst (λ b. LatchAll w false token b branches later) (sym idle)
          (latch_idle w token t pass finish branches wires latch later h (quiet_nowhere w false token t finish branches wires latch h g) n);
    }
one_clock w false token t pass finish branches wires latch later held h n passes finishes free (split ps g some) =
    let same = currents_split w token ps branches latch g in
    record {
      free = free_all_idle w token branches;
      now = rw same refl;
      latches = subst (λ b. LatchAll w false token b branches later)
          (finishes ∙ over_together (all_resolved w ps) (all_ended (all_resolved w ps)) refl ∙ ap all_ended (sym same))
          (latch_split w token t pass finish ps branches wires latch later h g n);
    }

-- ---- what is asked

-- what all branches ask
abbrev all_asked : World → Bool → (Residual → Option Residual) → Branches → List Condition
all_asked w start token ended = []
all_asked w start token (s ∥ rest) = asked w s start (token s) ++ all_asked w start token rest

one_asked : (w : World) (s p : Residual) (start : Bool) (held : Option Residual) (latch : Bool) → One p held latch
    → asked w s start held ≡ evaluated w p ++ (if start then evaluated w s else [])
one_asked w s p start held latch (goes q) = refl
one_asked w s p start held latch waits = refl

-- of a branch s and the others b, what the rests p and ps ask, and what a start asks
asked_one_more : (start : Bool) (p ps s b head tail : List Condition) → SameMembers head (p ++ (if start then s else []))
    → SameMembers tail (ps ++ (if start then b else [])) → SameMembers (head ++ tail) ((p ++ ps) ++ (if start then s ++ b else []))
asked_one_more true p ps s b head tail first others =
    same_trans (same_append first others)
    (same_by (p ∷ ps ∷ s ∷ b ∷ []) (plus (plus (at 0) (at 2)) (plus (at 1) (at 3))) (plus (plus (at 0) (at 1)) (plus (at 2) (at 3))) refl refl)
asked_one_more false p ps s b head tail first others =
    same_trans (same_append first others) (same_by (p ∷ ps ∷ []) (plus (plus (at 0) empty) (plus (at 1) empty)) (plus (plus (at 0) (at 1)) empty) refl refl)

asked_none : (start : Bool) → SameMembers [] (if start then [] else [])
asked_none true = same_refl []
asked_none false = same_refl []

asked_nowhere : (w : World) (start : Bool) (token : Residual → Option Residual) (branches : Branches) (latch : ℕ → Bool) → Nowhere token branches latch
    → SameMembers (all_asked w start token branches) (if start then all_evaluated w branches else [])
asked_nowhere w start token ended latch h = asked_none start
asked_nowhere w start token (s ∥ rest) latch h =
    rw (h.0) (asked_one_more start [] [] (evaluated w s) (all_evaluated w rest) (if start then evaluated w s else []) (all_asked w start token rest) (same_refl _)
    (asked_nowhere w start token rest (λ i. latch (suc i)) h.2))

asked_split : (w : World) (start : Bool) (token : Residual → Option Residual) (ps branches : Branches) (latch : ℕ → Bool) → Split token ps branches latch
    → SameMembers (all_asked w start token branches) (all_evaluated w ps ++ (if start then all_evaluated w branches else []))
asked_split w start token ended ended latch h = asked_none start
asked_split w start token ended (s ∥ rest) latch h = absurd h
asked_split w start token (p ∥ ps) ended latch h = absurd h
asked_split w start token (p ∥ ps) (s ∥ rest) latch h =
    rw (one_asked w s p start (token s) (latch zero) h.0) (asked_one_more start (evaluated w p) (all_evaluated w ps) (evaluated w s) (all_evaluated w rest)
    (evaluated w p ++ (if start then evaluated w s else [])) (all_asked w start token rest) (same_refl _) (asked_split w start token ps rest (λ i. latch (suc i)) h.1))

asked_together : (w : World) (start : Bool) (token : Residual → Option Residual) (branches : Branches) (latch : ℕ → Bool) (held : Option Residual) → Held token branches latch held
    → SameMembers (all_asked w start token branches) (asked w (Par branches) start held)
asked_together w start token branches latch held (nowhere g) = asked_nowhere w start token branches latch g
asked_together w start token branches latch held (split ps g some) = asked_split w start token ps branches latch g

-- ---- all clocks

abbrev BeforeAll : Clocks → (ℕ → Type 0) → (ℕ → Bool) → ℕ → Branches → Type 0
BeforeAll c Good start t ended = Unit {0}
BeforeAll c Good start t (s ∥ rest) = IsFairBefore c Good s start t × BeforeAll c Good start t rest

before_first : (c : Clocks) (Good : ℕ → Type 0) (start : ℕ → Bool) (branches : Branches) → BeforeAll c Good start zero branches
before_first c Good start ended = tt
before_first c Good start (s ∥ rest) = (fair_at_first c Good s start, before_first c Good start rest)

before_next : (c : Clocks) (Good : ℕ → Type 0) (start : ℕ → Bool) (t : ℕ) (branches : Branches) → Good t → BeforeAll c Good start t branches
    → FreeAll (c.world t) (start t) (λ s. token_at c s start t) branches → BeforeAll c Good start (suc t) branches
before_next c Good start t ended good before free = tt
before_next c Good start t (s ∥ rest) good before free = (fair_next c Good s start t before.0 good free.0, before_next c Good start t rest good before.1 free.1)

tell_all : (c : Clocks) (Good : ℕ → Type 0) (start : ℕ → Bool) (t : ℕ) (branches : Branches) (wires : List Wires) → FollowAll c Good start branches wires
    → BeforeAll c Good start t branches → Good t → TellAll (c.world t) (start t) (λ s. token_at c s start t) t branches wires
tell_all c Good start t ended [] follow before good = tt
tell_all c Good start t ended (x ∷ xs) follow before good = absurd follow
tell_all c Good start t (s ∥ rest) [] follow before good = absurd follow
tell_all c Good start t (s ∥ rest) (x ∷ xs) follow before good =
    (tells c Good s start x.pass x.finish x.enabled x.tested follow.0 t before.0 good, tell_all c Good start t rest xs follow.1 before.1 good)

enabled_fronts : (c : Clocks) (Good : ℕ → Type 0) (start : ℕ → Bool) (t : ℕ) (branches : Branches) (wires : List Wires) → FollowAll c Good start branches wires
    → BeforeAll c Good start t branches → Good t → FreeAll (c.world t) (start t) (λ s. token_at c s start t) branches
    → all_enabled wires t ≡ all_fronts (currents (c.world t) (start t) (λ s. token_at c s start t) branches)
enabled_fronts c Good start t ended [] follow before good free = refl
enabled_fronts c Good start t ended (x ∷ xs) follow before good free = absurd follow
enabled_fronts c Good start t (s ∥ rest) [] follow before good free = absurd follow
enabled_fronts c Good start t (s ∥ rest) (x ∷ xs) follow before good free =
    rw (follow.0.enables t before.0 good free.0, enabled_fronts c Good start t rest xs follow.1 before.1 good free.1) refl

tested_asked : (c : Clocks) (Good : ℕ → Type 0) (start : ℕ → Bool) (t : ℕ) (branches : Branches) (wires : List Wires) → FollowAll c Good start branches wires
    → BeforeAll c Good start t branches → Good t → FreeAll (c.world t) (start t) (λ s. token_at c s start t) branches
    → SameMembers (all_tested wires t) (all_asked (c.world t) (start t) (λ s. token_at c s start t) branches)
tested_asked c Good start t ended [] follow before good free = same_refl []
tested_asked c Good start t ended (x ∷ xs) follow before good free = absurd follow
tested_asked c Good start t (s ∥ rest) [] follow before good free = absurd follow
tested_asked c Good start t (s ∥ rest) (x ∷ xs) follow before good free =
    same_append (follow.0.tests t before.0 good free.0) (tested_asked c Good start t rest xs follow.1 before.1 good free.1)

-- ended branches show nothing
none_shown : (branches : Branches) → all_ended branches ≡ true → all_fronts branches ≡ []
none_shown ended is = refl
none_shown (s ∥ rest) is =
    rw (skip_is s (both_first (is_skip s) (all_ended rest) is)) (none_shown rest (both_second (is_skip s) (all_ended rest) is))

shown_together : (branches : Branches) (all : Bool) → all ≡ all_ended branches → all_fronts branches ≡ front (together branches)
shown_together branches true is = none_shown branches (sym is) ∙ rw (← is) refl
shown_together branches false is = rw (← is) refl

first_nowhere : (c : Clocks) (start : ℕ → Bool) (branches : Branches) (latch : ℕ → Bool) → ((i : ℕ) → latch i ≡ false)
    → Nowhere (λ s. token_at c s start zero) branches latch
first_nowhere c start ended latch is = tt
first_nowhere c start (s ∥ rest) latch is = (refl, is zero, first_nowhere c start rest (λ i. latch (suc i)) (λ i. is (suc i)))

-- what is known of all branches behind the clocks before t
record Side (c : Clocks) (Good : ℕ → Type 0) (branches : Branches) (start : ℕ → Bool) (latch : ℕ → ℕ → Bool) (t : ℕ) : Type 0 where
  held : Held (λ s. token_at c s start t) branches (latch t) (token_at c (Par branches) start t)
  before : BeforeAll c Good start t branches

module _ (c : Clocks) (Good : ℕ → Type 0) (branches : Branches) (wires : List Wires) (start pass finish : ℕ → Bool) (latch : ℕ → ℕ → Bool)
    (follow : FollowAll c Good start branches wires) (joined : IsJoined wires start pass finish latch) where
  finishes_at : (t : ℕ) → Good t → Side c Good branches start latch t → finish t ≡ ends (c.world t) (token_at c (Par branches) start t)
  finishes_at t good o =
      joined.finishes t
      ∙ ends_together (c.world t) (start t) (λ s. token_at c s start t) t branches wires (latch t) _ (tell_all c Good start t branches wires follow o.before good) o.held

  clock_at : (t : ℕ) → Good t → IsFair c (Par branches) start t → Side c Good branches start latch t
      → Clock (c.world t) (start t) (λ s. token_at c s start t) branches (latch (suc t)) (token_at c (Par branches) start t)
  clock_at t good fair o =
      one_clock (c.world t) (start t) (λ s. token_at c s start t) t (pass t) (finish t) branches wires (latch t) (latch (suc t)) _
      (tell_all c Good start t branches wires follow o.before good)
      (next_all t (start t) (pass t) (finish t) wires (latch t) (latch (suc t)) (joined.next t))
      (joined.passes t) (finishes_at t good o) fair o.held

  side_at : (t : ℕ) → IsFairBefore c Good (Par branches) start t → Side c Good branches start latch t
  side_at = over_clocks c Good (Par branches) start (Side c Good branches start latch)
      (record { held = nowhere (first_nowhere c start branches (latch zero) joined.first); before = before_first c Good start branches })
      (λ t good fair o. let clock = clock_at t good fair o in record {
        held = rw (clock.now) (behind (c.world t) (c.leaves t) (start t) (λ s. token_at c s start t) (λ s. token_at c s start (suc t)) branches (latch (suc t)) _
            (λ s. refl) refl clock.latches);
        before = before_next c Good start t branches good o.before clock.free;
      })

  passes_at : (t : ℕ) → Good t → Side c Good branches start latch t → start t ≡ true → pass t ≡ is_skip (resolved (c.world t) (Par branches))
  passes_at t good o is =
      joined.passes t
      ∙ passes_all (c.world t) (λ s. token_at c s start t) t branches wires
      (subst (λ b. TellAll (c.world t) b (λ s. token_at c s start t) t branches wires) is (tell_all c Good start t branches wires follow o.before good))
      ∙ sym (over_together (all_resolved (c.world t) branches) (all_ended (all_resolved (c.world t) branches)) refl)

  enables_at : (t : ℕ) → Good t → IsFair c (Par branches) start t → Side c Good branches start latch t
      → all_enabled wires t ≡ front (current (c.world t) (Par branches) (start t) (token_at c (Par branches) start t))
  enables_at t good fair o =
      let clock = clock_at t good fair o in
      enabled_fronts c Good start t branches wires follow o.before good clock.free
      ∙ shown_together (currents (c.world t) (start t) (λ s. token_at c s start t) branches) _ refl
      ∙ ap front (sym clock.now)

  tests_at : (t : ℕ) → Good t → IsFair c (Par branches) start t → Side c Good branches start latch t
      → SameMembers (all_tested wires t) (asked (c.world t) (Par branches) (start t) (token_at c (Par branches) start t))
  tests_at t good fair o =
      same_trans (tested_asked c Good start t branches wires follow o.before good (clock_at t good fair o).free)
      (asked_together (c.world t) (start t) (λ s. token_at c s start t) branches (latch t) _ o.held)

  pub follows_par : Follows c Good (Par branches) start pass finish (all_enabled wires) (all_tested wires)
  follows_par = record {
    passes = λ t before good. passes_at t good (side_at t before);
    finishes = λ t before good. finishes_at t good (side_at t before);
    enables = λ t before good fair. enables_at t good fair (side_at t before);
    tests = λ t before good fair. tests_at t good fair (side_at t before);
  }
