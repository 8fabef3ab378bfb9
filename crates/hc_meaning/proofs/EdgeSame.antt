-- What a clock completes and leaves depends on the instant alone: a world that is made of nets and is identified leaves what
-- the clock leaves.
use Rattle.std.proofs.Common.{◌≡◌, ℕ, List, [], ◌∷◌, refl, ap, ◌∙◌}
use Rattle.std.specs.List.{list_any}
use Rattle.hc_meaning.specs.Residual.{Action, Assign, Delay, Send, Receive, Offer, Sends, Receives, Residual, Skip, Act, Prialt, PrialtElse, Then, Par, If, While, DoWhile, Switch, Branches, ended, ◌∥◌, Cases, no_case, case_of}
use Rattle.hc_meaning.specs.Value.{World, Instant}
use Rattle.hc_meaning.specs.Control.{resolved, front, is_ready, Leaf, does, chooses_from}
use Rattle.hc_meaning.specs.Clock.{first_ready, taken, takes_receive, takes_send, is_completed, behind_edge, all_behind_edge}
use Rattle.hc_meaning.specs.Nets.{but_for}

module _ (v : World) (word : ℕ → ℕ → ℕ) where
  -- the clock's own instant, with other words
  abbrev w : World
  w = but_for v v.instant word

  ready_is : (o : Offer) → is_ready w o ≡ is_ready v o
  ready_is (Sends chan e) = refl
  ready_is (Receives chan t) = refl

  pub first_is : (cases : Cases) → first_ready w cases ≡ first_ready v cases
  first_is no_case = refl
  first_is (case_of n o body rest) = rw (ready_is o, first_is rest) refl

  pub taken_is : (l : Leaf) → taken w l ≡ taken v l
  taken_is (does n a) = refl
  taken_is (chooses_from n cases) = rw (first_is cases) refl

  receives_are : (k : ℕ) (fr : List Leaf) → list_any (λ l. takes_receive k (taken w l)) fr ≡ list_any (λ l. takes_receive k (taken v l)) fr
  receives_are k [] = refl
  receives_are k (l ∷ fr) = rw (taken_is l, receives_are k fr) refl

  sends_are : (k : ℕ) (fr : List Leaf) → list_any (λ l. takes_send k (taken w l)) fr ≡ list_any (λ l. takes_send k (taken v l)) fr
  sends_are k [] = refl
  sends_are k (l ∷ fr) = rw (taken_is l, sends_are k fr) refl

  pub completed_is : (fr : List Leaf) (a : Action) → is_completed w fr a ≡ is_completed v fr a
  completed_is fr (Assign t e) = refl
  completed_is fr Delay = refl
  completed_is fr (Send chan e) = rw (receives_are chan fr) refl
  completed_is fr (Receive chan t) = rw (sends_are chan fr) refl

  mutual
    pub edge_is : (fr : List Leaf) (x : Residual) → behind_edge w fr x ≡ behind_edge v fr x
    edge_is fr Skip = refl
    edge_is fr (Act n a) = rw (completed_is fr a) refl
    edge_is fr (Prialt n cases) = rw (first_is cases) refl
    edge_is fr (PrialtElse n cases other) = rw (first_is cases) refl
    edge_is fr (Then a b) = rw (edge_is fr a) refl
    edge_is fr (Par bs) = rw (all_edges_are fr bs) refl
    edge_is fr (If n c a b) = refl
    edge_is fr (While n c body) = refl
    edge_is fr (DoWhile body n c) = refl
    edge_is fr (Switch n e arms) = refl

    all_edges_are : (fr : List Leaf) (bs : Branches) → all_behind_edge w fr bs ≡ all_behind_edge v fr bs
    all_edges_are fr ended = refl
    all_edges_are fr (x ∥ rest) = rw (edge_is fr x, all_edges_are fr rest) refl

-- what a world made of nets leaves
pub next_same : (v : World) (r : Residual) (q : Instant) (word : ℕ → ℕ → ℕ) → resolved (but_for v q word) r ≡ resolved v r → q ≡ v.instant
    → behind_edge (but_for v q word) (front (resolved (but_for v q word) r)) (resolved (but_for v q word) r) ≡ behind_edge v (front (resolved v r)) (resolved v r)
next_same v r q word control instant =
    ap (λ x. behind_edge (but_for v q word) (front x) x) control
    ∙ ap (λ p. behind_edge (but_for v p word) (front (resolved v r)) (resolved v r)) instant
    ∙ edge_is v word (front (resolved v r)) (resolved v r)
