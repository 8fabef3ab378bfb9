-- An identified world writes what the clock writes.
use Rattle.std.proofs.Common.{◌≡◌, ℕ, Bool, true, false, ◌==◌, List, [], ◌∷◌, flat_map, Option, Some, None, slice_index_or, refl, sym, ap, ◌∙◌, subst}
use Rattle.std.specs.Prelude.{if◌then◌else◌}
use Rattle.hc_num.specs.Number.{Number}
use Rattle.hc_core.specs.Program.{Expression, Target, ToRegister, ToElement, ToWord, ToSignal}
use Rattle.hc_core.specs.Depends.{accesses, target_accesses}
use Rattle.hc_meaning.specs.Residual.{Assign, Delay, Send, Receive, Offer, Sends, Receives, Residual, Cases, no_case, case_of}
use Rattle.hc_meaning.specs.Value.{World, Instant, number_of}
use Rattle.hc_meaning.specs.Control.{resolved, front, is_ready, Leaf, does, chooses_from}
use Rattle.hc_meaning.specs.Clock.{first_ready, taken, is_completed, sent_by, sent, written_at, writes, all_writes, Write}
use Rattle.hc_meaning.proofs.Sets.{offer_accesses}
use Rattle.hc_meaning.specs.Nets.{Member, but_for, IsUsed}
use Rattle.hc_meaning.proofs.Marks.{Mark, case_offers, reaches_no_word}
use Rattle.hc_meaning.proofs.Every.{Every}
use Rattle.hc_meaning.proofs.Nodes.{UsedLeaf, target_expressions}
use Rattle.hc_meaning.proofs.Identify.{leaves_used, Found}
use Rattle.hc_meaning.proofs.EdgeSame.{taken_is, completed_is}

abbrev pub LeafApart : Leaf → Type 0
LeafApart (does n a) = Unit {0}
LeafApart (chooses_from n cases) = Every (λ (x : ℕ × Mark). reaches_no_word x.1) (case_offers cases)

module _ (v : World) (r : Residual) (word : ℕ → ℕ → ℕ) (values : (e : Expression) → IsUsed v r e → number_of (but_for v v.instant word) e ≡ number_of v e) where
  abbrev w : World
  w = but_for v v.instant word

  -- where nothing is accessed, all that is accessed is the clock's
  unread : (e : Expression) → accesses e ≡ [] → IsUsed v r e
  unread e h a m = absurd (subst (Member a) h m)

  abbrev TargetUsed : Target → Type 0
  TargetUsed t = Every (IsUsed v r) (target_expressions t)

  written_same : (t : Target) (bits : ℕ) → TargetUsed t → written_at w t bits ≡ written_at v t bits
  written_same (ToRegister k) bits u = refl
  written_same (ToElement k i) bits u = ap (λ (n : Number). record { object = k; index = n.bits; bits = bits } ∷ []) (values i u.0)
  written_same (ToWord k i) bits u = ap (λ (n : Number). record { object = k; index = n.bits; bits = bits } ∷ []) (values i u.0)
  written_same (ToSignal k) bits u = refl

  -- the offer that is taken reads no word
  OfferUsed : Option (ℕ × Offer) → Type 0
  OfferUsed None = Unit {0}
  OfferUsed (Some (n, Sends chan e)) = accesses e ≡ []
  OfferUsed (Some (n, Receives chan t)) = target_accesses t ≡ []

  abbrev offer_in : Option ((ℕ × Offer) × Residual) → Option (ℕ × Offer)
  offer_in None = None
  offer_in (Some found) = Some found.0

  found_used : (cases : Cases) → Every (λ (x : ℕ × Mark). reaches_no_word x.1) (case_offers cases) → OfferUsed (offer_in (first_ready v cases))
  unfolding OfferUsed
  found_used no_case h = tt
  found_used (case_of n offer body rest) h = by (is_ready v offer) (one offer h.0) (found_used rest h.1)
    where
      one : (o : Offer) → offer_accesses o ≡ [] → OfferUsed (Some (n, o))
      one (Sends chan e) e' = e'
      one (Receives chan t) e' = e'

      by : (b : Bool) → OfferUsed (Some (n, offer)) → OfferUsed (offer_in (first_ready v rest)) → OfferUsed (offer_in (if b then Some ((n, offer), body) else first_ready v rest))
      by true p q = p
      by false p q = q

  taken_in : (n : ℕ) (cases : Cases) → taken v (chooses_from n cases) ≡ offer_in (first_ready v cases)
  taken_in n cases = by (first_ready v cases) refl
    where
      by : (f : Option ((ℕ × Offer) × Residual)) → first_ready v cases ≡ f → taken v (chooses_from n cases) ≡ offer_in f
      by None e = rw e refl
      by (Some found) e = rw e refl

  target_unread : (t : Target) → target_accesses t ≡ [] → TargetUsed t
  target_unread (ToRegister k) h = tt
  target_unread (ToElement k i) h = (unread i h, tt)
  target_unread (ToWord k i) h = absurd (let z = h in cc)
  target_unread (ToSignal k) h = tt

  sent_same : (k : ℕ) (l : Leaf) → UsedLeaf (IsUsed v r) l → LeafApart l → sent_by w k l ≡ sent_by v k l
  unfolding OfferUsed
  sent_same k (does n (Assign t e)) u h = refl
  sent_same k (does n Delay) u h = refl
  sent_same k (does n (Send chan e)) u h = ap (λ (x : Number). if chan == k then x.bits ∷ [] else []) (values e u.0)
  sent_same k (does n (Receive chan t)) u h = refl
  sent_same k (chooses_from n cases) u h = by (taken v (chooses_from n cases)) refl (subst OfferUsed (sym (taken_in n cases)) (found_used cases h))
    where
      by : (o : Option (ℕ × Offer)) → taken v (chooses_from n cases) ≡ o → OfferUsed o → sent_by w k (chooses_from n cases) ≡ sent_by v k (chooses_from n cases)
      by None e g = rw (taken_is v word (chooses_from n cases), e) refl
      by (Some (m, Sends chan x)) e g = rw (taken_is v word (chooses_from n cases), e) (ap (λ (y : Number). if chan == k then y.bits ∷ [] else []) (values x (unread x g)))
      by (Some (m, Receives chan t)) e g = rw (taken_is v word (chooses_from n cases), e) refl

  all_sent : (k : ℕ) (fr : List Leaf) → Every (UsedLeaf (IsUsed v r)) fr → Every LeafApart fr → flat_map (sent_by w k) fr ≡ flat_map (sent_by v k) fr
  all_sent k [] u h = refl
  all_sent k (l ∷ fr) u h = rw (sent_same k l u.0 h.0, all_sent k fr u.1 h.1) refl

  if_same : (b c : Bool) (x y : List Write) → b ≡ c → x ≡ y → (if b then x else []) ≡ (if c then y else [])
  if_same true c x y e f = rw (← e) f
  if_same false c x y e f = rw (← e) refl

  write_same : (fr : List Leaf) (l : Leaf) → ((k : ℕ) → sent w fr k ≡ sent v fr k) → UsedLeaf (IsUsed v r) l → LeafApart l → writes w fr l ≡ writes v fr l
  unfolding OfferUsed
  write_same fr (does n (Assign t e)) s u h = written_same t (number_of w e).bits u.1 ∙ ap (λ (x : Number). written_at v t x.bits) (values e u.0)
  write_same fr (does n Delay) s u h = refl
  write_same fr (does n (Send chan e)) s u h = refl
  write_same fr (does n (Receive chan t)) s u h =
      if_same (is_completed w fr (Receive chan t)) (is_completed v fr (Receive chan t)) (written_at w t (sent w fr chan)) (written_at v t (sent v fr chan)) (completed_is v word fr (Receive chan t))
      (written_same t (sent w fr chan) u ∙ ap (written_at v t) (s chan))
  write_same fr (chooses_from n cases) s u h = by (taken v (chooses_from n cases)) refl (subst OfferUsed (sym (taken_in n cases)) (found_used cases h))
    where
      by : (o : Option (ℕ × Offer)) → taken v (chooses_from n cases) ≡ o → OfferUsed o → writes w fr (chooses_from n cases) ≡ writes v fr (chooses_from n cases)
      by None e g = rw (taken_is v word (chooses_from n cases), e) refl
      by (Some (m, Sends chan x)) e g = rw (taken_is v word (chooses_from n cases), e) refl
      by (Some (m, Receives chan t)) e g = rw (taken_is v word (chooses_from n cases), e) (written_same t (sent w fr chan) (target_unread t g) ∙ ap (written_at v t) (s chan))

  some_writes : (fr list : List Leaf) → ((k : ℕ) → sent w fr k ≡ sent v fr k) → Every (UsedLeaf (IsUsed v r)) list → Every LeafApart list → flat_map (writes w fr) list ≡ flat_map (writes v fr) list
  some_writes fr [] s u h = refl
  some_writes fr (l ∷ list) s u h = rw (write_same fr l s u.0 h.0, some_writes fr list s u.1 h.1) refl

  pub writes_same : Every LeafApart (front (resolved v r)) → all_writes w (front (resolved v r)) ≡ all_writes v (front (resolved v r))
  writes_same h =
      let fr = front (resolved v r) in
      some_writes fr fr (λ k. ap (λ l. slice_index_or l 0 0) (all_sent k fr (leaves_used v r) h)) (leaves_used v r) h

-- what an identified world writes
pub identified_writes : (v : World) (r : Residual) (q : Instant) (word : ℕ → ℕ → ℕ) → Found v r q word → Every LeafApart (front (resolved v r))
    → all_writes (but_for v q word) (front (resolved (but_for v q word) r)) ≡ all_writes v (front (resolved v r))
identified_writes v r q word i h =
    ap (λ x. all_writes (but_for v q word) (front x)) i.control
    ∙ ap (λ p. all_writes (but_for v p word) (front (resolved v r))) i.instant
    ∙ writes_same v r word (λ e u. ap (λ p. number_of (but_for v p word) e) (sym i.instant) ∙ i.values e u) h
