-- Each clean clock has a world that the circuits could have: with the clock's own instant, and with the words at the index of the
-- one use that each RAM and ROM has.
use Rattle.std.proofs.Common.{◌≡◌, ◌⊎◌, inl, inr, ℕ, ◌==◌, Bool, true, false, ◌||◌, List, [], ◌∷◌, map, flat_map, None, refl, sym, ap, ◌∙◌, subst, arith}
use Rattle.std.specs.Prelude.{if◌then◌else◌}
use Rattle.std.specs.List.{list_any}
use Rattle.hc_core.specs.Depends.{Access, accesses}
use Rattle.hc_core.specs.Typed.{kinds_of}
use Rattle.hc_core.specs.Rules.{accessed}
use Rattle.hc_core.specs.declared.object.Core.{Core}
use Rattle.hc_meaning.specs.Residual.{Residual, Sends, Receives, Cases, no_case, case_of}
use Rattle.hc_meaning.specs.Value.{World}
use Rattle.hc_meaning.specs.Control.{resolved, evaluated, front, Condition, Leaf, does, chooses_from}
use Rattle.hc_meaning.specs.Clock.{offered_accesses, condition_uses, leaf_uses, leaf_number, user, users}
use Rattle.hc_meaning.specs.Run.{Run, Settled, world_in, conflict, front_of, IsSettled}
use Rattle.hc_meaning.specs.Uses.{indexes, access_at, leaf_words, condition_words, words_used}
use Rattle.hc_meaning.specs.Clock.{action_accesses}
use Rattle.hc_meaning.specs.Nets.{Member, AccessesApart, OffersApart, but_for, PortUse, Wired}
use Rattle.hc_meaning.proofs.Identify.{AllAre, OneUse, in_left, in_right, in_either, is_one}
use Rattle.hc_meaning.proofs.Law.{reached}
use Rattle.hc_meaning.proofs.Once.{every_member, flat_in, flat_of, used_once}
use Rattle.hc_meaning.proofs.Every.{Every}
use Rattle.hc_meaning.proofs.Marks.{Mark, case_offers, reaches_no_word}
use Rattle.hc_meaning.proofs.Writes.{LeafApart}
use Rattle.hc_meaning.proofs.Nets.{front_apart}
use Rattle.hc_meaning.proofs.AccessOnce.{access_once}
use Rattle.hc_meaning.proofs.Satisfied.{shows, satisfied, words_same}
use Rattle.hc_meaning.proofs.Twice.{clean_of}

-- ---- each user has an access

-- an access, by the number of what accesses
abbrev Accessed : ℕ → List (ℕ × ℕ) → Type 0
Accessed n list = (x : ℕ × ℕ) × Member x list × (x.0 ≡ n)

some_access : (k n m : ℕ) (v : World) (list : List Access) → Member m (user k n (accessed list)) → Accessed m (map (access_at n v) (indexes k list))
some_access k n m v [] h = absurd h
some_access k n m v (a ∷ list) h = by (a.0 == k) h (some_access k n m v list)
  where
    first : Member m (n ∷ []) → n ≡ m
    first (inl e) = e
    first (inr e) = absurd e

    by : (b : Bool) → Member m (if b || list_any (λ j. j == k) (accessed list) then n ∷ [] else [])
        → (Member m (user k n (accessed list)) → Accessed m (map (access_at n v) (indexes k list)))
        → Accessed m (map (access_at n v) (if b then a.1 ∷ indexes k list else indexes k list))
    by true g next = (access_at n v a.1, inl refl, first g)
    by false g next = next g

-- a `prialt` whose cases access nothing is no user
nothing_offered : (cases : Cases) → Every (λ (x : ℕ × Mark). reaches_no_word x.1) (case_offers cases) → offered_accesses cases ≡ []
nothing_offered no_case h = refl
nothing_offered (case_of n (Sends chan e) body rest) h = rw h.0 (nothing_offered rest h.1)
nothing_offered (case_of n (Receives chan t) body rest) h = rw h.0 (nothing_offered rest h.1)

leaf_access : (k m : ℕ) (v : World) (l : Leaf) → LeafApart l → Member m (user k (leaf_number l) (leaf_uses l)) → Accessed m (leaf_words k v l)
leaf_access k m v (does n a) apart h = some_access k n m v (action_accesses a) h
leaf_access k m v (chooses_from n cases) apart h = absurd (subst (λ l. Member m (user k n (accessed l))) (nothing_offered cases apart) h)

condition_access : (k m : ℕ) (v : World) (c : Condition) → Member m (user k c.number (condition_uses c)) → Accessed m (condition_words k v c)
condition_access k m v c h = some_access k c.number m v (accesses c.value) h

user_accesses : (k m : ℕ) (w : World) (r : Residual) → Every LeafApart (front (resolved w r)) → Member m (users k (front (resolved w r)) (evaluated w r)) → Accessed m (words_used k w r)
user_accesses k m w r apart h =
    by (in_either m (flat_map (λ l. user k (leaf_number l) (leaf_uses l)) (front (resolved w r))) (flat_map (λ c. user k c.number (condition_uses c)) (evaluated w r)) h)
  where
    by : Member m (flat_map (λ l. user k (leaf_number l) (leaf_uses l)) (front (resolved w r))) ⊎ Member m (flat_map (λ c. user k c.number (condition_uses c)) (evaluated w r))
        → Accessed m (words_used k w r)
    by (inl g) =
        let a = flat_of (λ l. user k (leaf_number l) (leaf_uses l)) (front (resolved w r)) m g in
        let x = leaf_access k m w a.0 (every_member LeafApart (front (resolved w r)) a.0 apart a.1) a.2 in
        (x.0, in_left x.0 (flat_map (leaf_words k w) (front (resolved w r))) (flat_map (condition_words k w) (evaluated w r)) (flat_in (leaf_words k w) (front (resolved w r)) a.0 x.0 a.1 x.1), x.2)
    by (inr g) =
        let a = flat_of (λ c. user k c.number (condition_uses c)) (evaluated w r) m g in
        let x = condition_access k m w a.0 a.2 in
        (x.0, in_right x.0 (flat_map (leaf_words k w) (front (resolved w r))) (flat_map (condition_words k w) (evaluated w r)) (flat_in (condition_words k w) (evaluated w r) a.0 x.0 a.1 x.1), x.2)

-- ---- one enabled use for each RAM and ROM that is accessed

abbrev listed : List (ℕ × ℕ) → List PortUse
listed [] = []
listed (x ∷ rest) = record { number = x.0; enabled = true; index = x.1 } ∷ []

one_listed : (list : List (ℕ × ℕ)) (a b : PortUse) → Member a (listed list) → Member b (listed list) → a ≡ b
one_listed [] a b m n = absurd m
one_listed (x ∷ rest) a b (inl e) (inl f) = sym e ∙ f
one_listed (x ∷ rest) a b (inl e) (inr n) = absurd n
one_listed (x ∷ rest) a b (inr m) n = absurd m

is_listed : (list : List (ℕ × ℕ)) (a : PortUse) → Member a (listed list) → Member (a.number, a.index) list
is_listed [] a m = absurd m
is_listed (x ∷ rest) a (inl e) = inl (ap (λ (u : PortUse). (u.number, u.index)) e)
is_listed (x ∷ rest) a (inr m) = absurd m

has_listed : (list : List (ℕ × ℕ)) (u x : ℕ × ℕ) → AllAre u list → Member x list → (a : PortUse) × Member a (listed list) × (a.number ≡ x.0) × (a.enabled ≡ true)
has_listed [] u x all m = absurd m
has_listed (y ∷ rest) u x all m =
    let e = is_one u x (y ∷ rest) all m in
    (record { number = y.0; enabled = true; index = y.1 }, inl refl, ap (λ (z : ℕ × ℕ). z.0) (all.0 ∙ sym e), refl)

module _ (v : World) (r : Residual) (one : OneUse v r) (apart : Every LeafApart (front (resolved (but_for v v.instant (shows v r one)) r))) where
  -- the clock's own instant, with the word that each port shows
  abbrev w : World
  w = but_for v v.instant (shows v r one)

  pub wired : IsSettled v r → Wired v r v.instant (shows v r one)
  wired mine = record {
    agrees = (satisfied v r one mine).agrees;
    uses = λ k. listed (words_used k v r);
    distinct = λ k a b m n e. one_listed (words_used k v r) a b m n;
    index = λ k a m e. subst (Member (a.number, a.index)) (sym (words_same v r one k)) (is_listed (words_used k v r) a m);
    enable = enabled;
    port = λ k a m e others i. ap (λ (x : ℕ × ℕ). v.word k x.1) (sym (is_one (one k).0 (a.number, a.index) (words_used k v r) (one k).1 (is_listed (words_used k v r) a m)));
  }
    where
      enabled : (k n : ℕ) → Member n (users k (front_of w r) (evaluated w r)) → (a : PortUse) × Member a (listed (words_used k v r)) × (a.number ≡ n) × (a.enabled ≡ true)
      enabled k n h =
          let x = user_accesses k n w r apart h in
          let a = has_listed (words_used k v r) (one k).0 x.0 (one k).1 (subst (Member x.0) (words_same v r one k) x.1) in
          (a.0, a.1, a.2 ∙ x.2, a.3)

pub is_met : (core : Core) → AccessesApart core → OffersApart core → (trace : ℕ → List ℕ) (n : ℕ) (run : Run core trace n) (inputs : List ℕ) (settled : Settled (kinds_of core.objects) inputs (run.state n))
    → conflict (world_in settled) (run.state n).rest ≡ None → (word : ℕ → ℕ → ℕ) × Wired (world_in settled) (run.state n).rest settled.instant word
is_met core apart offers trace n run inputs settled clean =
    let s = run.state n in
    let v = world_in settled in
    let used = (clean_of v (front_of v s.rest) (evaluated v s.rest) clean).accessed in
    let h = reached core trace n run n (omega arith) in
    let one = used_once core s.rest v h (access_once core apart) used in
    (shows v s.rest one, wired v s.rest one (front_apart core offers s.rest h (but_for v v.instant (shows v s.rest one))) settled.agrees)
