-- Tokens are read as a form or refused as one, in any grammar in which no form begins with itself.
use Rattle.std.proofs.Common.{◌≡◌, ◌≢◌, ◌≤◌, ◌<◌, ℕ, zero, suc, ◌⊎◌, inl, inr, Bool, true, List, [], ◌∷◌, ◌++◌, length, Option, Some, None, refl, ap, length-append, lt-suc_self, arith}
use Rattle.hc_grammar.specs.Table.{Part, mark, form, Values, Rule, Grammar, front, Reads, by, ReadsRow, done, token, part, Stops, no_rule, inside, StopsRow, at_end, at_mark, behind_mark, at_form, behind_form}
use Rattle.hc_grammar.specs.LastReadings.{taken-by}
use Rattle.hc_grammar.specs.LastTable.{MayBeEmpty}
use Rattle.hc_grammar.proofs.Endings.{nothing-read}

module _ (g : Grammar) (may : g.Form → Bool) (known : MayBeEmpty g may) (decide : (a b : g.Kind) → (a ≡ b) ⊎ (a ≢ b)) (rank : g.Form → ℕ) where
  -- the forms at which a row can begin have lower ranks
  abbrev pub Leads : ℕ → List (Part g.Kind g.Form) → Type 0
  Leads n [] = Unit {0}
  Leads n (mark k ∷ row) = Unit {0}
  Leads n (form f ∷ row) = (rank f < n) × (may f ≡ true → Leads n row)

  abbrev pub Either : g.Form → List g.Token → Type 0
  Either f ts = ((v : g.Gives f) × (rest : List g.Token) × Reads g f ts v rest) ⊎ ((at : List g.Token) × Stops g f ts at)

  abbrev EitherRow : List (Part g.Kind g.Form) → List g.Token → Type 0
  EitherRow row ts = ((vs : Values g.Gives row) × (rest : List g.Token) × ReadsRow g row ts vs rest) ⊎ ((at : List g.Token) × StopsRow g row ts at)

  -- each form at each list shorter than n
  abbrev Below : ℕ → Type 0
  Below n = (f : g.Form) (ts : List g.Token) → length ts < n → Either f ts

  mid-within : {f : g.Form} {ts : List g.Token} {v : g.Gives f} {mid : List g.Token} → Reads g f ts v mid → length mid ≤ length ts
  mid-within {mid = mid} a = let it = taken-by g a in omega (arith, ap length it.is, length-append it.taken mid)

  -- as many tokens behind it as before it: it took none
  same-list : (taken ts mid : List g.Token) → ts ≡ taken ++ mid → length ts ≤ length mid → ts ≡ mid
  same-list [] ts mid is few = is
  same-list (t ∷ taken) ts mid is few = absurd (omega (arith, ap length is, length-append (t ∷ taken) mid))

  at-kind : {k : g.Kind} {row : List (Part g.Kind g.Form)} (t : g.Token) (tail : List g.Token) → (g.kind t ≡ k) ⊎ (g.kind t ≢ k) → EitherRow row tail
      → EitherRow (mark k ∷ row) (t ∷ tail)
  at-kind t tail (inl e) (inl found) = inl (found.0, found.1, token t tail refl e found.2)
  at-kind t tail (inl e) (inr found) = inr (found.0, behind_mark t tail refl e found.1)
  at-kind t tail (inr wrong) more = inr (t ∷ tail, at_mark t tail refl wrong)

  behind-part : {f : g.Form} {row : List (Part g.Kind g.Form)} {ts : List g.Token} (v : g.Gives f) (mid : List g.Token) → Reads g f ts v mid → EitherRow row mid
      → EitherRow (form f ∷ row) ts
  behind-part v mid a (inl found) = inl ((v, found.0), found.1, part mid a found.2)
  behind-part v mid a (inr found) = inr (found.0, behind_form v mid a found.1)

  with-part : {f : g.Form} {row : List (Part g.Kind g.Form)} {ts : List g.Token} → Either f ts
      → ((v : g.Gives f) (mid : List g.Token) → Reads g f ts v mid → EitherRow row mid) → EitherRow (form f ∷ row) ts
  with-part (inl found) more = behind-part found.0 found.1 found.2 (more found.0 found.1 found.2)
  with-part (inr found) more = inr (found.0, at_form found.1)

  row-below : (n : ℕ) → Below n → (row : List (Part g.Kind g.Form)) (ts : List g.Token) → length ts < n → EitherRow row ts
  row-below n below [] ts few = inl (tt, ts, done)
  row-below n below (mark k ∷ row) [] few = inr ([], at_end refl)
  row-below n below (mark k ∷ row) (t ∷ tail) few = at-kind t tail (decide (g.kind t) k) (row-below n below row tail (omega arith))
  row-below n below (form f ∷ row) ts few = with-part (below f ts few) (λ v mid a. row-below n below row mid (let it = mid-within a in omega arith))

  le-or : (a b : ℕ) → (a ≤ b) ⊎ (b < a)
  le-or a b = grind arith

  row-here : (n : ℕ) → Below n → (m : ℕ) → ((f : g.Form) (ts : List g.Token) → length ts < suc n → rank f < m → Either f ts)
      → (row : List (Part g.Kind g.Form)) (ts : List g.Token) → length ts < suc n → Leads m row → EitherRow row ts
  row-here n below m lower [] ts few leads = inl (tt, ts, done)
  row-here n below m lower (mark k ∷ row) [] few leads = inr ([], at_end refl)
  row-here n below m lower (mark k ∷ row) (t ∷ tail) few leads = at-kind t tail (decide (g.kind t) k) (row-below n below row tail (omega arith))
  row-here n below m lower (form f ∷ row) ts few leads =
      with-part (lower f ts few leads.0) (λ v mid a. behind a (le-or (length ts) (length mid)) (λ empty. row-here n below m lower row mid (let it = mid-within a in omega arith) (leads.1 empty)))
    where
      behind : {v : g.Gives f} {mid : List g.Token} → Reads g f ts v mid → (length ts ≤ length mid) ⊎ (length mid < length ts)
          → (may f ≡ true → EitherRow row mid) → EitherRow row mid
      behind {mid = mid} a (inl all) here = let it = taken-by g a in here (nothing-read g may known a (same-list it.taken ts mid it.is all))
      behind {mid = mid} a (inr fewer) here = row-below n below row mid (omega arith)

  module _ (leads : (f : g.Form) (o : Option g.Token) (r : Rule g.Kind g.Gives f) → g.rule f o ≡ Some r → Leads (rank f) r.row) where
    in-row : {f : g.Form} {ts : List g.Token} (r : Rule g.Kind g.Gives f) → g.rule f (front ts) ≡ Some r → EitherRow r.row ts → Either f ts
    in-row r e (inl found) = inl (r.gives found.0, found.1, by r found.0 e found.2 refl)
    in-row r e (inr found) = inr (found.0, inside r e found.1)

    by-rule : {f : g.Form} {ts : List g.Token} (o : Option (Rule g.Kind g.Gives f)) → g.rule f (front ts) ≡ o
        → ((r : Rule g.Kind g.Gives f) → g.rule f (front ts) ≡ Some r → EitherRow r.row ts) → Either f ts
    by-rule {ts = ts} None e rows = inr (ts, no_rule e)
    by-rule (Some r) e rows = in-row r e (rows r e)

    here : (n : ℕ) → Below n → (m : ℕ) (f : g.Form) (ts : List g.Token) → length ts < suc n → rank f < m → Either f ts
    here n below zero f ts few low = absurd (omega (arith, low))
    here n below (suc m) f ts few low =
        by-rule (g.rule f (front ts)) refl (λ r e. row-here n below (rank f) (λ f' ts' few' low'. here n below m f' ts' few' (omega arith)) r.row ts few (leads f (front ts) r e))

    below : (n : ℕ) → Below n
    below zero f ts few = absurd (omega (arith, few))
    below (suc n) f ts few = here n (below n) (suc (rank f)) f ts few (lt-suc_self (rank f))

    pub either : (f : g.Form) (ts : List g.Token) → Either f ts
    either f ts = below (suc (length ts)) f ts (lt-suc_self (length ts))
