-- The longest form where the reading stops, for any grammar of which it is known which forms may be empty.
use Rattle.std.proofs.Common.{◌≡◌, ◌≢◌, ◌≤◌, ◌<◌, ◌+◌, ◌-◌, ℕ, zero, suc, ◌⊎◌, inl, inr, ⊎_elim, Bool, true, false, ◌&&◌, List, [], ◌∷◌, ◌++◌, length, take, drop, Option, Some, None, refl, sym, ap, ◌∙◌, subst, append_assoc, length-append, take-append-drop, length-take-le, length-drop, le_of_eq, zero-le, one-add, add-zero, arith}
use Rattle.std.proofs.Math.Seq.{take-append-add, take-append_seam}
use Rattle.hc_grammar.specs.Table.{Part, mark, form, Values, Rule, Grammar, front, Reads, by, ReadsRow, done, token, part, Stops, no_rule, inside, at_end, at_mark, behind_mark, at_form, behind_form}
use Rattle.hc_grammar.specs.Last.{Greatest, behind, or_zero, Complete, CompleteRow, IsLast, StopsAt, StopsRowAt}
use Rattle.hc_grammar.specs.LastReadings.{some-same, none-some, head-same, tail-same, empty-full, reads-same, never-both, taken-by}

-- whether all parts of a row may be empty, by which forms may be
abbrev pub row_may : {K F : Type 0} → (F → Bool) → List (Part K F) → Bool
row_may may [] = true
row_may may (mark k ∷ row) = false
row_may may (form f ∷ row) = may f && row_may may row

-- which forms may be empty, and that such a one is empty at the end as it is before a token
pub record MayBeEmpty (g : Grammar) (may : g.Form → Bool) : Type 0 where
  pub empty : (f : g.Form) → may f ≡ true → (v : g.Gives f) × Reads g f [] v []
  pub full : (f : g.Form) (r : Rule g.Kind g.Gives f) → may f ≡ false → g.rule f None ≡ Some r → row_may may r.row ≡ false
  pub kept : (f : g.Form) (t : g.Token) (r : Rule g.Kind g.Gives f) → g.rule f (Some t) ≡ Some r → row_may may r.row ≡ true → g.rule f None ≡ Some r

-- ---- lists and numbers

and-true : {a b : Bool} → a ≡ true → b ≡ true → a && b ≡ true
and-true p q = rw (p, q) refl

pub and-left : (a b : Bool) → a && b ≡ true → a ≡ true
and-left true b p = refl
and-left false b p = absurd cc

pub and-right : (a b : Bool) → a && b ≡ true → b ≡ true
and-right true b p = p
and-right false b p = absurd cc

not-both : {a : Bool} → a ≡ true → a ≡ false → ⊥
not-both p q = absurd cc

or-not : (a : Bool) → (a ≡ true) ⊎ (a ≡ false)
or-not true = inl refl
or-not false = inr refl

-- the front of a front is that of the whole, or it is empty
front-take : {A : Type 0} (n : ℕ) (ts : List A) → (front (take n ts) ≡ front ts) ⊎ (take n ts ≡ [])
front-take zero ts = inr refl
front-take (suc n) [] = inr refl
front-take (suc n) (t ∷ ts) = inl refl

split-take : {A : Type 0} (n : ℕ) (ts : List A) {t : A} {tail : List A} → take n ts ≡ t ∷ tail
    → (m : ℕ) × (rest : List A) × (n ≡ suc m) × (ts ≡ t ∷ rest) × (tail ≡ take m rest)
split-take zero ts is = absurd cc
split-take (suc n) [] is = absurd cc
split-take (suc n) (u ∷ ts) {t = t} is = (n, ts, refl, ap (λ x. x ∷ ts) (head-same refl is), sym (tail-same refl is))

empty-length : {A : Type 0} (ts : List A) → ts ≡ [] → length ts ≡ 0
empty-length ts none = ap length none

none-none : {A : Type 0} (a b : List A) → a ++ b ≡ [] → b ≡ []
none-none [] b e = e
none-none (x ∷ a) b e = absurd cc

take-one : {A : Type 0} (m : ℕ) {ts tail : List A} {t : A} → ts ≡ t ∷ tail → take (1 + m) ts ≡ t ∷ take m tail
take-one m is = rw (is, one-add) refl

-- a front that ends behind another one
cut : {A : Type 0} (ts taken mid : List A) → ts ≡ taken ++ mid → (d : ℕ) → length ts ≡ d + length mid → (m : ℕ) → take (d + m) ts ≡ taken ++ take m mid
cut ts taken mid is d far m =
    let e : d ≡ length taken = omega (arith, ap length is, length-append taken mid) in
    rw (is, e) (take-append-add taken mid m)

le-or : (a b : ℕ) → (a ≤ b) ⊎ (b < a)
le-or a b = grind arith

greatest-behind : (P Q : ℕ → Type 0) (d : ℕ) → ((m : ℕ) → P m → Q (d + m)) → ((n : ℕ) → Q n → ((m : ℕ) × (n ≡ d + m) × P m) ⊎ ((n ≤ d) × P 0))
    → (last : Option ℕ) → Greatest P last → Greatest Q (behind d last)
greatest-behind P Q d up down None none = λ n q. ⊎_elim (λ found. none found.0 found.2) (λ found. none 0 found.1) (down n q)
greatest-behind P Q d up down (Some k) (p, most) = (up k p, λ n q. bounded n (down n q))
  where
    bounded : (n : ℕ) → ((m : ℕ) × (n ≡ d + m) × P m) ⊎ ((n ≤ d) × P 0) → n ≤ d + k
    bounded n (inl found) = let m = most found.0 found.2 in let e = found.1 in omega arith
    bounded n (inr found) = let m = found.0 in omega arith

greatest-same : (P Q : ℕ → Type 0) → ((n : ℕ) → P n → Q n) → ((n : ℕ) → Q n → P n) → (last : Option ℕ) → Greatest P last → Greatest Q last
greatest-same P Q up down None none = λ n q. none n (down n q)
greatest-same P Q up down (Some k) (p, most) = (up k p, λ n q. most n (down n q))

greatest-or_zero : (P Q : ℕ → Type 0) → Q 0 → ((n : ℕ) → P n → Q n) → ((n : ℕ) → Q n → P n ⊎ (n ≡ 0)) → (last : Option ℕ) → Greatest P last → Greatest Q (or_zero last)
greatest-or_zero P Q zero_is up down None none = (zero_is, λ n q. ⊎_elim (λ p. absurd (none n p)) (λ e. le_of_eq e) (down n q))
greatest-or_zero P Q zero_is up down (Some k) (p, most) = (up k p, λ n q. ⊎_elim (most n) (λ e. omega (arith, e)) (down n q))

module _ (g : Grammar) (may : g.Form → Bool) (known : MayBeEmpty g may) where
  -- ---- what may be empty

  mutual
    pub reads-empty : {f : g.Form} {ts : List g.Token} {v : g.Gives f} {rest : List g.Token} → Reads g f ts v rest → ts ≡ [] → may f ≡ true
    reads-empty {f = f} (by r vs e d p) none =
        let row = row-reads-empty d none in
        ⊎_elim (λ is. is) (λ other. absurd (not-both row (known.full f r other (ap (λ ts. g.rule f (front ts)) (sym none) ∙ e)))) (or-not (may f))

    pub row-reads-empty : {row : List (Part g.Kind g.Form)} {ts : List g.Token} {vs : Values g.Gives row} {rest : List g.Token} → ReadsRow g row ts vs rest
        → ts ≡ [] → row_may may row ≡ true
    row-reads-empty done none = refl
    row-reads-empty (token t tail is k p) none = absurd cc
    row-reads-empty (part {ts = ts} mid a p) none =
        let first = taken-by g a in
        and-true (reads-empty a none) (row-reads-empty p (none-none first.taken mid (sym first.is ∙ none)))

  pub empty-row : (row : List (Part g.Kind g.Form)) → row_may may row ≡ true → (vs : Values g.Gives row) × ReadsRow g row [] vs []
  empty-row [] is = (tt, done)
  empty-row (mark k ∷ row) is = absurd cc
  empty-row (form f ∷ row) is =
      let first = known.empty f (and-left (may f) (row_may may row) is) in
      let more = empty-row row (and-right (may f) (row_may may row) is) in
      ((first.0, more.0), part [] first.1 more.1)

  -- ---- what was read is read before the end too

  -- what was read, and that it is read before every rest with the same front, and before the end
  pub record Ended (f : g.Form) (ts : List g.Token) (v : g.Gives f) (rest : List g.Token) : Type 0 where
    pub taken : List g.Token
    pub is : ts ≡ taken ++ rest
    pub before : (other : List g.Token) → (front other ≡ front rest) ⊎ (other ≡ []) → Reads g f (taken ++ other) v other

  pub record EndedRow (row : List (Part g.Kind g.Form)) (ts : List g.Token) (vs : Values g.Gives row) (rest : List g.Token) : Type 0 where
    pub taken : List g.Token
    pub is : ts ≡ taken ++ rest
    pub before : (other : List g.Token) → (front other ≡ front rest) ⊎ (other ≡ []) → ReadsRow g row (taken ++ other) vs other

  same-or-end : (taken rest other : List g.Token) → (front other ≡ front rest) ⊎ (other ≡ []) → (front (taken ++ other) ≡ front (taken ++ rest)) ⊎ (taken ++ other ≡ [])
  same-or-end [] rest other same = same
  same-or-end (t ∷ taken) rest other same = inl refl

  rule-before : (f : g.Form) (r : Rule g.Kind g.Gives f) (ts other : List g.Token) {vs : Values g.Gives r.row} {rest : List g.Token} → (front other ≡ front ts) ⊎ (other ≡ [])
      → g.rule f (front ts) ≡ Some r → ReadsRow g r.row other vs rest → g.rule f (front other) ≡ Some r
  rule-before f r ts other (inl same) e d = ap (g.rule f) same ∙ e
  rule-before f r [] other (inr none) e d = ap (λ ts. g.rule f (front ts)) none ∙ e
  rule-before f r (t ∷ ts) other (inr none) e d = ap (λ ts. g.rule f (front ts)) none ∙ known.kept f t r e (row-reads-empty d none)

  mutual
    pub ended-by : {f : g.Form} {ts : List g.Token} {v : g.Gives f} {rest : List g.Token} → Reads g f ts v rest → Ended f ts v rest
    ended-by {f = f} {ts = ts} {rest = rest} (by r vs e d p) =
        let row = row-ended-by d in
        record {
          taken = row.taken;
          is = row.is;
          before = λ other same.
              let d' = row.before other same in
              let same' = subst (λ ts. (front (row.taken ++ other) ≡ front ts) ⊎ (row.taken ++ other ≡ [])) (sym row.is) (same-or-end row.taken rest other same) in
              by r vs (rule-before f r ts (row.taken ++ other) same' e d') d' p;
        }

    pub row-ended-by : {row : List (Part g.Kind g.Form)} {ts : List g.Token} {vs : Values g.Gives row} {rest : List g.Token} → ReadsRow g row ts vs rest
        → EndedRow row ts vs rest
    row-ended-by done = record { taken = []; is = refl; before = λ other same. done }
    row-ended-by (token t tail is k p) =
        let row = row-ended-by p in
        record { taken = t ∷ row.taken; is = is ∙ ap (◌∷◌ t) row.is; before = λ other same. token t (row.taken ++ other) refl k (row.before other same) }
    row-ended-by (part {rest = rest} mid a p) =
        let first = ended-by a in
        let row = row-ended-by p in
        record {
          taken = first.taken ++ row.taken;
          is = first.is ∙ ap (λ mid. first.taken ++ mid) row.is ∙ sym (append_assoc first.taken row.taken rest);
          before = λ other same.
              let same' = subst (λ mid. (front (row.taken ++ other) ≡ front mid) ⊎ (row.taken ++ other ≡ [])) (sym row.is) (same-or-end row.taken rest other same) in
              rw (append_assoc first.taken row.taken other) (part (row.taken ++ other) (first.before (row.taken ++ other) same') (row.before other same));
        }

  -- ---- whole rows at the front, by their first part

  mark-read : {k : g.Kind} {row : List (Part g.Kind g.Form)} {ts : List g.Token} {vs : Values g.Gives row} {rest : List g.Token} → ReadsRow g (mark k ∷ row) ts vs rest
      → (t : g.Token) × (tail : List g.Token) × (ts ≡ t ∷ tail) × (g.kind t ≡ k) × ReadsRow g row tail vs rest
  mark-read (token t tail is k p) = (t, tail, is, k, p)

  form-read : {f : g.Form} {row : List (Part g.Kind g.Form)} {ts : List g.Token} {vs : Values g.Gives (form f ∷ row)} {rest : List g.Token}
      → ReadsRow g (form f ∷ row) ts vs rest → (mid : List g.Token) × Reads g f ts vs.0 mid × ReadsRow g row mid vs.1 rest
  form-read (part mid a p) = (mid, a, p)

  -- what was read before a token is read before it in a longer list too
  seen : {f : g.Form} {ts : List g.Token} {v : g.Gives f} {t : g.Token} {tail : List g.Token} → Reads g f ts v (t ∷ tail)
      → (more : List g.Token) → Reads g f (ts ++ more) v (t ∷ tail ++ more)
  seen {t = t} {tail = tail} a more =
      let first = taken-by g a in
      rw (first.is, append_assoc first.taken (t ∷ tail) more) (first.before (t ∷ tail ++ more) refl)

  -- a mark that is there
  complete-mark : {k : g.Kind} {row : List (Part g.Kind g.Form)} {ts : List g.Token} (t : g.Token) (tail : List g.Token) → ts ≡ t ∷ tail → g.kind t ≡ k
      → (m : ℕ) → CompleteRow g row tail m → CompleteRow g (mark k ∷ row) ts (1 + m)
  complete-mark t tail is k m c = record {
    within = omega (arith, ap length is, c.within);
    values = c.values;
    spells = token t (take m tail) (take-one m is) k c.spells;
  }

  mark-complete : {k : g.Kind} {row : List (Part g.Kind g.Form)} {ts : List g.Token} (t : g.Token) (tail : List g.Token) → ts ≡ t ∷ tail
      → (n : ℕ) → CompleteRow g (mark k ∷ row) ts n → (m : ℕ) × (n ≡ 1 + m) × CompleteRow g row tail m
  mark-complete {row = row} {ts = ts} t tail is n c =
      let found = mark-read c.spells in
      let cut = split-take n ts found.2 in
      let same : cut.1 ≡ tail = tail-same cut.3 is in
      let count : n ≡ 1 + cut.0 = omega (arith, cut.2) in (
        cut.0,
        count,
        record {
          within = omega (arith, ap length is, c.within, count);
          values = c.values;
          spells = subst (λ tail. ReadsRow g row tail c.values []) (cut.4 ∙ ap (take cut.0) same) found.4;
        },
      )

  -- without its mark a row isn't there
  no-mark : {k : g.Kind} {row : List (Part g.Kind g.Form)} {ts : List g.Token} (t : g.Token) (tail : List g.Token) → ts ≡ t ∷ tail → g.kind t ≢ k
      → (n : ℕ) → ¬ CompleteRow g (mark k ∷ row) ts n
  no-mark {ts = ts} t tail is wrong n c =
      let found = mark-read c.spells in
      let cut = split-take n ts found.2 in
      wrong (ap g.kind (head-same is cut.3) ∙ found.3)

  no-mark_end : {k : g.Kind} {row : List (Part g.Kind g.Form)} {ts : List g.Token} → ts ≡ [] → (n : ℕ) → ¬ CompleteRow g (mark k ∷ row) ts n
  no-mark_end {ts = ts} none n c =
      let found = mark-read c.spells in
      let cut = split-take n ts found.2 in
      empty-full none cut.3

  -- a form that was read
  complete-behind : {f : g.Form} {row : List (Part g.Kind g.Form)} {ts mid : List g.Token} {v : g.Gives f} → Reads g f ts v mid
      → (d : ℕ) → length ts ≡ d + length mid → (m : ℕ) → CompleteRow g row mid m → CompleteRow g (form f ∷ row) ts (d + m)
  complete-behind {ts = ts} {mid = mid} {v = v} a d far m c =
      let first = ended-by a in
      record {
        within = omega (arith, far, c.within);
        values = (v, c.values);
        spells = rw (cut ts first.taken mid first.is d far m) (part (take m mid) (first.before (take m mid) (front-take m mid)) c.spells);
      }

  -- whole parts are read where the first of them was, or all of them within it
  behind-at : {f : g.Form} {row : List (Part g.Kind g.Form)} {ts mid : List g.Token} {v : g.Gives f} → Reads g f ts v mid
      → (d : ℕ) → length ts ≡ d + length mid → (n : ℕ) → n ≤ length ts → {w : g.Gives f} {vs : Values g.Gives row} (mid' : List g.Token)
      → Reads g f (take n ts) w mid' → ReadsRow g row mid' vs []
      → ((m : ℕ) × (n ≡ d + m) × CompleteRow g row mid m) ⊎ ((n ≤ d) × CompleteRow g row mid 0)
  behind-at {f = f} {row = row} {ts = ts} {mid = mid} {v = v} a d far n within {w = w} {vs = vs} [] a' p' =
      inr (⊎_elim (λ few. few) (λ many. absurd (further many)) (le-or n d), record { within = zero-le; values = vs; spells = p' })
    where
      further : d < n → ⊥
      further many =
          let first = ended-by a in
          let count : d + (n - d) ≡ n = omega arith in
          let b = first.before (take (n - d) mid) (front-take (n - d) mid) in
          let same : take (n - d) mid ≡ [] = (reads-same g b (subst (λ ts. Reads g f ts w []) (ap (λ n. take n ts) (sym count) ∙ cut ts first.taken mid first.is d far (n - d)) a')).1 in
          omega (arith, ap length same, length-take-le (n - d) mid (omega arith))
  behind-at {f = f} {row = row} {ts = ts} {mid = mid} {v = v} a d far n within {w = w} {vs = vs} (t ∷ tail) a' p' =
      let b = subst (λ us. Reads g f us w (t ∷ tail ++ drop n ts)) (take-append-drop n ts) (seen a' (drop n ts)) in
      let same : mid ≡ t ∷ tail ++ drop n ts = (reads-same g a b).1 in
      let count : n ≡ d + length (t ∷ tail) = omega (arith, far, ap length same, length-append (t ∷ tail) (drop n ts), length-drop n ts, within) in
      let whole : take (length (t ∷ tail)) mid ≡ t ∷ tail = rw same (take-append_seam (t ∷ tail) (drop n ts)) in
      inl (
        length (t ∷ tail),
        count,
        record {
          within = omega (arith, far, within, count);
          values = vs;
          spells = rw whole p';
        },
      )

  behind-complete : {f : g.Form} {row : List (Part g.Kind g.Form)} {ts mid : List g.Token} {v : g.Gives f} → Reads g f ts v mid
      → (d : ℕ) → length ts ≡ d + length mid → (n : ℕ) → CompleteRow g (form f ∷ row) ts n
      → ((m : ℕ) × (n ≡ d + m) × CompleteRow g row mid m) ⊎ ((n ≤ d) × CompleteRow g row mid 0)
  behind-complete a d far n c =
      let found = form-read c.spells in
      behind-at a d far n c.within found.0 found.1 found.2

  -- a form that can't be read
  stopped-at : {f : g.Form} {row : List (Part g.Kind g.Form)} {ts at : List g.Token} → Stops g f ts at
      → (n : ℕ) → n ≤ length ts → {v : g.Gives f} {vs : Values g.Gives row} (mid : List g.Token) → Reads g f (take n ts) v mid → ReadsRow g row mid vs []
      → (row_may may row ≡ true) × Complete g f ts n
  stopped-at s n within {v = v} [] a p = (row-reads-empty p refl, record { within = within; value = v; spells = a })
  stopped-at {f = f} {ts = ts} s n within {v = v} (t ∷ tail) a p =
      absurd (never-both g (subst (λ us. Reads g f us v (t ∷ tail ++ drop n ts)) (take-append-drop n ts) (seen a (drop n ts))) s)

  stopped-complete : {f : g.Form} {row : List (Part g.Kind g.Form)} {ts at : List g.Token} → Stops g f ts at
      → (n : ℕ) → CompleteRow g (form f ∷ row) ts n → (row_may may row ≡ true) × Complete g f ts n
  stopped-complete s n c =
      let found = form-read c.spells in
      stopped-at s n c.within found.0 found.1 found.2

  complete-stopped : {f : g.Form} {row : List (Part g.Kind g.Form)} {ts : List g.Token} → row_may may row ≡ true
      → (n : ℕ) → Complete g f ts n → CompleteRow g (form f ∷ row) ts n
  complete-stopped {row = row} is n c =
      let more = empty-row row is in
      record { within = c.within; values = (c.value, more.0); spells = part [] c.spells more.1 }

  -- a form by its rule
  rule-complete : {f : g.Form} {ts : List g.Token} (r : Rule g.Kind g.Gives f) → g.rule f (front ts) ≡ Some r → (n : ℕ) → CompleteRow g r.row ts n → Complete g f ts n
  rule-complete {f = f} {ts = ts} r e n c = record {
    within = c.within;
    value = r.gives c.values;
    spells = by r c.values (rule-before f r ts (take n ts) (front-take n ts) e c.spells) c.spells refl;
  }

  rule-at : {f : g.Form} {us : List g.Token} (r : Rule g.Kind g.Gives f) → g.rule f (front us) ≡ Some r → {v : g.Gives f} {rest : List g.Token}
      → Reads g f us v rest → (vs : Values g.Gives r.row) × ReadsRow g r.row us vs rest
  rule-at {f = f} {us = us} r e {rest = rest} (by r' vs e' d p) =
      subst (λ (r : Rule g.Kind g.Gives f). (vs : Values g.Gives r.row) × ReadsRow g r.row us vs rest) (some-same e' e) (vs, d)

  none-taken : (ts : List g.Token) (n : ℕ) → n ≤ length ts → take n ts ≡ [] → n ≡ 0
  none-taken ts n within none = omega (arith, ap length none, length-take-le n ts within)

  complete-rule : {f : g.Form} {ts : List g.Token} (r : Rule g.Kind g.Gives f) → g.rule f (front ts) ≡ Some r → (n : ℕ) → Complete g f ts n
      → CompleteRow g r.row ts n ⊎ ((n ≡ 0) × (may f ≡ true))
  complete-rule {f = f} {ts = ts} r e n c =
      ⊎_elim
      (λ same. let found = rule-at r (ap (g.rule f) same ∙ e) c.spells in inl (record { within = c.within; values = found.0; spells = found.1 }))
      (λ none. inr (none-taken ts n c.within none, reads-empty c.spells none))
      (front-take n ts)

  rule-none : {f : g.Form} {ts : List g.Token} {v : g.Gives f} {rest : List g.Token} → g.rule f (front ts) ≡ None → Reads g f ts v rest → ⊥
  rule-none none (by r vs e d p) = none-some none e

  complete-no_rule : {f : g.Form} {ts : List g.Token} → g.rule f (front ts) ≡ None → (n : ℕ) → Complete g f ts n → (n ≡ 0) × (may f ≡ true)
  complete-no_rule {f = f} {ts = ts} none n c =
      ⊎_elim
      (λ same. absurd (rule-none (ap (g.rule f) same ∙ none) c.spells))
      (λ empty. (none-taken ts n c.within empty, reads-empty c.spells empty))
      (front-take n ts)

  -- ---- where the reading stops, and the longest form there

  pub row-at_end : {k : g.Kind} {row : List (Part g.Kind g.Form)} {ts : List g.Token} → ts ≡ [] → StopsRowAt g (mark k ∷ row) ts ts None
  row-at_end none = record { stops = at_end none; last_is = no-mark_end none }

  pub row-at_mark : {k : g.Kind} {row : List (Part g.Kind g.Form)} {ts : List g.Token} (t : g.Token) (tail : List g.Token)
      → ts ≡ t ∷ tail → g.kind t ≢ k → StopsRowAt g (mark k ∷ row) ts ts None
  row-at_mark t tail is wrong = record { stops = at_mark t tail is wrong; last_is = no-mark t tail is wrong }

  pub row-behind_mark : {k : g.Kind} {row : List (Part g.Kind g.Form)} {ts at : List g.Token} {last : Option ℕ} (t : g.Token) (tail : List g.Token)
      → ts ≡ t ∷ tail → g.kind t ≡ k → StopsRowAt g row tail at last → StopsRowAt g (mark k ∷ row) ts at (behind 1 last)
  row-behind_mark {k = k} {row = row} {ts = ts} {last = last} t tail is right s = record {
    stops = behind_mark t tail is right s.stops;
    last_is = greatest-behind (CompleteRow g row tail) (CompleteRow g (mark k ∷ row) ts) 1 (complete-mark t tail is right) (λ n c. inl (mark-complete t tail is n c)) last s.last_is;
  }

  -- parts behind it that can't all be empty are wanted
  pub row-at_form : {f : g.Form} {row : List (Part g.Kind g.Form)} {ts at : List g.Token} → row_may may row ≡ false → Stops g f ts at
      → StopsRowAt g (form f ∷ row) ts at None
  row-at_form full s = record { stops = at_form s; last_is = λ n c. not-both (stopped-complete s n c).0 full }

  pub row-at_form_last : {f : g.Form} {row : List (Part g.Kind g.Form)} {ts at : List g.Token} {last : Option ℕ} → row_may may row ≡ true → StopsAt g f ts at last
      → StopsRowAt g (form f ∷ row) ts at last
  row-at_form_last {f = f} {row = row} {ts = ts} {last = last} empty s = record {
    stops = at_form s.stops;
    last_is = greatest-same (Complete g f ts) (CompleteRow g (form f ∷ row) ts) (complete-stopped empty) (λ n c. (stopped-complete s.stops n c).1) last s.last_is;
  }

  pub row-behind_form : {f : g.Form} {row : List (Part g.Kind g.Form)} {ts at : List g.Token} {last : Option ℕ} (v : g.Gives f) (mid : List g.Token)
      → Reads g f ts v mid → (d : ℕ) → length ts ≡ d + length mid → StopsRowAt g row mid at last → StopsRowAt g (form f ∷ row) ts at (behind d last)
  row-behind_form {f = f} {row = row} {ts = ts} {last = last} v mid a d far s = record {
    stops = behind_form v mid a s.stops;
    last_is = greatest-behind (CompleteRow g row mid) (CompleteRow g (form f ∷ row) ts) d (complete-behind a d far) (behind-complete a d far) last s.last_is;
  }

  pub stops-no_rule : {f : g.Form} {ts : List g.Token} → may f ≡ false → g.rule f (front ts) ≡ None → StopsAt g f ts ts None
  stops-no_rule full none = record { stops = no_rule none; last_is = λ n c. not-both (complete-no_rule none n c).1 full }

  pub stops-no_rule_empty : {f : g.Form} {ts : List g.Token} → may f ≡ true → g.rule f (front ts) ≡ None → StopsAt g f ts ts (Some 0)
  stops-no_rule_empty {f = f} empty none = record {
    stops = no_rule none;
    last_is = (let it = known.empty f empty in record { within = zero-le; value = it.0; spells = it.1 }, λ n c. le_of_eq (complete-no_rule none n c).0);
  }

  pub stops-inside : {f : g.Form} {ts at : List g.Token} {last : Option ℕ} → may f ≡ false → (r : Rule g.Kind g.Gives f) → g.rule f (front ts) ≡ Some r
      → StopsRowAt g r.row ts at last → StopsAt g f ts at last
  stops-inside {f = f} {ts = ts} {last = last} full r e s = record {
    stops = inside r e s.stops;
    last_is = greatest-same (CompleteRow g r.row ts) (Complete g f ts) (rule-complete r e)
        (λ n c. ⊎_elim (λ it. it) (λ empty. absurd (not-both empty.1 full)) (complete-rule r e n c)) last s.last_is;
  }

  pub stops-inside_empty : {f : g.Form} {ts at : List g.Token} {last : Option ℕ} → may f ≡ true → (r : Rule g.Kind g.Gives f) → g.rule f (front ts) ≡ Some r
      → StopsRowAt g r.row ts at last → StopsAt g f ts at (or_zero last)
  stops-inside_empty {f = f} {ts = ts} {last = last} empty r e s = record {
    stops = inside r e s.stops;
    last_is = greatest-or_zero (CompleteRow g r.row ts) (Complete g f ts)
        (let it = known.empty f empty in record { within = zero-le; value = it.0; spells = it.1 }) (rule-complete r e)
        (λ n c. ⊎_elim (λ it. inl it) (λ empty. inr empty.0) (complete-rule r e n c)) last s.last_is;
  }

  -- a form that was read is the longest there
  pub reads-spells : {f : g.Form} {ts rest : List g.Token} {v : g.Gives f} → Reads g f ts v rest → (d : ℕ) → length ts ≡ d + length rest → Reads g f (take d ts) v []
  reads-spells {ts = ts} {rest = rest} a d far =
      let first = ended-by a in
      let same : take d ts ≡ first.taken ++ [] = ap (λ n. take n ts) (sym (add-zero d)) ∙ cut ts first.taken rest first.is d far 0 in
      rw same (first.before [] (inr refl))

  last-reads : {f : g.Form} {ts rest : List g.Token} {v : g.Gives f} → Reads g f ts v rest → (d : ℕ) → length ts ≡ d + length rest → Complete g f ts d
  last-reads {v = v} a d far = record { within = omega (arith, far); value = v; spells = reads-spells a d far }

  nothing-more : {mid : List g.Token} {n : ℕ} → CompleteRow g [] mid n → n ≡ 0
  nothing-more {mid = mid} {n = n} c = none-taken mid n c.within (done-read c.spells)
    where
      done-read : {us : List g.Token} {vs : Unit {0}} → ReadsRow g [] us vs [] → us ≡ []
      done-read done = refl

  pub reads-last : {f : g.Form} {ts rest : List g.Token} {v : g.Gives f} → Reads g f ts v rest → (d : ℕ) → length ts ≡ d + length rest → IsLast g f ts (Some d)
  reads-last {f = f} {ts = ts} a d far = (
    last-reads a d far,
    λ n c. ⊎_elim
        (λ found. let none = nothing-more found.2 in omega (arith, found.1, none))
        (λ found. found.0)
        (behind-complete {row = []} a d far n (record { within = c.within; values = (c.value, tt); spells = part [] c.spells done })),
  )
