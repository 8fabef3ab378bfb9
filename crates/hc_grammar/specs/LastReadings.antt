-- What the readings of any grammar have in common: there is one, it looks at no token behind the next, and tokens that are
-- read as a form are not refused as one.
use Rattle.std.proofs.Common.{◌≡◌, List, [], ◌∷◌, ◌++◌, Option, Some, None, refl, sym, ap, ◌∙◌, subst, append_assoc}
use Rattle.hc_grammar.specs.Table.{Part, Values, Rule, Grammar, front, Reads, by, ReadsRow, done, token, part, Stops, no_rule, inside, StopsRow, at_end, at_mark, behind_mark, at_form, behind_form}

pub some-same : {A : Type 0} {o : Option A} {x y : A} → o ≡ Some x → o ≡ Some y → x ≡ y
some-same p q = cc

pub none-some : {A : Type 0} {o : Option A} {x : A} → o ≡ None → o ≡ Some x → ⊥
none-some p q = absurd cc

pub head-same : {A : Type 0} {ts : List A} {t u : A} {a b : List A} → ts ≡ t ∷ a → ts ≡ u ∷ b → t ≡ u
head-same p q = cc

pub tail-same : {A : Type 0} {ts : List A} {t u : A} {a b : List A} → ts ≡ t ∷ a → ts ≡ u ∷ b → a ≡ b
tail-same p q = cc

pub empty-full : {A : Type 0} {ts : List A} {t : A} {a : List A} → ts ≡ [] → ts ≡ t ∷ a → ⊥
empty-full p q = absurd cc

pair-same : {A B : Type 0} {a c : A} {b d : B} → a ≡ c → b ≡ d → ◌≡◌ {A = A × B} (a, b) (c, d)
pair-same p q = rw (p, q) refl

-- what stands in front of a front counts for the front alone
pub front-behind : {A : Type 0} (pre rest other : List A) → front other ≡ front rest → front (pre ++ other) ≡ front (pre ++ rest)
front-behind [] rest other same = same
front-behind (a ∷ pre) rest other same = refl

pub front-none : {A : Type 0} (ts : List A) → front ts ≡ None → ts ≡ []
front-none [] none = refl
front-none (t ∷ ts) none = absurd cc

pub front-some : {A : Type 0} (ts : List A) {t : A} → front ts ≡ Some t → (tail : List A) × (ts ≡ t ∷ tail)
front-some [] some = absurd cc
front-some (u ∷ ts) {t = t} some = (ts, ap (λ x. x ∷ ts) (some-same refl some))

module _ (g : Grammar) where
  -- ---- one reading

  abbrev SameBy : (f : g.Form) (ts : List g.Token) (v : g.Gives f) (rest rest' : List g.Token) → Rule g.Kind g.Gives f → Type 0
  SameBy f ts v rest rest' r = (ws : Values g.Gives r.row) → ReadsRow g r.row ts ws rest' → (v ≡ r.gives ws) × (rest ≡ rest')

  mutual
    -- a form is read from tokens in one way
    pub reads-same : {f : g.Form} {ts : List g.Token} {v : g.Gives f} {rest : List g.Token} → Reads g f ts v rest
        → {w : g.Gives f} {rest' : List g.Token} → Reads g f ts w rest' → (v ≡ w) × (rest ≡ rest')
    reads-same {f = f} {ts = ts} {v = v} {rest = rest} (by r vs e d p) {rest' = rest'} (by r' ws e' d' p') =
        let here : SameBy f ts v rest rest' r = λ us u. let same = row-same d u in (rw (← same.0) p, same.1) in
        let same = subst (SameBy f ts v rest rest') (some-same e e') here ws d' in
        (rw p' same.0, same.1)

    pub row-same : {row : List (Part g.Kind g.Form)} {ts : List g.Token} {vs : Values g.Gives row} {rest : List g.Token} → ReadsRow g row ts vs rest
        → {ws : Values g.Gives row} {rest' : List g.Token} → ReadsRow g row ts ws rest' → (vs ≡ ws) × (rest ≡ rest')
    row-same done done = (refl, refl)
    row-same (token {row = row} t tail is k p) (token {vs = ws} {rest = rest'} t' tail' is' k' p') =
        row-same p (subst (λ tail. ReadsRow g row tail ws rest') (tail-same is' is) p')
    row-same (part {row = row} mid a p) (part {vs = ws} {rest = rest'} mid' a' p') =
        let same = reads-same a a' in
        let more = row-same p (subst (λ mid. ReadsRow g row mid ws rest') (sym same.1) p') in
        (pair-same same.0 more.0, more.1)

  -- ---- never both read and stopped, and one stop

  mutual
    -- tokens that are read as a form are not refused as one
    pub never-both : {f : g.Form} {ts : List g.Token} {v : g.Gives f} {rest : List g.Token} → Reads g f ts v rest
        → {at : List g.Token} → Stops g f ts at → ⊥
    never-both (by r vs e d p) (no_rule none) = none-some none e
    never-both {ts = ts} (by r vs e d p) {at = at} (inside r' e' s) =
        row-never-both d (subst (λ (r : Rule g.Kind g.Gives _). StopsRow g r.row ts at) (some-same e' e) s)

    pub row-never-both : {row : List (Part g.Kind g.Form)} {ts : List g.Token} {vs : Values g.Gives row} {rest : List g.Token} → ReadsRow g row ts vs rest
        → {at : List g.Token} → StopsRow g row ts at → ⊥
    row-never-both done s = elim s [ ]
    row-never-both (token t tail is k p) (at_end none) = empty-full none is
    row-never-both (token t tail is k p) (at_mark t' tail' is' other) = other (ap g.kind (head-same is' is) ∙ k)
    row-never-both (token {row = row} t tail is k p) {at = at} (behind_mark t' tail' is' k' s) =
        row-never-both p (subst (λ tail. StopsRow g row tail at) (tail-same is' is) s)
    row-never-both (part mid a p) (at_form s) = never-both a s
    row-never-both (part {row = row} mid a p) {at = at} (behind_form v' mid' a' s) =
        row-never-both p (subst (λ mid. StopsRow g row mid at) (reads-same a' a).1 s)

  mutual
    -- a form that can't be read stops at one place
    pub stops-same : {f : g.Form} {ts at : List g.Token} → Stops g f ts at → {at' : List g.Token} → Stops g f ts at' → at ≡ at'
    stops-same (no_rule none) (no_rule none') = refl
    stops-same (no_rule none) (inside r' e' s) = absurd (none-some none e')
    stops-same (inside r e s) (no_rule none) = absurd (none-some none e)
    stops-same {ts = ts} (inside r e s) {at' = at'} (inside r' e' s') =
        row-stops-same s (subst (λ (r : Rule g.Kind g.Gives _). StopsRow g r.row ts at') (some-same e' e) s')

    pub row-stops-same : {row : List (Part g.Kind g.Form)} {ts at : List g.Token} → StopsRow g row ts at → {at' : List g.Token} → StopsRow g row ts at' → at ≡ at'
    row-stops-same (at_end none) (at_end none') = refl
    row-stops-same (at_end none) (at_mark t tail is other) = refl
    row-stops-same (at_end none) (behind_mark t tail is k s) = absurd (empty-full none is)
    row-stops-same (at_mark t tail is other) (at_end none) = refl
    row-stops-same (at_mark t tail is other) (at_mark t' tail' is' other') = refl
    row-stops-same (at_mark t tail is other) (behind_mark t' tail' is' k s) = absurd (other (ap g.kind (head-same is is') ∙ k))
    row-stops-same (behind_mark t tail is k s) (at_end none) = absurd (empty-full none is)
    row-stops-same (behind_mark t tail is k s) (at_mark t' tail' is' other) = absurd (other (ap g.kind (head-same is' is) ∙ k))
    row-stops-same (behind_mark {row = row} t tail is k s) {at' = at'} (behind_mark t' tail' is' k' s') =
        row-stops-same s (subst (λ tail. StopsRow g row tail at') (tail-same is' is) s')
    row-stops-same (at_form s) (at_form s') = stops-same s s'
    row-stops-same (at_form s) (behind_form v' mid' a' s') = absurd (never-both a' s)
    row-stops-same (behind_form v mid a s) (at_form s') = absurd (never-both a s')
    row-stops-same (behind_form {row = row} v mid a s) {at' = at'} (behind_form v' mid' a' s') =
        row-stops-same s (subst (λ mid. StopsRow g row mid at') (reads-same a' a).1 s')

  -- ---- what is read or refused looks at no token behind the next

  -- what was read, and that it is read before every rest with the same front
  pub record Taken (f : g.Form) (ts : List g.Token) (v : g.Gives f) (rest : List g.Token) : Type 0 where
    pub taken : List g.Token
    pub is : ts ≡ taken ++ rest
    pub before : (other : List g.Token) → front other ≡ front rest → Reads g f (taken ++ other) v other

  pub record TakenRow (row : List (Part g.Kind g.Form)) (ts : List g.Token) (vs : Values g.Gives row) (rest : List g.Token) : Type 0 where
    pub taken : List g.Token
    pub is : ts ≡ taken ++ rest
    pub before : (other : List g.Token) → front other ≡ front rest → ReadsRow g row (taken ++ other) vs other

  mutual
    pub taken-by : {f : g.Form} {ts : List g.Token} {v : g.Gives f} {rest : List g.Token} → Reads g f ts v rest → Taken f ts v rest
    taken-by {f = f} {ts = ts} {v = v} {rest = rest} (by r vs e d p) =
        let row = row-taken-by d in
        record {
          taken = row.taken;
          is = row.is;
          before = λ other same. by r vs (ap (g.rule f) (front-behind row.taken rest other same ∙ ap front (sym row.is)) ∙ e) (row.before other same) p;
        }

    pub row-taken-by : {row : List (Part g.Kind g.Form)} {ts : List g.Token} {vs : Values g.Gives row} {rest : List g.Token} → ReadsRow g row ts vs rest
        → TakenRow row ts vs rest
    row-taken-by done = record { taken = []; is = refl; before = λ other same. done }
    row-taken-by (token t tail is k p) =
        let row = row-taken-by p in
        record { taken = t ∷ row.taken; is = is ∙ ap (◌∷◌ t) row.is; before = λ other same. token t (row.taken ++ other) refl k (row.before other same) }
    row-taken-by (part {rest = rest} mid a p) =
        let first = taken-by a in
        let row = row-taken-by p in
        record {
          taken = first.taken ++ row.taken;
          is = first.is ∙ ap (λ mid. first.taken ++ mid) row.is ∙ sym (append_assoc first.taken row.taken rest);
          before = λ other same. rw (append_assoc first.taken row.taken other) (part (row.taken ++ other)
              (first.before (row.taken ++ other) (front-behind row.taken rest other same ∙ ap front (sym row.is))) (row.before other same));
        }

  -- what stands before a stop, and that what has the same front behind it stops there too
  pub record Stopped (f : g.Form) (ts at : List g.Token) : Type 0 where
    pub taken : List g.Token
    pub is : ts ≡ taken ++ at
    pub before : (other : List g.Token) → front other ≡ front at → Stops g f (taken ++ other) other

  pub record StoppedRow (row : List (Part g.Kind g.Form)) (ts at : List g.Token) : Type 0 where
    pub taken : List g.Token
    pub is : ts ≡ taken ++ at
    pub before : (other : List g.Token) → front other ≡ front at → StopsRow g row (taken ++ other) other

  mutual
    pub stopped-by : {f : g.Form} {ts at : List g.Token} → Stops g f ts at → Stopped f ts at
    stopped-by {f = f} {ts = ts} (no_rule none) = record { taken = []; is = refl; before = λ other same. no_rule (ap (g.rule f) same ∙ none) }
    stopped-by {f = f} {at = at} (inside r e s) =
        let row = row-stopped-by s in
        record {
          taken = row.taken;
          is = row.is;
          before = λ other same. inside r (ap (g.rule f) (front-behind row.taken at other same ∙ ap front (sym row.is)) ∙ e) (row.before other same);
        }

    pub row-stopped-by : {row : List (Part g.Kind g.Form)} {ts at : List g.Token} → StopsRow g row ts at → StoppedRow row ts at
    row-stopped-by (at_end none) = record { taken = []; is = refl; before = λ other same. at_end (front-none other (same ∙ ap front none)) }
    row-stopped-by (at_mark t tail is wrong) =
        record {
          taken = [];
          is = refl;
          before = λ other same. let found = front-some other (same ∙ ap front is) in at_mark t found.0 found.1 wrong;
        }
    row-stopped-by (behind_mark t tail is k s) =
        let row = row-stopped-by s in
        record { taken = t ∷ row.taken; is = is ∙ ap (◌∷◌ t) row.is; before = λ other same. behind_mark t (row.taken ++ other) refl k (row.before other same) }
    row-stopped-by (at_form s) =
        let first = stopped-by s in
        record { taken = first.taken; is = first.is; before = λ other same. at_form (first.before other same) }
    row-stopped-by (behind_form {row = part_row} {rest = at} v mid a s) =
        let first = taken-by a in
        let row = row-stopped-by s in
        record {
          taken = first.taken ++ row.taken;
          is = first.is ∙ ap (λ mid. first.taken ++ mid) row.is ∙ sym (append_assoc first.taken row.taken at);
          before = λ other same. rw (append_assoc first.taken row.taken other) (behind_form v (row.taken ++ other)
              (first.before (row.taken ++ other) (front-behind row.taken at other same ∙ ap front (sym row.is))) (row.before other same));
        }
