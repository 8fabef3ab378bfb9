-- What was read before a stop can be completed, in any grammar of which it is known what completes a form and what may stand
-- directly behind it.
use Rattle.std.proofs.Common.{◌≡◌, ◌⊎◌, inl, inr, ⊎_elim, Bool, true, List, [], ◌∷◌, ◌++◌, length, Option, Some, None, refl, sym, ap, ◌∙◌, subst, append_assoc, append-nil, length-append, arith}
use Rattle.hc_grammar.specs.Table.{Part, mark, form, Values, Rule, Grammar, front, Reads, by, ReadsRow, done, token, part, Stops, no_rule, inside, StopsRow, at_end, at_mark, behind_mark, at_form, behind_form}
use Rattle.hc_grammar.specs.LastTable.{row_may, MayBeEmpty, and-left, and-right, reads-empty, row-reads-empty, ended-by, row-ended-by}

module _ (g : Grammar) (may : g.Form → Bool) (known : MayBeEmpty g may) where
  abbrev pub kind_front : List g.Token → Option g.Kind
  kind_front [] = None
  kind_front (t ∷ ts) = Some (g.kind t)

  -- the kind at the front of a list, or the one behind it
  abbrev pub next_or : List g.Token → Option g.Kind → Option g.Kind
  next_or [] next = next
  next_or (t ∷ ts) next = Some (g.kind t)

  -- what stands at the front of a row of shortest forms, before `next`
  abbrev pub row_next : (g.Form → List g.Token) → List (Part g.Kind g.Form) → Option g.Kind → Option g.Kind
  row_next ending [] next = next
  row_next ending (mark k ∷ row) next = Some k
  row_next ending (form f ∷ row) next = next_or (ending f) (row_next ending row next)

  -- each form of a row may be followed by what stands behind it, where `next` stands behind the row
  abbrev pub RowFollows : (g.Form → List g.Token) → (g.Form → Option g.Kind → Bool) → List (Part g.Kind g.Form) → Option g.Kind → Type 0
  RowFollows ending follows [] next = Unit {0}
  RowFollows ending follows (mark k ∷ row) next = RowFollows ending follows row next
  RowFollows ending follows (form f ∷ row) next = (follows f (row_next ending row next) ≡ true) × RowFollows ending follows row next

  -- A shortest list of each form, and what may stand directly behind the form: nothing that a part at its end would take.
  pub record Endings : Type 0 where
    pub token_of : g.Kind → g.Token
    pub kind_of_token : (k : g.Kind) → g.kind (token_of k) ≡ k
    pub ending : g.Form → List g.Token
    pub follows : g.Form → Option g.Kind → Bool
    pub spelled : (f : g.Form) → (v : g.Gives f) × Reads g f (ending f) v []
    pub nothing : (f : g.Form) → may f ≡ true → ending f ≡ []
    pub at_end : (f : g.Form) → follows f None ≡ true
    pub rows : (f : g.Form) (o : Option g.Token) (r : Rule g.Kind g.Gives f) → g.rule f o ≡ Some r → (next : Option g.Kind) → follows f next ≡ true
        → RowFollows ending follows r.row next
    pub clear : (f : g.Form) (t : g.Token) → may f ≡ true → follows f (Some (g.kind t)) ≡ true → g.rule f (Some t) ≡ g.rule f None

  nothing-before : (a b c : List g.Token) → a ≡ b ++ c → a ≡ c → b ≡ []
  nothing-before a [] c is same = refl
  nothing-before a (t ∷ b) c is same = absurd (omega (arith, ap length is, ap length same, length-append (t ∷ b) c))

  -- what takes no token may be empty
  pub nothing-read : {f : g.Form} {ts : List g.Token} {v : g.Gives f} {rest : List g.Token} → Reads g f ts v rest → ts ≡ rest → may f ≡ true
  nothing-read {ts = ts} {rest = rest} a same =
      let e = ended-by g may known a in
      reads-empty g may known (e.before [] (inr refl)) (append-nil e.taken ∙ nothing-before ts e.taken rest e.is same)

  row-nothing-read : {row : List (Part g.Kind g.Form)} {ts : List g.Token} {vs : Values g.Gives row} {rest : List g.Token} → ReadsRow g row ts vs rest
      → ts ≡ rest → row_may may row ≡ true
  row-nothing-read {ts = ts} {rest = rest} a same =
      let e = row-ended-by g may known a in
      row-reads-empty g may known (e.before [] (inr refl)) (append-nil e.taken ∙ nothing-before ts e.taken rest e.is same)

  module _ (k : Endings) where
    abbrev pub Next : List (Part g.Kind g.Form) → Option g.Kind → Type 0
    Next row next = RowFollows k.ending k.follows row next

    row_end : List (Part g.Kind g.Form) → List g.Token
    row_end [] = []
    row_end (mark x ∷ row) = k.token_of x ∷ row_end row
    row_end (form f ∷ row) = k.ending f ++ row_end row

    front-ending : (ending w : List g.Token) → kind_front (ending ++ w) ≡ next_or ending (kind_front w)
    front-ending [] w = refl
    front-ending (t ∷ ending) w = refl

    front-row_end : (row : List (Part g.Kind g.Form)) (w : List g.Token) → kind_front (row_end row ++ w) ≡ row_next k.ending row (kind_front w)
    unfolding row_end
    front-row_end [] w = refl
    front-row_end (mark x ∷ row) w = ap Some (k.kind_of_token x)
    front-row_end (form f ∷ row) w =
        ap kind_front (append_assoc (k.ending f) (row_end row) w) ∙ front-ending (k.ending f) (row_end row ++ w) ∙ ap (next_or (k.ending f)) (front-row_end row w)

    -- ---- what was read is read before everything that may follow

    abbrev Behind : g.Form → List g.Token → List g.Token → Type 0
    Behind f rest other = (front other ≡ front rest) ⊎ (k.follows f (kind_front other) ≡ true)

    abbrev BehindRow : List (Part g.Kind g.Form) → List g.Token → List g.Token → Type 0
    BehindRow row rest other = (front other ≡ front rest) ⊎ Next row (kind_front other)

    pub record Swapped (f : g.Form) (ts : List g.Token) (v : g.Gives f) (rest : List g.Token) : Type 0 where
      pub taken : List g.Token
      pub is : ts ≡ taken ++ rest
      pub before : (other : List g.Token) → Behind f rest other → Reads g f (taken ++ other) v other

    pub record SwappedRow (row : List (Part g.Kind g.Form)) (ts : List g.Token) (vs : Values g.Gives row) (rest : List g.Token) : Type 0 where
      pub taken : List g.Token
      pub is : ts ≡ taken ++ rest
      pub before : (other : List g.Token) → BehindRow row rest other → ReadsRow g row (taken ++ other) vs other

    row-next-empty : (row : List (Part g.Kind g.Form)) (next : Option g.Kind) → row_may may row ≡ true → row_next k.ending row next ≡ next
    row-next-empty [] next is = refl
    row-next-empty (mark x ∷ row) next is = absurd cc
    row-next-empty (form f ∷ row) next is =
        let more = row-next-empty row next (and-right (may f) (row_may may row) is) in
        rw (k.nothing f (and-left (may f) (row_may may row) is)) more

    at-end-too : (f : g.Form) (r : Rule g.Kind g.Gives f) (ts : List g.Token) → g.rule f (front ts) ≡ Some r → row_may may r.row ≡ true → g.rule f None ≡ Some r
    at-end-too f r [] e empty = e
    at-end-too f r (t ∷ ts) e empty = known.kept f t r e empty

    before-too : (f : g.Form) (r : Rule g.Kind g.Gives f) (ts other : List g.Token) → g.rule f (front ts) ≡ Some r → row_may may r.row ≡ true → may f ≡ true
        → Behind f ts other → g.rule f (front other) ≡ Some r
    before-too f r ts other e empty is (inl same) = ap (g.rule f) same ∙ e
    before-too f r ts [] e empty is (inr next) = at-end-too f r ts e empty
    before-too f r ts (u ∷ other) e empty is (inr next) = k.clear f u is next ∙ at-end-too f r ts e empty

    rule-swapped : {f : g.Form} {ts rest : List g.Token} {v : g.Gives f} (r : Rule g.Kind g.Gives f) {vs : Values g.Gives r.row} → g.rule f (front ts) ≡ Some r
        → Reads g f ts v rest → ReadsRow g r.row ts vs rest → (taken : List g.Token) → ts ≡ taken ++ rest → (other : List g.Token) → Behind f rest other
        → g.rule f (front (taken ++ other)) ≡ Some r
    rule-swapped {f = f} {ts = ts} r e a d [] is other next =
        before-too f r ts other e (row-nothing-read d is) (nothing-read a is) (subst (λ ts. Behind f ts other) (sym is) next)
    rule-swapped {f = f} r e a d (t ∷ taken) is other next = ap (λ ts. g.rule f (front ts)) (sym is) ∙ e

    -- behind the first part of a row
    behind-part : {f : g.Form} {row : List (Part g.Kind g.Form)} {mid rest : List g.Token} {vs : Values g.Gives row} → ReadsRow g row mid vs rest
        → (taken : List g.Token) → mid ≡ taken ++ rest → (other : List g.Token) → BehindRow (form f ∷ row) rest other → Behind f mid (taken ++ other)
    behind-part d [] is other (inl same) = inl (same ∙ ap front (sym is))
    behind-part {f = f} {row = row} d [] is other (inr next) =
        inr (subst (λ o. k.follows f o ≡ true) (row-next-empty row (kind_front other) (row-nothing-read d is)) next.0)
    behind-part d (t ∷ taken) is other next = inl (ap front (sym is))

    mutual
      pub swapped : {f : g.Form} {ts : List g.Token} {v : g.Gives f} {rest : List g.Token} → Reads g f ts v rest → Swapped f ts v rest
      swapped {f = f} {ts = ts} {rest = rest} (by r vs e d p) =
          let row = row-swapped d in
          record {
            taken = row.taken;
            is = row.is;
            before = λ other next.
                by r vs (rule-swapped r e (by r vs e d p) d row.taken row.is other next)
                (row.before other (⊎_elim (λ same. inl same) (λ may_follow. inr (k.rows f (front ts) r e (kind_front other) may_follow)) next)) p;
          }

      pub row-swapped : {row : List (Part g.Kind g.Form)} {ts : List g.Token} {vs : Values g.Gives row} {rest : List g.Token} → ReadsRow g row ts vs rest
          → SwappedRow row ts vs rest
      row-swapped done = record { taken = []; is = refl; before = λ other next. done }
      row-swapped (token t tail is kind_is p) =
          let row = row-swapped p in
          record { taken = t ∷ row.taken; is = is ∙ ap (◌∷◌ t) row.is; before = λ other next. token t (row.taken ++ other) refl kind_is (row.before other next) }
      row-swapped (part {rest = rest} mid a p) =
          let first = swapped a in
          let row = row-swapped p in
          record {
            taken = first.taken ++ row.taken;
            is = first.is ∙ ap (λ mid. first.taken ++ mid) row.is ∙ sym (append_assoc first.taken row.taken rest);
            before = λ other next.
                rw (append_assoc first.taken row.taken other) (part (row.taken ++ other) (first.before (row.taken ++ other) (behind-part p row.taken row.is other next))
                (row.before other (⊎_elim (λ same. inl same) (λ both. inr both.1) next)));
          }

    -- ---- shortest lists before everything that may follow

    pub ending-read : (f : g.Form) (w : List g.Token) → k.follows f (kind_front w) ≡ true → (v : g.Gives f) × Reads g f (k.ending f ++ w) v w
    ending-read f w next =
        let it = k.spelled f in
        let s = swapped it.1 in
        (it.0, rw (s.is ∙ append-nil s.taken) (s.before w (inr next)))

    row-ending-read : (row : List (Part g.Kind g.Form)) (w : List g.Token) → Next row (kind_front w) → (vs : Values g.Gives row) × ReadsRow g row (row_end row ++ w) vs w
    unfolding row_end
    row-ending-read [] w next = (tt, done)
    row-ending-read (mark x ∷ row) w next =
        let more = row-ending-read row w next in
        (more.0, token (k.token_of x) (row_end row ++ w) refl (k.kind_of_token x) more.1)
    row-ending-read (form f ∷ row) w next =
        let more = row-ending-read row w next.1 in
        let first = ending-read f (row_end row ++ w) (rw (front-row_end row w) next.0) in
        ((first.0, more.0), rw (append_assoc (k.ending f) (row_end row) w) (part (row_end row ++ w) first.1 more.1))

    -- ---- what stands before a stop can be completed

    pub record Completed (f : g.Form) (ts at : List g.Token) : Type 0 where
      pub taken : List g.Token
      pub is : ts ≡ taken ++ at
      pub completed : (w : List g.Token) → k.follows f (kind_front w) ≡ true → (more : List g.Token) × (v : g.Gives f) × Reads g f (taken ++ (more ++ w)) v w

    pub record CompletedRow (row : List (Part g.Kind g.Form)) (ts at : List g.Token) : Type 0 where
      pub taken : List g.Token
      pub is : ts ≡ taken ++ at
      pub completed : (w : List g.Token) → Next row (kind_front w) → (more : List g.Token) × (vs : Values g.Gives row) × ReadsRow g row (taken ++ (more ++ w)) vs w

    by-rule : {f : g.Form} {ts : List g.Token} (at : List g.Token) (r : Rule g.Kind g.Gives f) → g.rule f (front ts) ≡ Some r
        → (taken : List g.Token) → ts ≡ taken ++ at → (w : List g.Token) → k.follows f (kind_front w) ≡ true
        → ((more : List g.Token) × (vs : Values g.Gives r.row) × ReadsRow g r.row (taken ++ (more ++ w)) vs w)
        → (more : List g.Token) × (v : g.Gives f) × Reads g f (taken ++ (more ++ w)) v w
    by-rule {f = f} at r e [] is w next row = let it = ending-read f w next in (k.ending f, it.0, it.1)
    by-rule {f = f} at r e (t ∷ taken) is w next row =
        (row.0, r.gives row.1, by r row.1 (ap (λ ts. g.rule f (front ts)) (sym is) ∙ e) row.2 refl)

    behind-read : {f : g.Form} {row : List (Part g.Kind g.Form)} {ts mid : List g.Token} {v : g.Gives f} (at : List g.Token) → (first : Swapped f ts v mid)
        → (taken : List g.Token) → mid ≡ taken ++ at → (w : List g.Token) → Next (form f ∷ row) (kind_front w)
        → ((more : List g.Token) × (vs : Values g.Gives row) × ReadsRow g row (taken ++ (more ++ w)) vs w)
        → (more : List g.Token) × (vs : Values g.Gives (form f ∷ row)) × ReadsRow g (form f ∷ row) ((first.taken ++ taken) ++ (more ++ w)) vs w
    behind-read {f = f} {row = row} {v = v} at first [] is w next more =
        let ending = row-ending-read row w next.1 in (
          row_end row,
          (v, ending.0),
          rw (append-nil first.taken) (part (row_end row ++ w) (first.before (row_end row ++ w) (inr (rw (front-row_end row w) next.0))) ending.1),
        )
    behind-read {v = v} at first (t ∷ taken) is w next more = (
      more.0,
      (v, more.1),
      rw (append_assoc first.taken (t ∷ taken) (more.0 ++ w)) (part (t ∷ taken ++ (more.0 ++ w)) (first.before (t ∷ taken ++ (more.0 ++ w)) (inl (ap front (sym is)))) more.2),
    )

    mutual
      pub completed-by : {f : g.Form} {ts at : List g.Token} → Stops g f ts at → Completed f ts at
      completed-by {f = f} (no_rule none) = record { taken = []; is = refl; completed = λ w next. let it = ending-read f w next in (k.ending f, it.0, it.1) }
      completed-by {f = f} {ts = ts} {at = at} (inside r e s) =
          let row = row-completed-by s in
          record {
            taken = row.taken;
            is = row.is;
            completed = λ w next. by-rule at r e row.taken row.is w next (row.completed w (k.rows f (front ts) r e (kind_front w) next));
          }

      pub row-completed-by : {row : List (Part g.Kind g.Form)} {ts at : List g.Token} → StopsRow g row ts at → CompletedRow row ts at
      row-completed-by (at_end {k = x} {row = row} none) = record { taken = []; is = refl; completed = λ w next. let it = row-ending-read (mark x ∷ row) w next in (row_end (mark x ∷ row), it.0, it.1) }
      row-completed-by (at_mark {k = x} {row = row} t tail is wrong) =
          record { taken = []; is = refl; completed = λ w next. let it = row-ending-read (mark x ∷ row) w next in (row_end (mark x ∷ row), it.0, it.1) }
      row-completed-by (behind_mark t tail is kind_is s) =
          let row = row-completed-by s in
          record {
            taken = t ∷ row.taken;
            is = is ∙ ap (◌∷◌ t) row.is;
            completed = λ w next. let it = row.completed w next in (it.0, it.1, token t (row.taken ++ (it.0 ++ w)) refl kind_is it.2);
          }
      row-completed-by (at_form {f = f} {row = row} s) =
          let first = completed-by s in
          record {
            taken = first.taken;
            is = first.is;
            completed = λ w next.
                let ending = row-ending-read row w next.1 in
                let it = first.completed (row_end row ++ w) (rw (front-row_end row w) next.0) in (
                  it.0 ++ row_end row,
                  (it.1, ending.0),
                  rw (append_assoc it.0 (row_end row) w) (part (row_end row ++ w) it.2 ending.1),
                );
          }
      row-completed-by (behind_form {f = f} {row = row_behind} {rest = at} v mid a s) =
          let first = swapped a in
          let row = row-completed-by s in
          record {
            taken = first.taken ++ row.taken;
            is = first.is ∙ ap (λ mid. first.taken ++ mid) row.is ∙ sym (append_assoc first.taken row.taken at);
            completed = λ w next. behind-read at first row.taken row.is w next (row.completed w next.1);
          }
