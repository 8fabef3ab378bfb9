-- Reading with a bound on the depth, for any grammar: what it answers is proved, so that rows of tokens are checked by
-- computing.
use Rattle.std.proofs.Common.{◌≡◌, ◌≢◌, ℕ, zero, suc, ◌⊎◌, inl, inr, Bool, true, false, List, [], ◌∷◌, Option, Some, None, refl}
use Rattle.hc_grammar.specs.Table.{Part, mark, form, Values, Rule, Grammar, front, Reads, by, ReadsRow, done, token, part, Stops, no_rule, inside, StopsRow, at_end, at_mark, behind_mark, at_form, behind_form}

pub not-whole : false ≡ true → ⊥
not-whole is = absurd cc

module _ (g : Grammar) (decide : (a b : g.Kind) → (a ≡ b) ⊎ (a ≢ b)) where
  -- what is known of a form, or of a row, at the front of tokens
  pub data Found (f : g.Form) (ts : List g.Token) : Type 0 where
    read : (v : g.Gives f) (rest : List g.Token) → Reads g f ts v rest → Found f ts
    stop : (at : List g.Token) → Stops g f ts at → Found f ts
    unknown : Found f ts

  pub data FoundRow (row : List (Part g.Kind g.Form)) (ts : List g.Token) : Type 0 where
    read_row : (vs : Values g.Gives row) (rest : List g.Token) → ReadsRow g row ts vs rest → FoundRow row ts
    stop_row : (at : List g.Token) → StopsRow g row ts at → FoundRow row ts
    unknown_row : FoundRow row ts

  abbrev in_row : {f : g.Form} {ts : List g.Token} (r : Rule g.Kind g.Gives f) → g.rule f (front ts) ≡ Some r → FoundRow r.row ts → Found f ts
  in_row r e (read_row vs rest d) = read (r.gives vs) rest (by r vs e d refl)
  in_row r e (stop_row at s) = stop at (inside r e s)
  in_row r e unknown_row = unknown

  abbrev with_rule : {f : g.Form} {ts : List g.Token} (o : Option (Rule g.Kind g.Gives f)) → g.rule f (front ts) ≡ o
      → ((r : Rule g.Kind g.Gives f) → FoundRow r.row ts) → Found f ts
  with_rule None e rows = stop _ (no_rule e)
  with_rule (Some r) e rows = in_row r e (rows r)

  abbrev with_mark : {k : g.Kind} {row : List (Part g.Kind g.Form)} (t : g.Token) (ts : List g.Token) → g.kind t ≡ k → FoundRow row ts → FoundRow (mark k ∷ row) (t ∷ ts)
  with_mark t ts e (read_row vs rest d) = read_row vs rest (token t ts refl e d)
  with_mark t ts e (stop_row at s) = stop_row at (behind_mark t ts refl e s)
  with_mark t ts e unknown_row = unknown_row

  abbrev at_kind : {k : g.Kind} {row : List (Part g.Kind g.Form)} (t : g.Token) (ts : List g.Token) → (g.kind t ≡ k) ⊎ (g.kind t ≢ k)
      → (Unit {0} → FoundRow row ts) → FoundRow (mark k ∷ row) (t ∷ ts)
  at_kind t ts (inl e) more = with_mark t ts e (more tt)
  at_kind t ts (inr wrong) more = stop_row _ (at_mark t ts refl wrong)

  abbrev behind_part : {f : g.Form} {row : List (Part g.Kind g.Form)} {ts : List g.Token} (v : g.Gives f) (mid : List g.Token) → Reads g f ts v mid
      → FoundRow row mid → FoundRow (form f ∷ row) ts
  behind_part v mid a (read_row vs rest d) = read_row (v, vs) rest (part mid a d)
  behind_part v mid a (stop_row at s) = stop_row at (behind_form v mid a s)
  behind_part v mid a unknown_row = unknown_row

  abbrev with_part : {f : g.Form} {row : List (Part g.Kind g.Form)} {ts : List g.Token} → Found f ts → ((mid : List g.Token) → FoundRow row mid) → FoundRow (form f ∷ row) ts
  with_part (read v mid a) more = behind_part v mid a (more mid)
  with_part (stop at s) more = stop_row at (at_form s)
  with_part unknown more = unknown_row

  abbrev mutual
    pub try : ℕ → (f : g.Form) (ts : List g.Token) → Found f ts
    try zero f ts = unknown
    try (suc n) f ts = with_rule (g.rule f (front ts)) refl (λ r. try_row n r.row ts)

    pub try_row : ℕ → (row : List (Part g.Kind g.Form)) (ts : List g.Token) → FoundRow row ts
    try_row zero row ts = unknown_row
    try_row (suc n) [] ts = read_row tt ts done
    try_row (suc n) (mark k ∷ row) [] = stop_row [] (at_end refl)
    try_row (suc n) (mark k ∷ row) (t ∷ ts) = at_kind t ts (decide (g.kind t) k) (λ u. try_row n row ts)
    try_row (suc n) (form f ∷ row) ts = with_part (try n f ts) (λ mid. try_row n row mid)

  -- the tokens are the form
  abbrev pub is_whole : {f : g.Form} {ts : List g.Token} → Found f ts → Bool
  is_whole (read v [] d) = true
  is_whole (read v (t ∷ rest) d) = false
  is_whole (stop at s) = false
  is_whole unknown = false

  abbrev pub whole : {f : g.Form} {ts : List g.Token} (o : Found f ts) → is_whole o ≡ true → (v : g.Gives f) × Reads g f ts v []
  whole (read v [] d) is = (v, d)
  whole (read v (t ∷ rest) d) is = absurd (not-whole is)
  whole (stop at s) is = absurd (not-whole is)
  whole unknown is = absurd (not-whole is)

  -- the form can't be read
  abbrev pub is_stopped : {f : g.Form} {ts : List g.Token} → Found f ts → Bool
  is_stopped (read v rest d) = false
  is_stopped (stop at s) = true
  is_stopped unknown = false

  abbrev pub stopped : {f : g.Form} {ts : List g.Token} (o : Found f ts) → is_stopped o ≡ true → (at : List g.Token) × Stops g f ts at
  stopped (read v rest d) is = absurd (not-whole is)
  stopped (stop at s) is = (at, s)
  stopped unknown is = absurd (not-whole is)
