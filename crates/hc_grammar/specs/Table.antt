-- Grammars as tables, and what a table says of tokens: what they are read as, and where they are refused. Nothing here is
-- of one language.
use Rattle.std.specs.Prelude.{◌≡◌, ◌≢◌, ◌≤◌, ◌<◌, ℕ, suc, List, [], ◌∷◌, ◌++◌, length, take, Option, Some, None}

-- a part of a row: a token of a kind, or a form
pub data Part (K F : Type 0) : Type 0 where
  mark : K → Part K F
  form : F → Part K F

-- the values of the forms of a row, in order
abbrev pub Values : {K F : Type 0} → (F → Type 0) → List (Part K F) → Type 0
Values Gives [] = Unit {0}
Values Gives (mark k ∷ row) = Values Gives row
Values Gives (form f ∷ row) = Gives f × Values Gives row

-- a rule of a form: its parts, and the value that their values give
pub record Rule (K : Type 0) {F : Type 0} (Gives : F → Type 0) (f : F) : Type 0 where
  pub row : List (Part K F)
  pub gives : Values Gives row → Gives f

-- A grammar: the rule of a form is chosen by the token at its front, or by the end.
pub record Grammar : Type 1 where
  pub Token : Type 0
  pub Kind : Type 0
  pub kind : Token → Kind
  pub Form : Type 0
  pub Gives : Form → Type 0
  pub rule : (f : Form) → Option Token → Option (Rule Kind Gives f)

-- the token at the front
abbrev pub front : {A : Type 0} → List A → Option A
front [] = None
front (a ∷ list) = Some a

module _ (g : Grammar) where
  mutual
    -- From the front of tokens a form is read with a value, up to the rest.
    pub data Reads : (f : g.Form) → List g.Token → g.Gives f → List g.Token → Type 0 where
      by : {f : g.Form} {ts rest : List g.Token} {v : g.Gives f} (r : Rule g.Kind g.Gives f) (vs : Values g.Gives r.row)
          → g.rule f (front ts) ≡ Some r → ReadsRow r.row ts vs rest → v ≡ r.gives vs → Reads f ts v rest

    -- the parts of a row are read one after another
    pub data ReadsRow : (row : List (Part g.Kind g.Form)) → List g.Token → Values g.Gives row → List g.Token → Type 0 where
      done : {ts : List g.Token} {vs : Unit {0}} → ReadsRow [] ts vs ts
      token : {k : g.Kind} {row : List (Part g.Kind g.Form)} {vs : Values g.Gives row} {ts rest : List g.Token} (t : g.Token) (tail : List g.Token)
          → ts ≡ t ∷ tail → g.kind t ≡ k → ReadsRow row tail vs rest → ReadsRow (mark k ∷ row) ts vs rest
      part : {f : g.Form} {row : List (Part g.Kind g.Form)} {v : g.Gives f} {vs : Values g.Gives row} {ts rest : List g.Token} (mid : List g.Token)
          → Reads f ts v mid → ReadsRow row mid vs rest → ReadsRow (form f ∷ row) ts (v, vs) rest

  mutual
    -- From the front of tokens a form can't be read: it stops at the token at the front of the rest, or at the end.
    pub data Stops : g.Form → List g.Token → List g.Token → Type 0 where
      no_rule : {f : g.Form} {ts : List g.Token} → g.rule f (front ts) ≡ None → Stops f ts ts
      inside : {f : g.Form} {ts rest : List g.Token} (r : Rule g.Kind g.Gives f) → g.rule f (front ts) ≡ Some r → StopsRow r.row ts rest → Stops f ts rest

    pub data StopsRow : List (Part g.Kind g.Form) → List g.Token → List g.Token → Type 0 where
      at_end : {k : g.Kind} {row : List (Part g.Kind g.Form)} {ts : List g.Token} → ts ≡ [] → StopsRow (mark k ∷ row) ts ts
      at_mark : {k : g.Kind} {row : List (Part g.Kind g.Form)} {ts : List g.Token} (t : g.Token) (tail : List g.Token)
          → ts ≡ t ∷ tail → g.kind t ≢ k → StopsRow (mark k ∷ row) ts ts
      behind_mark : {k : g.Kind} {row : List (Part g.Kind g.Form)} {ts rest : List g.Token} (t : g.Token) (tail : List g.Token)
          → ts ≡ t ∷ tail → g.kind t ≡ k → StopsRow row tail rest → StopsRow (mark k ∷ row) ts rest
      at_form : {f : g.Form} {row : List (Part g.Kind g.Form)} {ts rest : List g.Token} → Stops f ts rest → StopsRow (form f ∷ row) ts rest
      behind_form : {f : g.Form} {row : List (Part g.Kind g.Form)} {ts rest : List g.Token} (v : g.Gives f) (mid : List g.Token)
          → Reads f ts v mid → StopsRow row mid rest → StopsRow (form f ∷ row) ts rest

  -- tokens, all of them, are a form with a value
  abbrev pub Spells : (f : g.Form) → g.Gives f → List g.Token → Type 0
  Spells f v ts = Reads f ts v []

  -- tokens begin a form: some tokens behind them make them one
  abbrev pub Begins : g.Form → List g.Token → Type 0
  Begins f ts = (more : List g.Token) × (v : g.Gives f) × Spells f v (ts ++ more)

  -- The first k tokens begin a form, and with the token behind them they don't; or they are all of the tokens.
  pub record IsStop (f : g.Form) (ts : List g.Token) (k : ℕ) : Type 0 where
    pub within : k ≤ length ts
    pub begins : Begins f (take k ts)
    pub refused : k < length ts → ¬ Begins f (take (suc k) ts)

  -- the first k tokens are a form with this value, and no longer part is one
  pub record IsLongest (f : g.Form) (ts : List g.Token) (v : g.Gives f) (k : ℕ) : Type 0 where
    pub within : k ≤ length ts
    pub spells : Spells f v (take k ts)
    pub longest : (n : ℕ) (w : g.Gives f) → k < n → n ≤ length ts → ¬ Spells f w (take n ts)
