-- Where the reading of a form of the language stops and how many of the first tokens are the longest one, from the same of
-- its parts: one lemma for each way to stop.
use Rattle.std.proofs.Common.{◌≡◌, ◌≢◌, ◌+◌, ℕ, Bool, true, false, List, ◌∷◌, [], length, take, Option, Some, None, refl, ap, zero-le, arith}
use Rattle.hc_lex.specs.declared.token.Placed.{Placed}
use Rattle.hc_grammar.specs.declared.kind.Kind.{Kind}
use Rattle.hc_grammar.specs.Kind.{kind}
use Rattle.hc_grammar.specs.Table.{Part, mark, form, Rule, front, Reads, Spells, IsLongest}
use Rattle.hc_grammar.specs.Form.{Form, Gives}
use Rattle.hc_grammar.specs.Grammar.{grammar, rule}
use Rattle.hc_grammar.specs.Last.{behind, or_zero, IsLast, StopsAt, StopsRowAt}
use Rattle.hc_grammar.specs.LastTable as any
use Rattle.hc_grammar.specs.LastTable.{row_may}
use Rattle.hc_grammar.specs.LastEmpty.{may_be_empty, knows_empty}

abbrev pub Row : Type 0
Row = List (Part Kind Form)

-- whether all parts of a row may be empty
abbrev pub row_may_be_empty : Row → Bool
row_may_be_empty row = row_may may_be_empty row

-- ---- rows

-- the end stands in place of a mark
pub stops_at_end : {k : Kind} {row : Row} {ts : List Placed} → ts ≡ [] → StopsRowAt grammar (mark k ∷ row) ts ts None
stops_at_end = any.row-at_end grammar may_be_empty knows_empty

-- another token stands in place of a mark
pub stops_at_mark : {k : Kind} {row : Row} {ts : List Placed} (t : Placed) (tail : List Placed) → ts ≡ t ∷ tail → kind t ≢ k → StopsRowAt grammar (mark k ∷ row) ts ts None
stops_at_mark = any.row-at_mark grammar may_be_empty knows_empty

-- behind a mark that is there
pub stops_behind_mark : {k : Kind} {row : Row} {ts at : List Placed} {last : Option ℕ} (t : Placed) (tail : List Placed) → ts ≡ t ∷ tail → kind t ≡ k
    → StopsRowAt grammar row tail at last → StopsRowAt grammar (mark k ∷ row) ts at (behind 1 last)
stops_behind_mark = any.row-behind_mark grammar may_be_empty knows_empty

-- in a form, where parts are wanted behind it
pub stops_at_form : {f : Form} {row : Row} {ts at : List Placed} {last : Option ℕ} → row_may_be_empty row ≡ false → StopsAt grammar f ts at last
    → StopsRowAt grammar (form f ∷ row) ts at None
stops_at_form full s = any.row-at_form grammar may_be_empty knows_empty full s.stops

-- in a form, where nothing is wanted behind it
pub stops_at_last_form : {f : Form} {row : Row} {ts at : List Placed} {last : Option ℕ} → row_may_be_empty row ≡ true → StopsAt grammar f ts at last
    → StopsRowAt grammar (form f ∷ row) ts at last
stops_at_last_form = any.row-at_form_last grammar may_be_empty knows_empty

-- behind a form of d tokens
pub stops_behind_form : {f : Form} {row : Row} {ts at : List Placed} {last : Option ℕ} (v : Gives f) (mid : List Placed) → Reads grammar f ts v mid
    → (d : ℕ) → length ts ≡ d + length mid → StopsRowAt grammar row mid at last → StopsRowAt grammar (form f ∷ row) ts at (behind d last)
stops_behind_form = any.row-behind_form grammar may_be_empty knows_empty

-- ---- forms

-- no rule of the form begins with the token, or with the end
pub stops_without_rule : {f : Form} {ts : List Placed} → may_be_empty f ≡ false → rule f (front ts) ≡ None → StopsAt grammar f ts ts None
stops_without_rule = any.stops-no_rule grammar may_be_empty knows_empty

-- in the row of its rule, where the form is never empty
pub stops_inside : {f : Form} {ts at : List Placed} {last : Option ℕ} → may_be_empty f ≡ false → (r : Rule Kind Gives f) → rule f (front ts) ≡ Some r
    → StopsRowAt grammar r.row ts at last → StopsAt grammar f ts at last
stops_inside = any.stops-inside grammar may_be_empty knows_empty

-- in the row of its rule, where the form may be empty: it is the empty one if no tokens are a whole row
pub stops_inside_or_empty : {f : Form} {ts at : List Placed} {last : Option ℕ} → may_be_empty f ≡ true → (r : Rule Kind Gives f) → rule f (front ts) ≡ Some r
    → StopsRowAt grammar r.row ts at last → StopsAt grammar f ts at (or_zero last)
stops_inside_or_empty = any.stops-inside_empty grammar may_be_empty knows_empty

-- ---- numbers

pub behind_behind : (d n : ℕ) (last : Option ℕ) → behind d (behind n last) ≡ behind (d + n) last
behind_behind d n None = refl
behind_behind d n (Some k) = ap Some (omega arith)

pub behind_or_zero : (d : ℕ) (last : Option ℕ) → or_zero (behind d (or_zero last)) ≡ behind d (or_zero last)
behind_or_zero d None = refl
behind_or_zero d (Some k) = refl

-- ---- what is the longest

-- a form that was read with d tokens is the longest there
pub last_of_read : {f : Form} {ts rest : List Placed} {v : Gives f} → Reads grammar f ts v rest → (d : ℕ) → length ts ≡ d + length rest → IsLast grammar f ts (Some d)
last_of_read = any.reads-last grammar may_be_empty knows_empty

-- what was read with d tokens is spelled by them
pub spells_of_read : {f : Form} {ts rest : List Placed} {v : Gives f} → Reads grammar f ts v rest → (d : ℕ) → length ts ≡ d + length rest → Spells grammar f v (take d ts)
spells_of_read = any.reads-spells grammar may_be_empty knows_empty

-- the longest, with the value that is read from it
pub longest_of_last : {f : Form} {ts : List Placed} {k : ℕ} {v : Gives f} → IsLast grammar f ts (Some k) → Spells grammar f v (take k ts) → IsLongest grammar f ts v k
longest_of_last last spells = record {
  within = last.0.within;
  spells = spells;
  longest = λ n w more within whole. let most = last.1 n (record { within = within; value = w; spells = whole }) in absurd (omega arith);
}

-- where a form may be empty, there is always a longest
pub last_of_empty : {f : Form} {ts at : List Placed} (last : Option ℕ) → may_be_empty f ≡ true → StopsAt grammar f ts at last → (k : ℕ) × (last ≡ Some k)
last_of_empty {f = f} {ts = ts} None empty s =
    let it = knows_empty.empty f empty in
    absurd (s.last_is 0 (record { within = zero-le; value = it.0; spells = it.1 }))
last_of_empty (Some k) empty s = (k, refl)

-- there is one longest
pub last_same : (f : Form) (ts : List Placed) (last other : Option ℕ) → IsLast grammar f ts last → IsLast grammar f ts other → last ≡ other
last_same f ts None None a b = refl
last_same f ts None (Some n) a b = absurd (a n b.0)
last_same f ts (Some k) None a b = absurd (b k a.0)
last_same f ts (Some k) (Some n) a b = let up = a.1 n b.0 in let down = b.1 k a.0 in ap Some (omega arith)
