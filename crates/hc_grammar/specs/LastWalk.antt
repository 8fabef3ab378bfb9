-- How a function that reads a form keeps the longest one while it walks the row of its rule.
use Rattle.std.proofs.Common.{◌≡◌, ◌≢◌, ◌+◌, ◌-◌, ◌≤◌, ℕ, Bool, true, false, if◌then◌else◌, List, ◌∷◌, [], length, Option, Some, None, refl, ap, sym, subst, ◌∙◌, length-append, zero-le, arith}
use Rattle.hc_lex.specs.declared.token.Placed.{Placed}
use Rattle.hc_grammar.specs.declared.kind.Kind.{Kind}
use Rattle.hc_grammar.specs.Kind.{kind}
use Rattle.hc_grammar.specs.Table.{mark, form, Rule, front, Reads}
use Rattle.hc_grammar.specs.Form.{Form, Gives}
use Rattle.hc_grammar.specs.Grammar.{grammar, rule}
use Rattle.hc_grammar.specs.Last.{behind, or_zero, StopsAt, StopsRowAt}
use Rattle.hc_grammar.specs.LastReadings.{taken-by}
use Rattle.hc_grammar.specs.LastTable as any
use Rattle.hc_grammar.specs.LastTable.{empty-row}
use Rattle.hc_grammar.specs.LastEmpty.{may_be_empty, knows_empty}
use Rattle.hc_grammar.specs.LastLemmas.{Row, row_may_be_empty, stops_at_end, stops_at_mark, stops_behind_mark, stops_at_form, stops_at_last_form, stops_behind_form, stops_without_rule, stops_inside, stops_inside_or_empty, behind_behind}

-- the longest form by the longest row of its rule: a form that may be empty is there at least as the empty one
abbrev pub closed : Form → Option ℕ → Option ℕ
closed x last = if may_be_empty x then or_zero last else last

-- The parts of a form's rule before `now` are read, and the row is what is left: where it stops, the form does.
pub record WalkedLast (x : Form) (ts : List Placed) (row : Row) (now : List Placed) : Type 0 where
  pub within : length now ≤ length ts
  pub stops : (at : List Placed) (last : Option ℕ) → StopsRowAt grammar row now at last → StopsAt grammar x ts at (closed x (behind (length ts - length now) last))

-- ---- the steps of a walk

behind-none : (n : ℕ) (last : Option ℕ) → n ≡ 0 → behind n last ≡ last
behind-none n None e = refl
behind-none n (Some k) e = ap Some (omega (arith, e))

closed-by : (x : Form) {r : Rule Kind Gives x} {ts at : List Placed} {last : Option ℕ} → rule x (front ts) ≡ Some r → StopsRowAt grammar r.row ts at last
    → (t : Bool) → may_be_empty x ≡ t → StopsAt grammar x ts at (if t then or_zero last else last)
closed-by x {r = r} e s true is = stops_inside_or_empty is r e s
closed-by x {r = r} e s false is = stops_inside is r e s

-- the rule of the token at the front
pub start_last : {x : Form} {ts : List Placed} (r : Rule Kind Gives x) → rule x (front ts) ≡ Some r → WalkedLast x ts r.row ts
start_last {x = x} {ts = ts} r e = record {
  within = omega arith;
  stops = λ at last s. subst (λ last. StopsAt grammar x ts at (closed x last)) (sym (behind-none (length ts - length ts) last (omega arith))) (closed-by x e s (may_be_empty x) refl);
}

-- the number of tokens behind two steps
two-steps : (x : Form) (ts at : List Placed) (a b c d : ℕ) (last : Option ℕ) → b ≤ a → c ≤ b → d ≡ b - c → StopsAt grammar x ts at (closed x (behind (a - b) (behind d last)))
    → StopsAt grammar x ts at (closed x (behind (a - c) last))
two-steps x ts at a b c d last within more e s =
    let count : (a - b) + d ≡ a - c = omega (arith, e) in
    subst (λ last. StopsAt grammar x ts at (closed x last)) (behind_behind (a - b) d last ∙ ap (λ n. behind n last) count) s

-- a mark is taken
pub mark_last : {x : Form} {ts now : List Placed} {k : Kind} {row : Row} → WalkedLast x ts (mark k ∷ row) now
    → (t : Placed) (tail : List Placed) → now ≡ t ∷ tail → kind t ≡ k → WalkedLast x ts row tail
mark_last {x = x} {ts = ts} {now = now} w t tail is right = record {
  within = omega (arith, w.within, ap length is);
  stops = λ at last s.
      two-steps x ts at (length ts) (length now) (length tail) 1 last w.within (omega (arith, ap length is)) (omega (arith, ap length is))
      (w.stops at (behind 1 last) (stops_behind_mark t tail is right s));
}

fewer : {f : Form} {now mid : List Placed} {v : Gives f} → Reads grammar f now v mid → length mid ≤ length now
fewer {mid = mid} a = let it = taken-by grammar a in omega (arith, ap length it.is, length-append it.taken mid)

-- a form is read
pub form_last : {x f : Form} {ts now mid : List Placed} {row : Row} {v : Gives f} → WalkedLast x ts (form f ∷ row) now → Reads grammar f now v mid → WalkedLast x ts row mid
form_last {x = x} {ts = ts} {now = now} {mid = mid} {v = v} w a =
    let less = fewer a in
    record {
      within = omega (arith, w.within, less);
      stops = λ at last s.
          two-steps x ts at (length ts) (length now) (length mid) (length now - length mid) last w.within less refl
          (w.stops at (behind (length now - length mid) last) (stops_behind_form v mid a (length now - length mid) (omega (arith, less)) s));
    }

-- ---- the ways out

without-rule : (x : Form) {ts : List Placed} → rule x (front ts) ≡ None → (t : Bool) → may_be_empty x ≡ t → StopsAt grammar x ts ts (if t then or_zero None else None)
without-rule x none true is = any.stops-no_rule_empty grammar may_be_empty knows_empty is none
without-rule x none false is = stops_without_rule is none

-- no rule begins with the token, or with the end
pub out_without_rule : {x : Form} {ts : List Placed} → rule x (front ts) ≡ None → StopsAt grammar x ts ts (closed x None)
out_without_rule {x = x} none = without-rule x none (may_be_empty x) refl

-- another token, or the end, stands in place of a mark
pub out_at_mark : {x : Form} {ts now : List Placed} {k : Kind} {row : Row} → WalkedLast x ts (mark k ∷ row) now → (t : Placed) (tail : List Placed)
    → now ≡ t ∷ tail → kind t ≢ k → StopsAt grammar x ts now (closed x None)
out_at_mark {now = now} w t tail is wrong = w.stops now None (stops_at_mark t tail is wrong)

pub out_at_end : {x : Form} {ts now : List Placed} {k : Kind} {row : Row} → WalkedLast x ts (mark k ∷ row) now → now ≡ [] → StopsAt grammar x ts now (closed x None)
out_at_end {now = now} w none = w.stops now None (stops_at_end none)

-- a form stops, and parts are wanted behind it
pub out_at_form : {x f : Form} {ts now at : List Placed} {row : Row} {last : Option ℕ} → row_may_be_empty row ≡ false → WalkedLast x ts (form f ∷ row) now
    → StopsAt grammar f now at last → StopsAt grammar x ts at (closed x None)
out_at_form {at = at} full w s = w.stops at None (stops_at_form full s)

-- a form stops, and nothing is wanted behind it
pub out_at_last_form : {x f : Form} {ts now at : List Placed} {row : Row} {last : Option ℕ} → row_may_be_empty row ≡ true → WalkedLast x ts (form f ∷ row) now
    → StopsAt grammar f now at last → StopsAt grammar x ts at (closed x (behind (length ts - length now) last))
out_at_last_form {at = at} {last = last} empty w s = w.stops at last (stops_at_last_form empty s)

-- ---- a turn of a loop

-- A row that may be empty has a longest front.
some-row : {row : Row} {ts at : List Placed} (last : Option ℕ) → row_may_be_empty row ≡ true → StopsRowAt grammar row ts at last → (k : ℕ) × (last ≡ Some k)
some-row {row = row} None empty s =
    let it = empty-row grammar may_be_empty knows_empty row empty in
    absurd (s.last_is 0 (record { within = zero-le; values = it.0; spells = it.1 }))
some-row (Some k) empty s = (k, refl)

closed-some : (f : Form) (n : ℕ) (last : Option ℕ) → (may_be_empty f ≡ true → (k : ℕ) × (last ≡ Some k)) → (t : Bool) → may_be_empty f ≡ t
    → (if t then or_zero (behind n last) else behind n last) ≡ behind n last
closed-some f n last some true is = rw (some is).1 refl
closed-some f n last some false is = refl

-- A form that is the last part of a row is walked: what is left of its row is what is left of the whole. So a loop that reads
-- a form which ends in itself begins a turn where the one before it has ended.
pub into_last_form : {x f : Form} {ts now new : List Placed} {row : Row} → (may_be_empty f ≡ true → row_may_be_empty row ≡ true)
    → WalkedLast x ts (form f ∷ []) now → WalkedLast f now row new → WalkedLast x ts row new
into_last_form {x = x} {f = f} {ts = ts} {now = now} {new = new} {row = row} empty w inner = record {
  within = omega (arith, w.within, inner.within);
  stops = λ at last s.
      let here = inner.stops at last s in
      let same = closed-some f (length now - length new) last (λ is. some-row last (empty is) s) (may_be_empty f) refl in
      let kept = subst (λ last. StopsAt grammar f now at last) same here in
      two-steps x ts at (length ts) (length now) (length new) (length now - length new) last w.within inner.within refl
      (w.stops at (behind (length now - length new) last) (stops_at_last_form refl kept));
}
