-- A walk over the row of a rule that also keeps how many of the tokens are the longest form.
use Rattle.std.proofs.Common.{◌≡◌, ◌≢◌, inl, inr, ◌≤◌, ◌+◌, ◌-◌, ℕ, Bool, true, false, List, [], ◌∷◌, length, Option, Some, None, Result, Ok, Err, refl, sym, ap, subst, ◌∙◌, arith}
use Rattle.std.specs.Prelude.{option_map}
use denote.Bor.{Bor}
use Rattle.hc_lex.specs.declared.token.Placed.{Placed}
use Rattle.hc_grammar.specs.declared.kind.Kind.{Kind}
use Rattle.hc_grammar.specs.declared.halt.Halt.{Halt}
use Rattle.hc_grammar.specs.declared.halt.Halt.TheVariants.{Refused, NoMemory}
use Rattle.hc_grammar.specs.Kind.{kind}
use Rattle.hc_grammar.specs.Table.{mark, form, Values, Rule, Reads, ReadsRow, by, done, token, part, front}
use Rattle.hc_tree.specs.declared.expr.ExprTree.{ExprTree}
use Rattle.hc_grammar.specs.Form as f
use Rattle.hc_grammar.specs.Form.{Form, Gives}
use Rattle.hc_grammar.specs.Grammar.{grammar, rule}
use Rattle.hc_grammar.specs.Cursor.{Ahead, MarkRead}
use Rattle.hc_grammar.specs.Answers.{Halts, Answers}
use Rattle.hc_grammar.specs.Last.{behind, or_zero, StopsAt, StopsRowAt}
use Rattle.hc_grammar.specs.LastEmpty.{may_be_empty, knows_empty}
use Rattle.hc_grammar.specs.LastTable as any
use Rattle.hc_grammar.specs.LastLemmas.{row_may_be_empty, stops_at_end, stops_at_mark, stops_behind_mark, stops_at_last_form, stops_behind_form, stops_without_rule, stops_inside, stops_inside_or_empty}
use Rattle.hc_grammar.specs.Walk.{Row, taken_token, Reads-shorter}
use Rattle.hc_exparse.specs.Last.{HaltsLast, AnswersLast, AnswersLastTo, AnswersLastAs, HaltsBefore, AnswersBefore, Makes, with_last, halt_or_zero, halt_later, IsWithin}

-- the number of a form, from that of its row
abbrev pub kept : Bool → Option ℕ → Option ℕ
kept true last = or_zero last
kept false last = last

behind_none : (n : ℕ) (last : Option ℕ) → behind (n - n) last ≡ last
behind_none n None = refl
behind_none n (Some k) = ap Some (omega arith)

behind_more : (a b k : ℕ) (last : Option ℕ) → k + b ≤ a → behind (a - (k + b)) (behind k last) ≡ behind (a - b) last
behind_more a b k None le = refl
behind_more a b k (Some n) le = ap Some (omega arith)

-- The parts of a form's rule before the cursor are read, as in the grammar's `Walked`.
pub record Walked (x : Form) (old : Ahead) (row : Row) (gives : Values Gives row → Gives x) (now : Ahead) : Type 0 where
  pub reads : (vs : Values Gives row) (rest : List Placed) → ReadsRow grammar row now.rest vs rest → Reads grammar x old.rest (gives vs) rest
  pub stops : (rest : List Placed) (last : Option ℕ) → StopsRowAt grammar row now.rest rest last
      → StopsAt grammar x old.rest rest (kept (may_be_empty x) (behind (length old.rest - length now.rest) last))
  pub end : now.end ≡ old.end
  pub shorter : length now.rest ≤ length old.rest

-- ---- the steps of a walk

from_row : (b : Bool) {x : Form} {r : Rule Kind Gives x} {ts rest : List Placed} {last : Option ℕ} → may_be_empty x ≡ b → rule x (front ts) ≡ Some r
    → StopsRowAt grammar r.row ts rest last → StopsAt grammar x ts rest (kept b last)
from_row true {r} may is row = stops_inside_or_empty may r is row
from_row false {r} may is row = stops_inside may r is row

-- the rule of the token at the front
pub start : {x : Form} {r : Rule Kind Gives x} (c : Ahead) → rule x (front c.rest) ≡ Some r → Walked x c r.row r.gives c
start {x} {r} c is = record {
  reads = λ vs rest row. by r vs is row refl;
  stops = λ rest last row. subst (λ n. StopsAt grammar x c.rest rest (kept (may_be_empty x) n)) (sym (behind_none (length c.rest) last)) (from_row (may_be_empty x) refl is row);
  end = refl;
  shorter = omega arith;
}

-- a mark is taken
pub mark_read : {x : Form} {old now new : Ahead} {k : Kind} {row : Row} {gives : Values Gives row → Gives x} → Walked x old (mark k ∷ row) gives now
    → (t : Placed) → now.rest ≡ t ∷ new.rest → kind t ≡ k → new.end ≡ now.end → Walked x old row gives new
mark_read {x} {old} {now} {new} w t is of same =
    let one : length now.rest ≡ 1 + length new.rest = ap length is ∙ omega arith in
    let less : 1 + length new.rest ≤ length old.rest = let s = w.shorter in omega arith in
    record {
      reads = λ vs rest row. w.reads vs rest (token t new.rest is of row);
      stops = λ rest last row. subst (λ n. StopsAt grammar x old.rest rest (kept (may_be_empty x) n))
          (ap (λ n. behind (length old.rest - n) (behind 1 last)) one ∙ behind_more (length old.rest) (length new.rest) 1 last less)
          (w.stops rest (behind 1 last) (stops_behind_mark t new.rest is of row));
      end = same ∙ w.end;
      shorter = omega arith;
    }

-- the mark that was expected is taken
pub mark_expected : {x : Form} {old now : Ahead} {k : Kind} {row : Row} {gives : Values Gives row → Gives x} → Walked x old (mark k ∷ row) gives now
    → (new : Ahead) → {u : Unit {0}} → MarkRead k now new (Ok u) → Walked x old row gives new
mark_expected w new (t, is, of, same) = mark_read w t is of same

-- the next token, whose kind is known, is taken
pub mark_passed : {x : Form} {old now : Ahead} {k : Kind} {row : Row} {gives : Values Gives row → Gives x} → Walked x old (mark k ∷ row) gives now
    → (new : Ahead) → option_map kind (front now.rest) ≡ Some k → {result : Option (Bor Placed)}
    → (result ≡ None → (now.rest ≡ []) × (new ≡ now)) → ((t : Bor Placed) → result ≡ Some t → (now.rest ≡ t.now ∷ new.rest) × (new.end ≡ now.end))
    → Walked x old row gives new
mark_passed {now} {k} w new known {result} none some =
    let t = taken_token now new k result known none some in mark_read w t.0 t.1 t.2 t.3

-- a form is read
pub form_read : {x f : Form} {old now : Ahead} {row : Row} {gives : Gives f × Values Gives row → Gives x} → Walked x old (form f ∷ row) gives now
    → (new : Ahead) → {v : Gives f} → Reads grammar f now.rest v new.rest → new.end ≡ now.end → Walked x old row (λ vs. gives (v, vs)) new
form_read {x} {f} {old} {now} w new {v} read same =
    let le : length new.rest ≤ length now.rest = Reads-shorter read in
    let d : ℕ = length now.rest - length new.rest in
    let some : length now.rest ≡ d + length new.rest = omega arith in
    let less : d + length new.rest ≤ length old.rest = let s = w.shorter in omega arith in
    record {
      reads = λ vs rest row. w.reads (v, vs) rest (part new.rest read row);
      stops = λ rest last row. subst (λ n. StopsAt grammar x old.rest rest (kept (may_be_empty x) n))
          (ap (λ n. behind (length old.rest - n) (behind d last)) some ∙ behind_more (length old.rest) (length new.rest) d last less)
          (w.stops rest (behind d last) (stops_behind_form v new.rest read d some row));
      end = same ∙ w.end;
      shorter = omega arith;
    }

-- ---- the ways out

-- all parts are read
pub finished : {x : Form} {old new : Ahead} {gives : Unit {0} → Gives x} → Walked x old [] gives new → {v : Gives x} → v ≡ gives tt → AnswersLast x old (Ok v) new
finished {x} {old} {new} w is = (subst (λ u. Reads grammar x old.rest u new.rest) (sym is) (w.reads tt new.rest done), w.end)

pub finished_to : {x : Form} {B : Type 0} {apply : Gives x → B} {old new : Ahead} {gives : Unit {0} → Gives x} → Walked x old [] gives new
    → {b : B} → b ≡ apply (gives tt) → AnswersLastTo x apply old (Ok b) new
finished_to {new} {gives} w is = (gives tt, w.reads tt new.rest done, is, w.end)

-- no rule begins with the token at the front, or with the end
pub refused_front : {x : Form} {old : Ahead} → may_be_empty x ≡ false → rule x (front old.rest) ≡ None → HaltsLast x old (Refused None) old
refused_front may no_rule = (stops_without_rule may no_rule, refl)

wrong_mark : (k : Kind) (row : Row) (ts : List Placed) → option_map kind (front ts) ≢ Some k → StopsRowAt grammar (mark k ∷ row) ts ts None
wrong_mark k row [] differs = stops_at_end refl
wrong_mark k row (t ∷ tail) differs = stops_at_mark t tail refl (λ is. differs (ap Some is))

-- another token, or the end, stands in place of a mark
pub refused_mark : {x : Form} {old now : Ahead} {k : Kind} {row : Row} {gives : Values Gives row → Gives x} → Walked x old (mark k ∷ row) gives now
    → (new : Ahead) → (halt : Halt) → MarkRead k now new (Err halt) → HaltsLast x old (Refused (kept (may_be_empty x) None)) new
refused_mark {x} {old} {now} {k} {row} w new (Refused last) (same, differs) =
    subst (λ c. StopsAt grammar x old.rest c.rest (kept (may_be_empty x) None) × (c.end ≡ old.end)) (sym same) (w.stops now.rest None (wrong_mark k row now.rest differs), w.end)
refused_mark w new NoMemory none = absurd none

-- what a halt says without the number
pub plain : (x : Form) (old new : Ahead) → (halt : Halt) → HaltsLast x old halt new → Halts x old halt new
plain x old new (Refused last) (s, same) = (s.stops, same)
plain x old new NoMemory h = tt

pub plain_answer : (x : Form) (old new : Ahead) → (result : Result (Gives x) Halt) → AnswersLast x old result new → Answers x old result new
plain_answer x old new (Ok v) a = a
plain_answer x old new (Err halt) h = plain x old new halt h

-- the reading of a part stops, and more is wanted behind it
pub halted_inside : {x f : Form} {old now : Ahead} {row : Row} {gives : Gives f × Values Gives row → Gives x} → Walked x old (form f ∷ row) gives now
    → row_may_be_empty row ≡ false → (new : Ahead) → (halt : Halt) → Halts f now halt new → HaltsLast x old (with_last (kept (may_be_empty x) None) halt) new
halted_inside {x} {old} w full new (Refused last) (s, same) = (w.stops new.rest None (any.row-at_form grammar may_be_empty knows_empty full s), same ∙ w.end)
halted_inside w full new NoMemory h = tt

-- the number of a form, in a halt
abbrev pub halt_kept : Bool → Halt → Halt
halt_kept true halt = halt_or_zero halt
halt_kept false halt = halt

kept_halt : (b : Bool) (last : Option ℕ) → halt_kept b (Refused last) ≡ Refused (kept b last)
kept_halt true last = refl
kept_halt false last = refl

kept_none : (b : Bool) → halt_kept b NoMemory ≡ NoMemory
kept_none true = refl
kept_none false = refl

-- the reading of a part stops, and nothing is wanted behind it
pub halted_later : {x f : Form} {old now : Ahead} {row : Row} {gives : Gives f × Values Gives row → Gives x} → Walked x old (form f ∷ row) gives now
    → row_may_be_empty row ≡ true → (new : Ahead) → (halt : Halt) → HaltsLast f now halt new
    → HaltsLast x old (halt_kept (may_be_empty x) (halt_later (length old.rest) (length now.rest) halt)) new
halted_later {x} {old} {now} w may new (Refused last) (s, same) =
    subst (λ h. HaltsLast x old h new) (sym (kept_halt (may_be_empty x) (behind (length old.rest - length now.rest) last)))
    (w.stops new.rest last (stops_at_last_form may s), same ∙ w.end)
halted_later {x} {old} w may new NoMemory h = subst (λ h. HaltsLast x old h new) (sym (kept_none (may_be_empty x))) tt

same_front : (n : ℕ) (halt : Halt) → halt_later n n halt ≡ halt
same_front n (Refused last) = ap Refused (behind_none n last)
same_front n NoMemory = refl

-- likewise where it is the first part, of a form that is never empty
pub halted_front : {x f : Form} {old : Ahead} {row : Row} {gives : Gives f × Values Gives row → Gives x} → Walked x old (form f ∷ row) gives old
    → row_may_be_empty row ≡ true → may_be_empty x ≡ false → (new : Ahead) → (halt : Halt) → HaltsLast f old halt new → HaltsLast x old halt new
halted_front {x} {old} w may full new halt h =
    subst (λ h. HaltsLast x old h new) (ap (λ b. halt_kept b (halt_later (length old.rest) (length old.rest) halt)) full ∙ same_front (length old.rest) halt)
    (halted_later w may new halt h)

-- the number of a part is of tokens that are left there
pub within : (x : Form) (old new : Ahead) → (halt : Halt) → HaltsLast x old halt new → IsWithin (length old.rest) halt
within x old new (Refused None) h = tt
within x old new (Refused (Some k)) (s, same) = s.last_is.0.within
within x old new NoMemory h = tt

-- ---- as the code has them

-- the number of a form whose part stops, as the code adds it up
pub halted_at : {x f : Form} {old now : Ahead} {row : Row} {gives : Gives f × Values Gives row → Gives x} → Walked x old (form f ∷ row) gives now
    → row_may_be_empty row ≡ true → (new : Ahead) → (halt : Halt) → HaltsLast f now halt new
    → {before at : ℕ} {made : Halt} → before ≡ length old.rest → at ≡ length now.rest → made ≡ halt_kept (may_be_empty x) (halt_later before at halt) → HaltsLast x old made new
halted_at {x} {old} {now} w may new halt h {before} {at} {made} before_is at_is made_is =
    subst (λ m. HaltsLast x old m new)
    (sym (made_is ∙ ap (λ n. halt_kept (may_be_empty x) (halt_later n at halt)) before_is ∙ ap (λ n. halt_kept (may_be_empty x) (halt_later (length old.rest) n halt)) at_is))
    (halted_later w may new halt h)

pub halted_full : {x f : Form} {old now : Ahead} {row : Row} {gives : Gives f × Values Gives row → Gives x} → Walked x old (form f ∷ row) gives now
    → row_may_be_empty row ≡ false → (new : Ahead) → (halt : Halt) → Halts f now halt new
    → {made : Halt} → made ≡ with_last (kept (may_be_empty x) None) halt → HaltsLast x old made new
halted_full {x} {old} w full new halt h made_is = subst (λ m. HaltsLast x old m new) (sym made_is) (halted_inside w full new halt h)

pub order : {x : Form} {old now : Ahead} {row : Row} {gives : Values Gives row → Gives x} → Walked x old row gives now
    → {before at : ℕ} → before ≡ length old.rest → at ≡ length now.rest → at ≤ before
order w before_is at_is = let s = w.shorter in omega arith

pub within_at : (x : Form) (old new : Ahead) (halt : Halt) (at : ℕ) → at ≡ length old.rest → HaltsLast x old halt new → IsWithin at halt
within_at x old new halt at is h = subst (λ n. IsWithin n halt) (sym is) (within x old new halt h)

-- the value of a walked row is made, or memory is short
pub made : {x : Form} {old new : Ahead} {gives : Unit {0} → Gives x} → Walked x old [] gives new → {v : Gives x} → v ≡ gives tt
    → (result : Result (Gives x) Halt) → Makes result v → AnswersLast x old result new
made w is (Ok b) b_is = finished w (b_is ∙ is)
made w is (Err (Refused last)) none = absurd none
made w is (Err NoMemory) none = tt

pub made_to : {x : Form} {B : Type 0} (apply : Gives x → B) {old new : Ahead} {gives : Unit {0} → Gives x} → Walked x old [] gives new → {v : B} → v ≡ apply (gives tt)
    → (result : Result B Halt) → Makes result v → AnswersLastTo x apply old result new
made_to apply w is (Ok b) b_is = finished_to w (b_is ∙ is)
made_to apply w is (Err (Refused last)) none = absurd none
made_to apply w is (Err NoMemory) none = tt

pub finished_as : {x : Form} {B : Type 0} (make : B → Gives x) {old new : Ahead} {gives : Unit {0} → Gives x} → Walked x old [] gives new → (b : B) → make b ≡ gives tt
    → AnswersLastAs x make old (Ok b) new
finished_as {x} make {old} {new} w b is = (subst (λ u. Reads grammar x old.rest u new.rest) (sym is) (w.reads tt new.rest done), w.end)

-- ---- an expression and the mark behind it

pub before_halted : (k : Kind) (old new : Ahead) (halt : Halt) → Halts f.expr old halt new → {made : Halt} → made ≡ with_last None halt → HaltsBefore k old made new
before_halted k old new (Refused last) (s, same) made_is = subst (λ m. HaltsBefore k old m new) (sym made_is) (inl s, refl, same)
before_halted k old new NoMemory h made_is = subst (λ m. HaltsBefore k old m new) (sym made_is) tt

pub before_refused : (k : Kind) (old mid new : Ahead) {v : ExprTree} → Reads grammar f.expr old.rest v mid.rest → mid.end ≡ old.end → (halt : Halt) → MarkRead k mid new (Err halt)
    → HaltsBefore k old (Refused None) new
before_refused k old mid new {v} read same (Refused last) (is, other) =
    subst (λ c. HaltsBefore k old (Refused None) c) (sym is) (inr (v, read, other), refl, same)
before_refused k old mid new read same NoMemory none = absurd none

pub before_read : (k : Kind) (old mid new : Ahead) {v : ExprTree} → Reads grammar f.expr old.rest v mid.rest → mid.end ≡ old.end → {u : Unit {0}} → MarkRead k mid new (Ok u)
    → AnswersBefore k old (Ok v) new
before_read k old mid new {v} read same (t, is, of, end) = (t, subst (λ ts. Reads grammar f.expr old.rest v ts) is read, of, end ∙ same)

pub both_read : {x : Form} {old now : Ahead} {k : Kind} {row : Row} {gives : ExprTree × Values Gives row → Gives x} → Walked x old (form f.expr ∷ mark k ∷ row) gives now
    → (new : Ahead) → {v : ExprTree} → AnswersBefore k now (Ok v) new → Walked x old row (λ vs. gives (v, vs)) new
both_read w new (t, read, of, same) = mark_read (form_read w (record { rest = t ∷ new.rest; end = new.end }) read same) t refl of refl

pub both_halted : {x : Form} {old now : Ahead} {k : Kind} {row : Row} {gives : ExprTree × Values Gives row → Gives x} → Walked x old (form f.expr ∷ mark k ∷ row) gives now
    → (new : Ahead) → (halt : Halt) → HaltsBefore k now halt new → {made : Halt} → made ≡ with_last (kept (may_be_empty x) None) halt → HaltsLast x old made new
both_halted {x} {old} {k = k} {row = row} w new (Refused last) (inl s, none, same) made_is =
    subst (λ m. HaltsLast x old m new) (sym made_is) (w.stops new.rest None (any.row-at_form grammar may_be_empty knows_empty refl s), same ∙ w.end)
both_halted {x} {old} {k = k} {row = row} w new (Refused last) (inr (v, read, other), none, same) made_is =
    let then = form_read w new read same in
    subst (λ m. HaltsLast x old m new) (sym made_is) (then.stops new.rest None (wrong_mark k row new.rest other), then.end)
both_halted {x} {old} w new NoMemory h made_is = subst (λ m. HaltsLast x old m new) (sym made_is) tt

no_number : (k : Kind) (old new : Ahead) (halt : Halt) → HaltsBefore k old halt new → halt ≡ with_last None halt
no_number k old new (Refused last) (s, none, same) = ap Refused none
no_number k old new NoMemory h = refl

-- likewise of a form that is never empty, with the halt as it is
pub both_halted_same : {x : Form} {old now : Ahead} {k : Kind} {row : Row} {gives : ExprTree × Values Gives row → Gives x} → Walked x old (form f.expr ∷ mark k ∷ row) gives now
    → may_be_empty x ≡ false → (new : Ahead) → (halt : Halt) → HaltsBefore k now halt new → HaltsLast x old halt new
both_halted_same {now} {k} w full new halt h =
    both_halted w new halt h (no_number k now new halt h ∙ ap (λ b. with_last (kept b None) halt) (sym full))

-- an expected mark isn't there
pub mark_missing : (k : Kind) (now new : Ahead) (halt : Halt) → MarkRead k now new (Err halt) → (new ≡ now) × (option_map kind (front now.rest) ≢ Some k)
mark_missing k now new (Refused last) h = h
mark_missing k now new NoMemory none = absurd none

-- no rule begins where the mark that was expected isn't
pub refused_here : {x : Form} {old : Ahead} → may_be_empty x ≡ false → rule x (front old.rest) ≡ None → (new : Ahead) → new ≡ old → HaltsLast x old (Refused None) new
refused_here {x} {old} may no_rule new same = subst (λ c. HaltsLast x old (Refused None) c) (sym same) (refused_front may no_rule)

-- an expected mark is there
pub mark_there : (k : Kind) (now new : Ahead) → {u : Unit {0}} → MarkRead k now new (Ok u) → option_map kind (front now.rest) ≡ Some k
mark_there k now new (t, is, of, same) = ap (λ ts. option_map kind (front ts)) is ∙ ap Some of
