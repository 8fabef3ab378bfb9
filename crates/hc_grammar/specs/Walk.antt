-- How a function that reads a form walks the row of its rule: what is read so far, and what each way out answers.
use Rattle.std.specs.Prelude.{◌≡◌, ◌≢◌, ◌≤◌, ℕ, List, [], ◌∷◌, length, Option, Some, None, Ok, Err, option_map, refl}
use Rattle.std.proofs.Common.{sym, ap, subst, ◌∙◌, arith}
use denote.Bor.{Bor}
use Rattle.hc_tree.specs.declared.place.Place.{Place}
use Rattle.hc_lex.specs.declared.token.Placed.{Placed}
use Rattle.hc_grammar.specs.declared.kind.Kind.{Kind}
use Rattle.hc_grammar.specs.declared.halt.Halt.{Halt}
use Rattle.hc_grammar.specs.declared.halt.Halt.TheVariants.{Refused, NoMemory}
use Rattle.hc_grammar.specs.Kind.{kind}
use Rattle.hc_grammar.specs.Table.{Part, mark, form, Values, Rule, Reads, ReadsRow, Stops, StopsRow, by, done, token, part, no_rule, inside, at_end, at_mark, behind_mark, at_form, behind_form, front}
use Rattle.hc_grammar.specs.Form.{Form, Gives}
use Rattle.hc_grammar.specs.Grammar.{grammar, rule}
use Rattle.hc_grammar.specs.Expression.{Rules, by_front}
use Rattle.hc_grammar.specs.Cursor.{Ahead, MarkRead, place_before, place_at}
use Rattle.hc_grammar.specs.Answers.{Halts, AnswersTo, Answers, AnswersIn}

abbrev pub Row : Type 0
Row = List (Part Kind Form)

-- The parts of a form's rule before the cursor are read. The row is what is left, and what its values give is the form's.
pub record Walked (x : Form) (old : Ahead) (row : Row) (gives : Values Gives row → Gives x) (now : Ahead) : Type 0 where
  pub reads : (vs : Values Gives row) (rest : List Placed) → ReadsRow grammar row now.rest vs rest → Reads grammar x old.rest (gives vs) rest
  pub stops : (rest : List Placed) → StopsRow grammar row now.rest rest → Stops grammar x old.rest rest
  pub end : now.end ≡ old.end

-- ---- the steps of a walk

-- the rule of the token at the front
pub start : {x : Form} {r : Rule Kind Gives x} (c : Ahead) → rule x (front c.rest) ≡ Some r → Walked x c r.row r.gives c
start {x} {r} c is = record {
  reads = λ vs rest row. by r vs is row refl;
  stops = λ rest row. inside r is row;
  end = refl;
}

-- a mark is taken
pub mark_read : {x : Form} {old now new : Ahead} {k : Kind} {row : Row} {gives : Values Gives row → Gives x} → Walked x old (mark k ∷ row) gives now
    → (t : Placed) → now.rest ≡ t ∷ new.rest → kind t ≡ k → new.end ≡ now.end → Walked x old row gives new
mark_read {new} w t is of same = record {
  reads = λ vs rest row. w.reads vs rest (token t new.rest is of row);
  stops = λ rest row. w.stops rest (behind_mark t new.rest is of row);
  end = same ∙ w.end;
}

-- a form is read
pub form_read : {x f : Form} {old now new : Ahead} {row : Row} {gives : Gives f × Values Gives row → Gives x} → Walked x old (form f ∷ row) gives now
    → {v : Gives f} → Reads grammar f now.rest v new.rest → new.end ≡ now.end → Walked x old row (λ vs. gives (v, vs)) new
form_read {new} w {v} read same = record {
  reads = λ vs rest row. w.reads (v, vs) rest (part new.rest read row);
  stops = λ rest row. w.stops rest (behind_form v new.rest read row);
  end = same ∙ w.end;
}

-- the mark that was expected is taken
pub mark_expected : {x : Form} {old now : Ahead} {k : Kind} {row : Row} {gives : Values Gives row → Gives x} → Walked x old (mark k ∷ row) gives now
    → (new : Ahead) → {u : Unit {0}} → MarkRead k now new (Ok u) → Walked x old row gives new
mark_expected w new (t, is, of, same) = mark_read w t is of same

-- the next token, whose kind is known, is taken
pub taken_token : (now new : Ahead) (k : Kind) (result : Option (Bor Placed)) → option_map kind (front now.rest) ≡ Some k
    → (result ≡ None → (now.rest ≡ []) × (new ≡ now)) → ((t : Bor Placed) → result ≡ Some t → (now.rest ≡ t.now ∷ new.rest) × (new.end ≡ now.end))
    → (t : Placed) × (now.rest ≡ t ∷ new.rest) × (kind t ≡ k) × (new.end ≡ now.end)
taken_token now new k None known end other =
    let gone : option_map kind (front now.rest) ≡ None = ap (λ ts. option_map kind (front ts)) (end refl).0 in absurd cc
taken_token now new k (Some t) known end other =
    let is = other t refl in
    let of : option_map kind (front now.rest) ≡ Some (kind t.now) = ap (λ ts. option_map kind (front ts)) is.0 in
    (t.now, is.0, cc, is.1)

pub mark_passed : {x : Form} {old now : Ahead} {k : Kind} {row : Row} {gives : Values Gives row → Gives x} → Walked x old (mark k ∷ row) gives now
    → (new : Ahead) → option_map kind (front now.rest) ≡ Some k → {result : Option (Bor Placed)}
    → (result ≡ None → (now.rest ≡ []) × (new ≡ now)) → ((t : Bor Placed) → result ≡ Some t → (now.rest ≡ t.now ∷ new.rest) × (new.end ≡ now.end))
    → Walked x old row gives new
mark_passed {now} {k} w new known {result} end other =
    let t = taken_token now new k result known end other in mark_read w t.0 t.1 t.2 t.3

-- ---- the ways out

-- all parts are read
pub finished : {x : Form} {old new : Ahead} {gives : Unit {0} → Gives x} → Walked x old [] gives new → {v : Gives x} → v ≡ gives tt → Answers x old (Ok v) new
finished {x} {old} {new} w is = (subst (λ u. Reads grammar x old.rest u new.rest) (sym is) (w.reads tt new.rest done), w.end)

pub finished_to : {x : Form} {B : Type 0} {apply : Gives x → B} {old new : Ahead} {gives : Unit {0} → Gives x} → Walked x old [] gives new
    → {b : B} → b ≡ apply (gives tt) → AnswersTo x apply old (Ok b) new
finished_to {new} {gives} w is = (gives tt, w.reads tt new.rest done, is, w.end)

pub finished_in : {x : Form} {B : Type 0} {apply : Gives x → B} {old new : Ahead} {gives : Unit {0} → Gives x} → Walked x old [] gives new
    → {u : Unit {0}} {made : B} → made ≡ apply (gives tt) → AnswersIn x apply old (Ok u) made new
finished_in {new} {gives} w is = (gives tt, w.reads tt new.rest done, is, w.end)

-- no rule begins with the token at the front, or with the end
pub refused_front : {x : Form} {old : Ahead} → rule x (front old.rest) ≡ None → (new : Ahead) → new ≡ old → (last : Option ℕ) → Halts x old (Refused last) new
refused_front {x} {old} none new same last = subst (λ c. Stops grammar x old.rest c.rest × (c.end ≡ old.end)) (sym same) (no_rule none, refl)

wrong_mark : (k : Kind) (row : Row) (ts : List Placed) → option_map kind (front ts) ≢ Some k → StopsRow grammar (mark k ∷ row) ts ts
wrong_mark k row [] differs = at_end refl
wrong_mark k row (t ∷ tail) differs = at_mark t tail refl (λ is. differs (ap Some is))

-- another token, or the end, stands in place of a mark
pub refused_mark : {x : Form} {old now : Ahead} {k : Kind} {row : Row} {gives : Values Gives row → Gives x} → Walked x old (mark k ∷ row) gives now
    → (new : Ahead) → (halt : Halt) → MarkRead k now new (Err halt) → Halts x old halt new
refused_mark {x} {old} {now} {k} {row} w new (Refused last) (same, differs) =
    subst (λ c. Stops grammar x old.rest c.rest × (c.end ≡ old.end)) (sym same) (w.stops now.rest (wrong_mark k row now.rest differs), w.end)
refused_mark w new NoMemory none = absurd none

-- the reading of a part stops
pub halted : {x f : Form} {old now : Ahead} {row : Row} {gives : Gives f × Values Gives row → Gives x} → Walked x old (form f ∷ row) gives now
    → (new : Ahead) → (halt : Halt) → Halts f now halt new → Halts x old halt new
halted w new (Refused last) (stops, same) = (w.stops new.rest (at_form stops), same ∙ w.end)
halted w new NoMemory none = tt

-- ---- rules, by the kind of the token at the front

picked : {x : Form} (ending : Rules x) (rules : Placed → Kind → Rules x) (wanted : Place → Rules x) (end : Place) (ts : List Placed) (k : Kind)
    → option_map kind (front ts) ≡ Some k → ((t : Placed) → rules t k ≡ wanted t.place) → by_front ending rules (front ts) ≡ wanted (place_before end ts)
picked ending rules wanted end [] k known is = absurd cc
picked ending rules wanted end (t ∷ tail) k known is = let of : kind t ≡ k = cc in ap (rules t) of ∙ is t

-- the rules of a kind, which may tell the token's place
pub pick : {x : Form} (ending : Rules x) (rules : Placed → Kind → Rules x) (wanted : Place → Rules x) (c : Ahead) (k : Kind)
    → option_map kind (front c.rest) ≡ Some k → ((t : Placed) → rules t k ≡ wanted t.place) → by_front ending rules (front c.rest) ≡ wanted (place_at c)
pick ending rules wanted c k known is = picked ending rules wanted c.end c.rest k known is

fallen : {x : Form} (ending : Rules x) (rules : Placed → Kind → Rules x) (wanted : Rules x) (ts : List Placed)
    → ending ≡ wanted → ((t : Placed) (k : Kind) → option_map kind (front ts) ≡ Some k → rules t k ≡ wanted) → by_front ending rules (front ts) ≡ wanted
fallen ending rules wanted [] ending_is others = ending_is
fallen ending rules wanted (t ∷ tail) ending_is others = others t (kind t) refl

-- the rules of all other kinds and of the end
pub fall : {x : Form} (ending : Rules x) (rules : Placed → Kind → Rules x) (wanted : Rules x) (c : Ahead)
    → ending ≡ wanted → ((t : Placed) (k : Kind) → option_map kind (front c.rest) ≡ Some k → rules t k ≡ wanted) → by_front ending rules (front c.rest) ≡ wanted
fall ending rules wanted c ending_is others = fallen ending rules wanted c.rest ending_is others

-- the rules of the token at the front itself
pub pick_token : {x : Form} (ending : Rules x) (rules : Placed → Kind → Rules x) (c : Ahead) (t : Placed) (tail : List Placed) (k : Kind)
    → c.rest ≡ t ∷ tail → kind t ≡ k → by_front ending rules (front c.rest) ≡ rules t k
pick_token ending rules c t tail k is of = ap (λ ts. by_front ending rules (front ts)) is ∙ ap (rules t) of

-- ---- lengths

mutual
  -- what is left is no longer than what there was
  pub Reads-shorter : {f : Form} {ts rest : List Placed} {v : Gives f} → Reads grammar f ts v rest → length rest ≤ length ts
  Reads-shorter (by r vs is row same) = ReadsRow-shorter row

  pub ReadsRow-shorter : {row : Row} {ts rest : List Placed} {vs : Values Gives row} → ReadsRow grammar row ts vs rest → length rest ≤ length ts
  ReadsRow-shorter done = omega arith
  ReadsRow-shorter (token t tail is of row) = let less = ReadsRow-shorter row in let longer = ap length is in omega arith
  ReadsRow-shorter (part mid read row) = let first = Reads-shorter read in let less = ReadsRow-shorter row in omega arith
