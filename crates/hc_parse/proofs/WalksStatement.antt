-- How functions that read a part of a form walk, and how loops over the parts of a list have gone.
use Rattle.std.proofs.Common.{◌≡◌, ◌≤◌, ◌<◌, ◌-◌, ℕ, zero, suc, Bool, true, false, List, [], ◌∷◌, length, Option, Some, None, Result, Ok, Err, refl, sym, ap, subst, ◌∙◌, arith}
use denote.Bor.{Bor}
use Rattle.hc_lex.specs.declared.token.Placed.{Placed}
use Rattle.hc_grammar.specs.declared.kind.Kind.{Kind}
use Rattle.hc_grammar.specs.declared.halt.Halt.{Halt}
use Rattle.hc_grammar.specs.declared.halt.Halt.TheVariants.{Refused, NoMemory}
use Rattle.hc_grammar.specs.Table.{mark, form, Values, Rule, Reads, ReadsRow, Stops, StopsRow, by, done, part, no_rule, inside, at_form, front}
use Rattle.hc_grammar.specs.Form.{Form, Gives}
use Rattle.hc_grammar.specs.Grammar.{grammar, rule}
use Rattle.hc_grammar.specs.Cursor.{Ahead, MarkRead}
use Rattle.hc_grammar.specs.Answers.{Halts, Answers}
use Rattle.hc_grammar.specs.LastEmpty.{may_be_empty, knows_empty}
use Rattle.hc_grammar.specs.LastTable.{reads-empty}
use Rattle.hc_grammar.specs.LastLemmas.{spells_of_read}
use Rattle.hc_grammar.specs.Walk.{Row, Walked, Reads-shorter, start, taken_token, finished, refused_front, refused_mark}
use Rattle.hc_exparse.specs.Last.{Makes}
use Rattle.hc_parse.specs.Turn.{next_kind, Passes, GoesOn, AnswersAs, AnswersTurn}

-- ---- ways out

-- the value of a walked row is made, or memory is short
pub made : {x : Form} {old new : Ahead} {gives : Unit {0} → Gives x} → Walked x old [] gives new → {v : Gives x} → v ≡ gives tt
    → (result : Result (Gives x) Halt) → Makes result v → Answers x old result new
made w is (Ok b) b_is = finished w (b_is ∙ is)
made w is (Err (Refused last)) none = absurd none
made w is (Err NoMemory) none = tt

pub finished_as : {x : Form} {B : Type 0} (make : B → Gives x) {old new : Ahead} {gives : Unit {0} → Gives x} → Walked x old [] gives new → (b : B) → make b ≡ gives tt
    → AnswersAs x make old (Ok b) new
finished_as {x} make {old} {new} w b is = (subst (λ u. Reads grammar x old.rest u new.rest) (sym is) (w.reads tt new.rest done), w.end)

-- a value of the first parts of a row is made, or memory is short
pub passes_made : (parts : Row → Row) {B : Type 0} (put : (row : Row) → B → Values Gives row → Values Gives (parts row)) (old new : Ahead) (b : B)
    → Passes parts put old (Ok b) new → (result : Result B Halt) → Makes result b → Passes parts put old result new
passes_made parts put old new b p (Ok v) is = subst (λ v. Passes parts put old (Ok v) new) (sym is) p
passes_made parts put old new b p (Err (Refused last)) none = absurd none
passes_made parts put old new b p (Err NoMemory) none = λ x begun row gives w. tt

-- the mark that a form always begins with isn't there
pub refused_open : (x : Form) (c : Ahead) (k : Kind) (row : Row) (gives : Values Gives row → Gives x) → (next_kind c ≡ None → rule x (front c.rest) ≡ None)
    → ((other : Kind) → next_kind c ≡ Some other → rule x (front c.rest) ≡ Some (record { row = mark k ∷ row; gives = gives }))
    → (new : Ahead) (halt : Halt) → MarkRead k c new (Err halt) → Halts x c halt new
refused_open x c k row gives ending others new (Refused last) h = at (next_kind c) refl
  where
    at : (o : Option Kind) → next_kind c ≡ o → Halts x c (Refused last) new
    at None none = refused_front (ending none) new h.0 last
    at (Some other) known = refused_mark (start c (others other known)) new (Refused last) h
refused_open x c k row gives ending others new NoMemory none = absurd none

-- ---- lengths

pub passed_shorter : (now new : Ahead) (k : Kind) {u : Unit {0}} → MarkRead k now new (Ok u) → length new.rest < length now.rest
passed_shorter now new k (t, is, of, same) = let longer = ap length is in omega arith

pub taken_shorter : (now new : Ahead) (k : Kind) (result : Option (Bor Placed)) → next_kind now ≡ Some k
    → (result ≡ None → (now.rest ≡ []) × (new ≡ now)) → ((t : Bor Placed) → result ≡ Some t → (now.rest ≡ t.now ∷ new.rest) × (new.end ≡ now.end))
    → length new.rest < length now.rest
taken_shorter now new k result known none some = let t = taken_token now new k result known none some in let longer = ap length t.1 in omega arith

-- ---- going on

pub on_here : (x : Form) (c : Ahead) → GoesOn x c x (λ v. v) c
on_here x c = record { reads = λ v rest read. read; stops = λ rest s. s; end = refl; shorter = omega arith }

-- all but the last form of a row is read
pub on_walked : {x y : Form} {old now : Ahead} {gives : Gives y × Unit {0} → Gives x} → Walked x old (form y ∷ []) gives now → length now.rest ≤ length old.rest
    → GoesOn x old y (λ v. gives (v, tt)) now
on_walked w less = record {
  reads = λ v rest read. w.reads (v, tt) rest (part rest read done);
  stops = λ rest s. w.stops rest (at_form s);
  end = w.end;
  shorter = less;
}

pub on_on : {x y z : Form} {old now new : Ahead} {g : Gives y → Gives x} {h : Gives z → Gives y} → GoesOn x old y g now → GoesOn y now z h new → GoesOn x old z (λ v. g (h v)) new
on_on {g = g} {h = h} a b = record {
  reads = λ v rest read. a.reads (h v) rest (b.reads v rest read);
  stops = λ rest s. a.stops rest (b.stops rest s);
  end = b.end ∙ a.end;
  shorter = let one = a.shorter in let two = b.shorter in omega arith;
}

-- with another function of the same values
pub on_same : {x y : Form} {old now : Ahead} {g h : Gives y → Gives x} → GoesOn x old y g now → ((v : Gives y) → g v ≡ h v) → GoesOn x old y h now
on_same {x} {old = old} a same = record {
  reads = λ v rest read. subst (λ u. Reads grammar x old.rest u rest) (same v) (a.reads v rest read);
  stops = a.stops;
  end = a.end;
  shorter = a.shorter;
}

pub on_done : {x y : Form} {old now new : Ahead} {g : Gives y → Gives x} → GoesOn x old y g now → {v : Gives y} → Reads grammar y now.rest v new.rest → new.end ≡ now.end
    → {u : Gives x} → u ≡ g v → Reads grammar x old.rest u new.rest × (new.end ≡ old.end)
on_done {x} {old = old} {new = new} a {v} read same is = (subst (λ u. Reads grammar x old.rest u new.rest) (sym is) (a.reads v new.rest read), same ∙ a.end)

pub on_halted : {x y : Form} {old now : Ahead} {g : Gives y → Gives x} → GoesOn x old y g now → (new : Ahead) (halt : Halt) → Halts y now halt new → Halts x old halt new
on_halted a new (Refused last) (s, same) = (a.stops new.rest s, same ∙ a.end)
on_halted a new NoMemory h = tt

-- the row of a rule is finished
pub row_done : {x : Form} {old new : Ahead} {gives : Unit {0} → Gives x} → Walked x old [] gives new → Reads grammar x old.rest (gives tt) new.rest
row_done {new = new} w = w.reads tt new.rest done

-- ---- forms with the same row

rule_of : {y : Form} (ts : List Placed) (r s : Rule Kind Gives y) → rule y (front ts) ≡ Some r → rule y (front ts) ≡ Some s → s ≡ r
rule_of ts r s a b = let both : Some s ≡ Some r = sym b ∙ a in cc

read_by : {y : Form} {ts rest : List Placed} {v : Gives y} (r : Rule Kind Gives y) → rule y (front ts) ≡ Some r → Reads grammar y ts v rest
    → (vs : Values Gives r.row) × ReadsRow grammar r.row ts vs rest × (v ≡ r.gives vs)
read_by {y} {ts} {rest} {v} r is (by s vs other row same) =
    subst (λ q. (vs : Values Gives q.row) × ReadsRow grammar q.row ts vs rest × (v ≡ q.gives vs)) (rule_of ts r s is other) (vs, row, same)

stopped_by : {y : Form} {ts rest : List Placed} (r : Rule Kind Gives y) → rule y (front ts) ≡ Some r → Stops grammar y ts rest → StopsRow grammar r.row ts rest
stopped_by r is (no_rule none) = let both : Some r ≡ None = sym is ∙ none in absurd cc
stopped_by {y} {ts} {rest} r is (inside s other row) = subst (λ q. StopsRow grammar q.row ts rest) (rule_of ts r s is other) row

pub same_row : {x y : Form} (c : Ahead) (row : Row) (gx : Values Gives row → Gives x) (gy : Values Gives row → Gives y) (h : Gives y → Gives x)
    → rule x (front c.rest) ≡ Some (record { row = row; gives = gx }) → rule y (front c.rest) ≡ Some (record { row = row; gives = gy })
    → ((vs : Values Gives row) → gx vs ≡ h (gy vs)) → GoesOn x c y h c
same_row c row gx gy h x_is y_is same = record {
  reads = λ v rest read. let r = read_by (record { row = row; gives = gy }) y_is read in by (record { row = row; gives = gx }) r.0 x_is r.1 (ap h r.2 ∙ sym (same r.0));
  stops = λ rest s. inside (record { row = row; gives = gx }) x_is (stopped_by (record { row = row; gives = gy }) y_is s);
  end = refl;
  shorter = omega arith;
}

-- ---- turns

-- a turn that ends with a `break`, and one that doesn't
pub turn_on : (x y : Form) {B : Type 0} (put : B → Gives y → Gives x) (last : B → Gives x) (old new : Ahead) (b : B) (has_break : Bool) → has_break ≡ true
    → AnswersTurn x y put last old (Ok (b, has_break)) new → GoesOn x old y (put b) new × (length new.rest < length old.rest)
turn_on x y put last old new b true is a = a
turn_on x y put last old new b false is a = absurd cc

pub turn_last : (x y : Form) {B : Type 0} (put : B → Gives y → Gives x) (last : B → Gives x) (old new : Ahead) (b : B) (has_break : Bool) → has_break ≡ false
    → AnswersTurn x y put last old (Ok (b, has_break)) new → Reads grammar x old.rest (last b) new.rest × (new.end ≡ old.end)
turn_last x y put last old new b true is a = absurd cc
turn_last x y put last old new b false is a = a

-- a form that is never empty takes a token
pub full_shorter : (x : Form) → may_be_empty x ≡ false → {ts rest : List Placed} {v : Gives x} → Reads grammar x ts v rest → length rest < length ts
full_shorter x full {ts} {rest} {v} read = at (length ts - length rest) refl
  where
    at : (d : ℕ) → length ts - length rest ≡ d → length rest < length ts
    at zero none =
        let less = Reads-shorter read in
        let empty = reads-empty grammar may_be_empty knows_empty (spells_of_read read 0 (omega arith)) refl in
        let both : true ≡ false = sym empty ∙ full in absurd cc
    at (suc d) some = omega arith
