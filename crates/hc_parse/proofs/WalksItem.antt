-- How the functions that read items walk the rows of their forms.
use Rattle.std.proofs.Common.{false, ◌≡◌, ◌≢◌, inl, inr, ◌++◌, List, [], ◌∷◌, Some, None, Result, Ok, Err, refl, sym, ap, subst, ◌∙◌, append_assoc}
use Rattle.std.specs.Prelude.{option_map}
use Rattle.std.proofs.lemmas.List.{append-nil}
use Rattle.hc_tree.specs.declared.place.Place.{Place}
use Rattle.hc_tree.specs.declared.decl.Decl.{Decl}
use Rattle.hc_tree.specs.declared.item.Item.{Item}
use Rattle.hc_tree.specs.declared.item.Item.TheVariants as item
use Rattle.hc_lex.specs.declared.token.Placed.{Placed}
use Rattle.hc_grammar.specs.declared.kind.Kind.{Kind}
use Rattle.hc_grammar.specs.declared.halt.Halt.{Halt}
use Rattle.hc_grammar.specs.declared.halt.Halt.TheVariants.{Refused, NoMemory}
use Rattle.hc_grammar.specs.Kind.{kind}
use Rattle.hc_grammar.specs.Table.{mark, form, Values, Reads, ReadsRow, Stops, StopsRow, by, done, token, part, no_rule, inside, at_end, at_mark, behind_mark, at_form, behind_form, front}
use Rattle.hc_grammar.specs.Form as f
use Rattle.hc_grammar.specs.Form.{Form, Gives}
use Rattle.hc_grammar.specs.Grammar.{grammar, rule}
use Rattle.hc_grammar.specs.Cursor.{Ahead, MarkRead}
use Rattle.hc_grammar.specs.Answers.{Halts, Answers, AnswersTo, AnswersIn}
use Rattle.hc_grammar.specs.Walk.{Row, Walked, start, mark_read, form_read, finished, halted}
use Rattle.hc_parse.specs.Before.{HaltsBefore, AnswersBefore}
use Rattle.hc_parse.proofs.RowsItem.{DeclRow}

-- ---- a form and the mark behind it

pub before_halted : (x : Form) (k : Kind) (old new : Ahead) (halt : Halt) → Halts x old halt new → HaltsBefore x k old halt new
before_halted x k old new (Refused last) (stops, same) = (at_form stops, same)
before_halted x k old new NoMemory none = tt

wrong_mark : (k : Kind) (ts : List Placed) → option_map kind (front ts) ≢ Some k → StopsRow grammar (mark k ∷ []) ts ts
wrong_mark k [] differs = at_end refl
wrong_mark k (t ∷ tail) differs = at_mark t tail refl (λ is. differs (ap Some is))

pub before_refused : (x : Form) (k : Kind) {old now : Ahead} {v : Gives x} → Reads grammar x old.rest v now.rest → now.end ≡ old.end
    → (new : Ahead) (halt : Halt) → MarkRead k now new (Err halt) → HaltsBefore x k old halt new
before_refused x k {old} {now} {v} read same new (Refused last) (is, differs) =
    subst (λ c. HaltsBefore x k old (Refused last) c) (sym is) (behind_form v now.rest read (wrong_mark k now.rest differs), same)
before_refused x k read same new NoMemory none = absurd none

pub before_read : {x : Form} {k : Kind} {old now : Ahead} {v : Gives x} → Reads grammar x old.rest v now.rest → now.end ≡ old.end
    → (new : Ahead) {u : Unit {0}} → MarkRead k now new (Ok u) → AnswersBefore x k old (Ok v) new
before_read {now} read same new (t, is, of, end) = (part now.rest read (token t new.rest is of done), end ∙ same)

-- both are read, of a row that begins with them
parts_of : {x : Form} {k : Kind} {ts rest : List Placed} {v : Gives x} {u : Unit {0}} → ReadsRow grammar (form x ∷ mark k ∷ []) ts (v, u) rest
    → (mid : List Placed) × (t : Placed) × Reads grammar x ts v mid × (mid ≡ t ∷ rest) × (kind t ≡ k)
parts_of (part mid read (token t tail is of done)) = (mid, t, read, is, of)

pub both_read : {x y : Form} {old now : Ahead} {k : Kind} {row : Row} {gives : Gives y × Values Gives row → Gives x} → Walked x old (form y ∷ mark k ∷ row) gives now
    → (new : Ahead) {v : Gives y} → AnswersBefore y k now (Ok v) new → Walked x old row (λ vs. gives (v, vs)) new
both_read w new (read, same) =
    let p = parts_of read in
    mark_read {now = record { rest = p.0; end = new.end }} (form_read w p.2 same) p.1 p.3 p.4 refl

row_stops : {x : Form} {k : Kind} {row : Row} {ts rest : List Placed} → StopsRow grammar (form x ∷ mark k ∷ []) ts rest → StopsRow grammar (form x ∷ mark k ∷ row) ts rest
row_stops (at_form stops) = at_form stops
row_stops (behind_form v mid read (at_end is)) = behind_form v mid read (at_end is)
row_stops (behind_form v mid read (at_mark t tail is differs)) = behind_form v mid read (at_mark t tail is differs)
row_stops {k = k} {row = row} {ts = ts} {rest = rest} (behind_form v mid read (behind_mark t tail is of none)) = elim none [ ]

pub both_halted : {x y : Form} {old now : Ahead} {k : Kind} {row : Row} {gives : Gives y × Values Gives row → Gives x} → Walked x old (form y ∷ mark k ∷ row) gives now
    → (new : Ahead) (halt : Halt) → HaltsBefore y k now halt new → Halts x old halt new
both_halted w new (Refused last) (stops, same) = (w.stops new.rest (row_stops stops), same ∙ w.end)
both_halted w new NoMemory none = tt

-- ---- items by the word that they begin with

-- what is set, with the place of `set`
pub set_read : {old now : Ahead} {at : Place} → Walked f.item old (form f.set_tail ∷ []) (λ (tail, _). tail at) now → (place : Place) → place ≡ at
    → (new : Ahead) (result : Result Item Halt) → AnswersTo f.set_tail (λ tail. tail place) now result new → Answers f.item old result new
set_read w place is new (Ok v) (tail, read, v_is, same) = finished (form_read w read same) (v_is ∙ ap tail is)
set_read w place is new (Err halt) h = halted w new halt h

-- ---- declarations

-- a form that has no rule at the front isn't read, and stops there
no_reading : {x : Form} {ts rest : List Placed} {v : Gives x} → rule x (front ts) ≡ None → Reads grammar x ts v rest → ⊥
no_reading none (by r vs is row same) = absurd cc

stops_here : {x : Form} {ts rest : List Placed} → rule x (front ts) ≡ None → Stops grammar x ts rest → rest ≡ ts
stops_here none (no_rule n) = refl
stops_here none (inside r is row) = absurd cc

pub decl_read : {old new : Ahead} {v : Decl} → DeclRow (front old.rest) → Answers (f.decl false) old (Ok v) new → Answers f.item old (Ok (item.Decl v)) new
decl_read {old} (inl row) (read, same) = finished (form_read (start old row) read same) refl
decl_read (inr (none, no_decl)) (read, same) = absurd (no_reading no_decl read)

pub decl_halted : (old : Ahead) → DeclRow (front old.rest) → (new : Ahead) (halt : Halt) → Halts (f.decl false) old halt new → Halts f.item old halt new
decl_halted old (inl row) new halt h = halted (start old row) new halt h
decl_halted old (inr (none, no_decl)) new (Refused last) (stops, same) =
    (subst (λ rest. Stops grammar f.item old.rest rest) (sym (stops_here no_decl stops)) (no_rule none), same)
decl_halted old (inr (none, no_decl)) new NoMemory h = tt

-- ---- the loop over items

-- What is read further on belongs to the source from its beginning; what was read is in the list behind the first ones.
pub record Went (old : Ahead) (first : List Item) (now : Ahead) (so : List Item) : Type 0 where
  pub reads : (more : List Item) (rest : List Placed) → Reads grammar f.items now.rest more rest
      → (all : List Item) × Reads grammar f.items old.rest all rest × (so ++ more ≡ first ++ all)
  pub stops : (rest : List Placed) → Stops grammar f.items now.rest rest → Stops grammar f.items old.rest rest
  pub end : now.end ≡ old.end

pub Went-none : (c : Ahead) (first : List Item) → Went c first c first
Went-none c first = record { reads = λ more rest read. (more, read, refl); stops = λ rest s. s; end = refl }

-- one item more
pub Went-more : {old now : Ahead} {first so : List Item} → Went old first now so → (new : Ahead) (x : Item)
    → Walked f.items now (form f.items ∷ []) (λ (more, _). x ∷ more) new → Went old first new (so ++ x ∷ [])
Went-more {so = so} went new x w = record {
  reads = λ more rest read. let all = went.reads (x ∷ more) rest (w.reads (more, tt) rest (part rest read done)) in (all.0, all.1, append_assoc so (x ∷ []) more ∙ all.2);
  stops = λ rest s. went.stops rest (w.stops rest (at_form s));
  end = w.end ∙ went.end;
}

-- the loop ends at the end
pub Went-done : {old now : Ahead} {first so : List Item} → Went old first now so → Walked f.items now [] (λ _. []) now
    → AnswersIn f.items (λ more. first ++ more) old (Ok tt) so now
Went-done {now = now} {so = so} went w =
    let all = went.reads [] now.rest (w.reads tt now.rest done) in (all.0, all.1, sym (append-nil so) ∙ all.2, went.end)

-- an item stops
pub Went-halted : {old now : Ahead} {first so : List Item} → Went old first now so → (new : Ahead) (halt : Halt) → Halts f.items now halt new → Halts f.items old halt new
Went-halted went new (Refused last) (s, same) = (went.stops new.rest s, same ∙ went.end)
Went-halted went new NoMemory h = tt
