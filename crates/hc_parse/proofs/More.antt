-- How a loop over the parts behind commas has gone, for any form of such a list.
use Rattle.std.proofs.Common.{◌≡◌, ◌≤◌, ◌++◌, List, [], ◌∷◌, length, Ok, refl, sym, ap, ◌∙◌, append_assoc, arith}
use Rattle.std.proofs.lemmas.List.{append-nil}
use Rattle.hc_lex.specs.declared.token.Placed.{Placed}
use Rattle.hc_grammar.specs.declared.halt.Halt.{Halt}
use Rattle.hc_grammar.specs.declared.halt.Halt.TheVariants.{Refused, NoMemory}
use Rattle.hc_grammar.specs.Table.{form, Reads, Stops, part, done, at_form}
use Rattle.hc_grammar.specs.Form.{Form, Gives}
use Rattle.hc_grammar.specs.Grammar.{grammar}
use Rattle.hc_grammar.specs.Cursor.{Ahead}
use Rattle.hc_grammar.specs.Answers.{AnswersIn, Halts}
use Rattle.hc_grammar.specs.Walk.{Walked}

-- What is read further on belongs to the form at the beginning; what was read is in the list behind the first ones.
pub record Went (x : Form) {A : Type 0} (parts : Gives x → List A) (old : Ahead) (first : List A) (now : Ahead) (so : List A) : Type 0 where
  pub reads : (more : Gives x) (rest : List Placed) → Reads grammar x now.rest more rest
      → (all : Gives x) × Reads grammar x old.rest all rest × (so ++ parts more ≡ first ++ parts all)
  pub stops : (rest : List Placed) → Stops grammar x now.rest rest → Stops grammar x old.rest rest
  pub end : now.end ≡ old.end
  pub shorter : length now.rest ≤ length old.rest

pub Went-none : (x : Form) {A : Type 0} (parts : Gives x → List A) (c : Ahead) (first : List A) → Went x parts c first c first
Went-none x parts c first = record { reads = λ more rest read. (more, read, refl); stops = λ rest s. s; end = refl; shorter = omega arith }

-- one part more
pub Went-more : {x : Form} {A : Type 0} {parts : Gives x → List A} {old now : Ahead} {first so : List A} → Went x parts old first now so → (new : Ahead) (a : A)
    → {gives : Gives x × Unit {0} → Gives x} → Walked x now (form x ∷ []) gives new → ((more : Gives x) → parts (gives (more, tt)) ≡ a ∷ parts more)
    → length new.rest ≤ length now.rest → {list : List A} → list ≡ so ++ a ∷ [] → Went x parts old first new list
Went-more {x} {parts = parts} {old} {first = first} {so = so} went new a {gives} w one less {list} list_is = record {
  reads = λ more rest read.
      let all = went.reads (gives (more, tt)) rest (w.reads (more, tt) rest (part rest read done)) in
      (all.0, all.1, ap (λ l. l ++ parts more) list_is ∙ append_assoc so (a ∷ []) (parts more) ∙ ap (λ l. so ++ l) (sym (one more)) ∙ all.2);
  stops = λ rest s. went.stops rest (w.stops rest (at_form s));
  end = w.end ∙ went.end;
  shorter = let s = went.shorter in omega arith;
}

-- the loop ends where no comma stands
pub Went-done : {x : Form} {A : Type 0} {parts : Gives x → List A} {old now : Ahead} {first so : List A} → Went x parts old first now so
    → {gives : Unit {0} → Gives x} → Walked x now [] gives now → parts (gives tt) ≡ [] → {u : Unit {0}} → AnswersIn x (λ more. first ++ parts more) old (Ok u) so now
Went-done {now = now} {so = so} went {gives} w none =
    let all = went.reads (gives tt) now.rest (w.reads tt now.rest done) in (all.0, all.1, sym (append-nil so) ∙ ap (λ l. so ++ l) (sym none) ∙ all.2, went.end)

-- a part stops
pub Went-halted : {x : Form} {A : Type 0} {parts : Gives x → List A} {old now : Ahead} {first so : List A} → Went x parts old first now so
    → (new : Ahead) (halt : Halt) → Halts x now halt new → Halts x old halt new
Went-halted went new (Refused last) (s, same) = (went.stops new.rest s, same ∙ went.end)
Went-halted went new NoMemory h = tt
