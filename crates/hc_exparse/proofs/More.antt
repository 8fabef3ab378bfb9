-- How a loop over the expressions behind commas has gone.
use Rattle.std.proofs.Common.{◌≡◌, ◌≤◌, ◌<◌, ◌++◌, List, [], ◌∷◌, length, Option, Some, None, Ok, refl, sym, ap, ◌∙◌, append_assoc, arith}
use Rattle.std.specs.Prelude.{option_map}
use Rattle.std.proofs.lemmas.List.{append-nil}
use denote.Bor.{Bor}
use Rattle.hc_tree.specs.declared.expr.ExprTree.{ExprTree}
use Rattle.hc_lex.specs.declared.token.Placed.{Placed}
use Rattle.hc_grammar.specs.declared.kind.Kind.{Kind}
use Rattle.hc_grammar.specs.declared.halt.Halt.{Halt}
use Rattle.hc_grammar.specs.declared.halt.Halt.TheVariants.{Refused, NoMemory}
use Rattle.hc_grammar.specs.Kind.{kind}
use Rattle.hc_grammar.specs.Table.{form, Reads, Stops, part, done, at_form, front}
use Rattle.hc_grammar.specs.Form as f
use Rattle.hc_grammar.specs.Grammar.{grammar}
use Rattle.hc_grammar.specs.Cursor.{Ahead}
use Rattle.hc_grammar.specs.Answers.{AnswersIn, Halts}
use Rattle.hc_grammar.specs.Walk.{Walked, taken_token}

-- What is read further on belongs to the form at the beginning; what was read is in the list behind the first ones.
pub record Went (old : Ahead) (first : List ExprTree) (now : Ahead) (so : List ExprTree) : Type 0 where
  pub reads : (more : List ExprTree) (rest : List Placed) → Reads grammar f.more_exprs now.rest more rest
      → (all : List ExprTree) × Reads grammar f.more_exprs old.rest all rest × (so ++ more ≡ first ++ all)
  pub stops : (rest : List Placed) → Stops grammar f.more_exprs now.rest rest → Stops grammar f.more_exprs old.rest rest
  pub end : now.end ≡ old.end
  pub shorter : length now.rest ≤ length old.rest

pub Went-none : (c : Ahead) (first : List ExprTree) → Went c first c first
Went-none c first = record { reads = λ more rest read. (more, read, refl); stops = λ rest s. s; end = refl; shorter = omega arith }

-- one expression more
pub Went-more : {old now : Ahead} {first so : List ExprTree} → Went old first now so → (new : Ahead) (e : ExprTree)
    → Walked f.more_exprs now (form f.more_exprs ∷ []) (λ (more, _). e ∷ more) new → length new.rest ≤ length now.rest → Went old first new (so ++ e ∷ [])
Went-more {so = so} went new e w less = record {
  reads = λ more rest read. let all = went.reads (e ∷ more) rest (w.reads (more, tt) rest (part rest read done)) in (all.0, all.1, append_assoc so (e ∷ []) more ∙ all.2);
  stops = λ rest s. went.stops rest (w.stops rest (at_form s));
  end = w.end ∙ went.end;
  shorter = let s = went.shorter in omega arith;
}

-- the loop ends where no comma stands
pub Went-done : {old now : Ahead} {first so : List ExprTree} → Went old first now so → Walked f.more_exprs now [] (λ _. []) now
    → AnswersIn f.more_exprs (λ more. first ++ more) old (Ok tt) so now
Went-done {now = now} {so = so} went w =
    let all = went.reads [] now.rest (w.reads tt now.rest done) in (all.0, all.1, sym (append-nil so) ∙ all.2, went.end)

-- an expression stops
pub Went-halted : {old now : Ahead} {first so : List ExprTree} → Went old first now so → (new : Ahead) (halt : Halt) → Halts f.more_exprs now halt new → Halts f.more_exprs old halt new
Went-halted went new (Refused last) (s, same) = (went.stops new.rest s, same ∙ went.end)
Went-halted went new NoMemory h = tt

-- a token is taken
pub taken_shorter : (now new : Ahead) (k : Kind) (result : Option (Bor Placed)) → option_map kind (front now.rest) ≡ Some k
    → (result ≡ None → (now.rest ≡ []) × (new ≡ now)) → ((t : Bor Placed) → result ≡ Some t → (now.rest ≡ t.now ∷ new.rest) × (new.end ≡ now.end))
    → length new.rest < length now.rest
taken_shorter now new k result known none some = let t = taken_token now new k result known none some in let longer = ap length t.1 in omega arith
