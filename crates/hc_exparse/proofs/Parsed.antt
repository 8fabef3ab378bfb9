-- Numbers of tokens: from where a cursor began, and from the front of all tokens.
use Rattle.std.proofs.Common.{◌≡◌, ◌≤◌, ◌<◌, ◌+◌, ◌-◌, ◌++◌, ℕ, suc, List, length, take, drop, Option, None, inl, inr, sym, ap, subst, ◌∙◌, arith, length-append}
use Rattle.std.proofs.lemmas.List.{length-drop, take-take, take-append-drop, drop-drop}
use Rattle.std.proofs.lemmas.Bool.{cases_lt}
use Rattle.std.proofs.Math.Seq.{drop-append_seam}
use Rattle.hc_tree.specs.declared.place.Place.{Place}
use Rattle.hc_tree.specs.declared.refusal.Rule.TheVariants.{S2}
use Rattle.hc_tree.specs.declared.refusal.Detail.TheVariants.{Nothing}
use Rattle.hc_tree.specs.declared.refusal.FrontErr.{FrontErr}
use Rattle.hc_tree.specs.declared.refusal.FrontErr.TheVariants.{Refused}
use Rattle.hc_lex.specs.TokenList.{TokenList}
use Rattle.hc_lex.specs.declared.token.Placed.{Placed}
use Rattle.hc_grammar.specs.Cursor.{place_before}
use Rattle.hc_grammar.specs.Table.{Spells, IsStop}
use Rattle.hc_grammar.specs.Form as f
use Rattle.hc_grammar.specs.Form.{Form, Gives}
use Rattle.hc_grammar.specs.Grammar.{grammar}
use Rattle.hc_grammar.specs.Last.{StopsAt}
use Rattle.hc_grammar.specs.LastReadings as readings
use Rattle.hc_exparse.specs.Parsed.{IfRefused}

-- what is said of the tokens of a cursor, by numbers from the front of all tokens
pub at_tokens : (P : List Placed → ℕ → Type 0) (tokens ts rest : List Placed) (from total left : ℕ) → ts ≡ drop from tokens → from ≤ length tokens
    → total ≡ length tokens → left ≡ length rest → P ts (length ts - length rest) → P (drop from tokens) (total - left - from)
at_tokens P tokens ts rest from total left is le total_is left_is h =
    let len : length ts ≡ length tokens - from = ap length is ∙ length-drop from tokens in
    let n : length ts - length rest ≡ total - left - from = omega arith in
    subst (λ l. P l (total - left - from)) is (subst (λ n. P ts n) n h)

-- a form at the front is not longer than the tokens before the stop
pub before_stop : (x : Form) (ts : List Placed) (k n : ℕ) (v : Gives x) → IsStop grammar x ts k → n ≤ length ts → Spells grammar x v (take n ts) → n ≤ k
before_stop x ts k n v stop le spells = elim (cases_lt k n) [ inl more ↦ absurd (beyond more) | inr h ↦ h ]
  where
    beyond : k < n → ⊥
    beyond more =
        let whole : take (suc k) ts ++ drop (suc k) (take n ts) ≡ take n ts =
        ap (λ l. l ++ drop (suc k) (take n ts)) (sym (take-take (suc k) n ts (omega arith))) ∙ take-append-drop (suc k) (take n ts) in
        stop.refused (omega arith) (drop (suc k) (take n ts), v, subst (λ l. Spells grammar x v l) (sym whole) spells)

-- the tokens at which a form stops are the last ones
pub rest_is : (x : Form) (ts at : List Placed) (last : Option ℕ) → StopsAt grammar x ts at last → at ≡ drop (length ts - length at) ts
rest_is x ts at last s =
    let p = readings.stopped-by grammar s.stops in
    let len : length ts ≡ length p.taken + length at = ap length p.is ∙ length-append p.taken at in
    let n : length ts - length at ≡ length p.taken = omega arith in
    sym (ap (λ n. drop n ts) n ∙ ap (drop (length p.taken)) p.is ∙ drop-append_seam p.taken at)

-- no expression begins there
pub refusal : (tokens : TokenList) (from : ℕ) (ts at : List Placed) (place : Place) (made : FrontErr) → ts ≡ drop from tokens.tokens → StopsAt grammar f.expr ts at None
    → IsStop grammar f.expr ts (length ts - length at) → place ≡ place_before tokens.end at
    → made ≡ Refused (record { rule = S2; place = place; detail = Nothing }) → IfRefused tokens from made
refusal tokens from ts at place made is s stop place_is made_is =
    let n = length ts - length at in
    let rest : at ≡ drop (from + n) tokens.tokens = rest_is f.expr ts at None s ∙ ap (drop n) is ∙ drop-drop n from tokens.tokens in
    subst (IfRefused tokens from) (sym made_is) (
      n,
      record {
        is_stop = subst (λ l. IsStop grammar f.expr l n) is stop;
        none = λ k v le spells. s.last_is k (record {
          within = subst (λ l. k ≤ length l) (sym is) le;
          value = v;
          spells = subst (λ l. Spells grammar f.expr v (take k l)) (sym is) spells;
        });
      },
      ap (λ p. record { rule = S2; place = p; detail = Nothing }) (place_is ∙ ap (place_before tokens.end) rest),
    )

pub stop_shorter : (x : Form) (ts at : List Placed) (last : Option ℕ) → StopsAt grammar x ts at last → length at ≤ length ts
stop_shorter x ts at last s =
    let p = readings.stopped-by grammar s.stops in
    let len : length ts ≡ length p.taken + length at = ap length p.is ∙ length-append p.taken at in
    omega arith
