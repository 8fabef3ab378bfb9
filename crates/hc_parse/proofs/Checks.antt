-- Tokens pass the checks before the grammar or have one first breach, and not both.
use Rattle.std.proofs.Common.{◌≡◌, ◌⊎◌, inl, inr, List, true, Option, Some, None, refl}
use Rattle.std.specs.Prelude.{find, Result, Ok, Err, IfOk, IfErr}
use Rattle.hc_tree.specs.declared.refusal.Refusal.{Refusal}
use Rattle.hc_tree.specs.declared.refusal.Rule.TheVariants.{L3, S3}
use Rattle.hc_tree.specs.declared.refusal.Detail.TheVariants.{Nothing, Name}
use Rattle.hc_tree.specs.declared.refusal.FrontErr.{FrontErr}
use Rattle.hc_tree.specs.declared.refusal.FrontErr.TheVariants.{Refused, NoMemory}
use Rattle.hc_lex.specs.declared.token.Token.{Token}
use Rattle.hc_lex.specs.declared.token.Token.TheVariants.{Word, Number, Text, Mark}
use Rattle.hc_lex.specs.declared.token.Placed.{Placed}
use Rattle.hc_tree.specs.declared.place.Place.{Place}
use Rattle.hc_grammar.specs.Nesting.{Nested, nested, is_deep}
use Rattle.hc_parse.specs.LeftOut.{HasNoLeftOut, is_left_out}
use Rattle.hc_parse.specs.Checked.{Passes, FirstBreach, word, depth, HasBreach}
use Rattle.hc_parse.specs.Refused.{IfRefused, IsRefusal}
use Rattle.hc_parse.proofs.Found.{none-passes}
use Rattle.hc_parse.proofs.Nestings.{shallow-none}
use Rattle.hc_parse.proofs.Firsts.{same_word, same_depth, no_word, no_depth, passes}

pub one_breach : (ts : List Placed) (a b : Refusal) → FirstBreach ts a → FirstBreach ts b → a ≡ b
one_breach ts a b (word p) (word q) = same_word ts a b p q
one_breach ts a b (word p) (depth w q) = absurd (no_word ts a w p)
one_breach ts a b (depth w p) (word q) = absurd (no_word ts b w q)
one_breach ts a b (depth w p) (depth v q) = same_depth ts a b p q

pub not_both : (ts : List Placed) (a : Refusal) → Passes ts → FirstBreach ts a → ⊥
not_both ts a h (word p) = no_word ts a h.words p
not_both ts a h (depth w p) = no_depth ts a h.shallow p

first_word : (ts : List Placed) (t : Token) (place : Place) → find (λ u. is_left_out u.token) ts ≡ Some (record { token = t; place = place }) → is_left_out t ≡ true → HasBreach ts
first_word ts (Word name) place found is = record {
  refusal = record { rule = S3; place = place; detail = Name name };
  first = word (record { name = name; place = place; first = found; refused = refl });
}
first_word ts (Number n) place found is = absurd cc
first_word ts (Text text) place found is = absurd cc
first_word ts (Mark mark) place found is = absurd cc

by_depth : (ts : List Placed) → HasNoLeftOut ts → (o : Option Nested) → find is_deep (nested ts) ≡ o → Passes ts ⊎ HasBreach ts
by_depth ts words None e = inl (record { words = words; shallow = shallow-none ts e })
by_depth ts words (Some at) e =
    inr (record { refusal = record { rule = L3; place = at.token.place; detail = Nothing }; first = depth words (record { at = at; first = e; refused = refl }) })

by_words : (ts : List Placed) (o : Option Placed) → find (λ u. is_left_out u.token) ts ≡ o → Passes ts ⊎ HasBreach ts
by_words ts None e = by_depth ts (none-passes (λ u. is_left_out u.token) ts e) (find is_deep (nested ts)) refl
by_words ts (Some t) e = inr (first_word ts t.token t.place e (passes (λ u. is_left_out u.token) ts t e))

pub one_of_both : (ts : List Placed) → Passes ts ⊎ HasBreach ts
one_of_both ts = by_words ts (find (λ u. is_left_out u.token) ts) refl

-- ---- what the call answers

pub only_pass : (ts : List Placed) (result : Result (Unit {0}) FrontErr) → IfErr result (λ e. IfRefused e (FirstBreach ts)) → Passes ts → IfErr result (λ e. e ≡ NoMemory)
only_pass ts (Ok u) err h = tt
only_pass ts (Err (Refused r)) err h = absurd (not_both ts r h err)
only_pass ts (Err NoMemory) err h = refl

pub only_breach : (ts : List Placed) (result : Result (Unit {0}) FrontErr) → IfOk result (λ _. Passes ts) → IfErr result (λ e. IfRefused e (FirstBreach ts))
    → (r : Refusal) → FirstBreach ts r → IsRefusal r result
only_breach ts (Ok u) ok err r first = not_both ts r ok first
only_breach ts (Err (Refused q)) ok err r first = one_breach ts q r err first
only_breach ts (Err NoMemory) ok err r first = tt
