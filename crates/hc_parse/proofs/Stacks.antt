-- Levels and the stack that keeps them.
use Rattle.std.proofs.Common.{◌≡◌, ◌∙◌, ℕ, ◌+◌, ◌-◌, ◌≤◌, Bool, true, false, List, [], ◌∷◌, ◌++◌, reverse, Some, refl, ap, subst, arith}
use Rattle.std.specs.Prelude.{is_some, nat_lt, if◌then◌else◌}
use Rattle.std.proofs.lemmas.List.{reverse-append}
use Rattle.std.proofs.lemmas.Bool.Decides.{nat_tests}
use Rattle.hc_grammar.specs.Nesting.{Bracket, Opened, Levels, file, within, nesting, counted, restarted, around, is_by}
use Rattle.hc_parse.specs.Stack.{opened_of, levels_of, stacked, open_of, number_of, Counts}
use Rattle.hc_parse.specs.declared.levels.Level as level
use Rattle.hc_parse.specs.declared.open.OpenBrackets as brackets
use Rattle.hc_parse.specs.declared.open.Opened as opened

pub stacked-push : (ls : List level.Level) (l : level.Level) (n : ℕ) → stacked (ls ++ l ∷ []) n ≡ within (opened_of l.opened) n (stacked ls l.around)
stacked-push ls l n = ap (λ r. levels_of r n) (reverse-append ls (l ∷ []))

pub counted-levels : (ls : List level.Level) (n : ℕ) → counted (levels_of ls n) ≡ levels_of ls (n + 1)
counted-levels [] n = refl
counted-levels (l ∷ ls) n = refl

pub restarted-levels : (ls : List level.Level) (n : ℕ) → restarted (levels_of ls n) ≡ levels_of ls 0
restarted-levels [] n = refl
restarted-levels (l ∷ ls) n = refl

pub nesting-levels : (ls : List level.Level) (n : ℕ) → nesting (levels_of ls n) ≡ n + nesting (levels_of ls 0)
nesting-levels [] n = omega arith
nesting-levels (l ∷ ls) n = omega arith

pub open-levels : (k : Bracket) (ls : List level.Level) (n m : ℕ) → open_of k (levels_of ls n) ≡ open_of k (levels_of ls m)
open-levels k [] n m = refl
open-levels k (l ∷ ls) n m = refl

one-most : (b : Bool) → (if b then 1 else 0) ≤ 1
one-most true = omega arith
one-most false = omega arith

pub open-le : (k : Bracket) (ls : Levels) → open_of k ls ≤ nesting ls
open-le k (file n) = omega arith
open-le k (within o n ls) = omega (arith, open-le k ls, one-most (is_by k o))

around-within : (k : Bracket) (o : Opened) (n : ℕ) (ls : Levels) (b : Bool) → is_by k o ≡ b → is_some (around k ls) ≡ nat_lt 0 (open_of k ls)
    → is_some (if b then Some ls else around k ls) ≡ nat_lt 0 ((if b then 1 else 0) + open_of k ls)
around-within k o n ls true e h = grind (arith, nat_tests)
around-within k o n ls false e h = let z : 0 + open_of k ls ≡ open_of k ls = omega arith in rw z h

pub around-some : (k : Bracket) (ls : Levels) → is_some (around k ls) ≡ nat_lt 0 (open_of k ls)
around-some k (file n) = refl
around-some k (within o n ls) = around-within k o n ls (is_by k o) refl (around-some k ls)

-- ---- the numbers that are kept beside the levels

pub count-le : (ls : List level.Level) (n d : ℕ) (o : brackets.OpenBrackets) → Counts (stacked ls n) d o → n ≤ d
count-le ls n d o h = omega (arith, h.is_nesting, nesting-levels (reverse ls) n)

pub number-le : (k : Bracket) (ls : Levels) (d : ℕ) (o : brackets.OpenBrackets) → Counts ls d o → number_of k o ≤ d
number-le k ls d o h = omega (arith, h.is_nesting, h.are_open k, open-le k ls)

pub counts-count : (ls : List level.Level) (n d : ℕ) (o : brackets.OpenBrackets) → Counts (stacked ls n) d o → Counts (stacked ls (n + 1)) (d + 1) o
counts-count ls n d o h = record {
  is_nesting = omega (arith, h.is_nesting, nesting-levels (reverse ls) n, nesting-levels (reverse ls) (n + 1));
  are_open = λ k. h.are_open k ∙ open-levels k (reverse ls) n (n + 1);
}

pub counts-restart : (ls : List level.Level) (n d : ℕ) (o : brackets.OpenBrackets) → Counts (stacked ls n) d o → Counts (stacked ls 0) (d - n) o
counts-restart ls n d o h = record {
  is_nesting = omega (arith, h.is_nesting, nesting-levels (reverse ls) n);
  are_open = λ k. h.are_open k ∙ open-levels k (reverse ls) n 0;
}

-- so many levels are open within the file
abbrev pub height : Levels → ℕ
height (file n) = 0
height (within o n ls) = height ls + 1

pub at_least : (k : Bracket) (x y : opened.Opened) (n : ℕ) → x ≡ y → (if is_by k (opened_of x) then 1 else 0) ≤ n → (if is_by k (opened_of y) then 1 else 0) ≤ n
at_least k x y n e h = subst (λ (o : opened.Opened). (if is_by k (opened_of o) then 1 else 0) ≤ n) e h
