-- The first token that is nested too deep, token by token.
use Rattle.std.proofs.Common.{◌≡◌, ◌∙◌, ℕ, ◌+◌, ◌≤◌, ◌<◌, true, false, List, ◌∷◌, length, drop, get_or, Some, None, refl, ap, sym, arith}
use Rattle.std.specs.Prelude.{nat_lt}
use Rattle.std.specs.List.{find}
use Rattle.std.proofs.lemmas.Bool.Decides.{nat_tests}
use Rattle.std.proofs.lemmas.List.{drop_more, drop_all}
use Rattle.hc_lex.specs.declared.token.Placed.{Placed}
use Rattle.hc_grammar.specs.Nesting.{Role, Levels, role, role_of_first, taken, nesting, Nested, nested_from, nested, is_deep, IsShallow}
use Rattle.hc_parse.proofs.Found.{none-passes, none-found}

-- what the first token gives, with its role and the next one's
found-first : (before : Role) (ls : Levels) (t : Placed) (rest : List Placed) (r next : Role) (then_open : Levels) → r ≡ role t.token → next ≡ role_of_first rest → then_open ≡ taken before r next ls
    → nested_from before ls (t ∷ rest) ≡ record { token = t; nesting = nesting then_open } ∷ nested_from r then_open rest
found-first before ls t rest r next then_open e f g = rw (g, e, f) refl

shallow-test : (n : ℕ) → n ≤ 200 → nat_lt 200 n ≡ false
shallow-test n h = grind (arith, nat_tests)

deep-test : (n : ℕ) → 200 < n → nat_lt 200 n ≡ true
deep-test n h = grind (arith, nat_tests)

pub shallow-first : (before : Role) (ls : Levels) (t : Placed) (rest : List Placed) (r next : Role) (then_open : Levels) → r ≡ role t.token → next ≡ role_of_first rest → then_open ≡ taken before r next ls
    → nesting then_open ≤ 200 → find is_deep (nested_from before ls (t ∷ rest)) ≡ find is_deep (nested_from r then_open rest)
shallow-first before ls t rest r next then_open e f g h =
    ap (find is_deep) (found-first before ls t rest r next then_open e f g) ∙ rw (shallow-test (nesting then_open) h) refl

pub deep-first : (before : Role) (ls : Levels) (t : Placed) (rest : List Placed) (r next : Role) (then_open : Levels) → r ≡ role t.token → next ≡ role_of_first rest → then_open ≡ taken before r next ls
    → 200 < nesting then_open → find is_deep (nested_from before ls (t ∷ rest)) ≡ Some (record { token = t; nesting = nesting then_open })
deep-first before ls t rest r next then_open e f g h =
    ap (find is_deep) (found-first before ls t rest r next then_open e f g) ∙ rw (deep-test (nesting then_open) h) refl

-- what is known before the token at a place of a list
pub record Reached (all : List Placed) (i : ℕ) (before r : Role) (ls : Levels) : Type 0 where
  pub shallow : nesting ls ≤ 200
  pub is_role : r ≡ role_of_first (drop i all)
  pub found : find is_deep (nested all) ≡ find is_deep (nested_from before ls (drop i all))

role-at : (all : List Placed) (i : ℕ) (t : Placed) (r : Role) → i < length all → t ≡ get_or all i t → r ≡ role_of_first (drop i all) → r ≡ role t.token
role-at all i t r h is e = e ∙ ap role_of_first (drop_more all i t h) ∙ ap (λ (u : Placed). role u.token) (sym is)

at-place : (all : List Placed) (i : ℕ) (t : Placed) → i < length all → t ≡ get_or all i t → drop i all ≡ t ∷ drop (i + 1) all
at-place all i t h is = drop_more all i t h ∙ ap (λ (u : Placed). u ∷ drop (i + 1) all) (sym is)

pub reached-more : (all : List Placed) (i : ℕ) (before r next : Role) (ls then_open : Levels) (t : Placed) → Reached all i before r ls → i < length all → t ≡ get_or all i t
    → next ≡ role_of_first (drop (i + 1) all) → then_open ≡ taken before r next ls → nesting then_open ≤ 200 → Reached all (i + 1) r next then_open
reached-more all i before r next ls then_open t h in_list is e g shallow = record {
  shallow = shallow;
  is_role = e;
  found = h.found ∙ ap (λ ts. find is_deep (nested_from before ls ts)) (at-place all i t in_list is)
      ∙ shallow-first before ls t (drop (i + 1) all) r next then_open (role-at all i t r in_list is h.is_role) e g shallow;
}

pub reached-deep : (all : List Placed) (i : ℕ) (before r next : Role) (ls then_open : Levels) (t : Placed) → Reached all i before r ls → i < length all → t ≡ get_or all i t
    → next ≡ role_of_first (drop (i + 1) all) → then_open ≡ taken before r next ls → 200 < nesting then_open → find is_deep (nested all) ≡ Some (record { token = t; nesting = nesting then_open })
reached-deep all i before r next ls then_open t h in_list is e g deep =
    h.found ∙ ap (λ ts. find is_deep (nested_from before ls ts)) (at-place all i t in_list is)
    ∙ deep-first before ls t (drop (i + 1) all) r next then_open (role-at all i t r in_list is h.is_role) e g deep

pub reached-end : (all : List Placed) (i : ℕ) (before r : Role) (ls : Levels) → Reached all i before r ls → length all ≤ i → find is_deep (nested all) ≡ None
reached-end all i before r ls h end = h.found ∙ ap (λ ts. find is_deep (nested_from before ls ts)) (drop_all i all end)

-- nothing is found exactly where no token is nested too deep
test-le : (n : ℕ) → nat_lt 200 n ≡ false → n ≤ 200
test-le n h = grind (arith, nat_tests)

pub shallow-none : (all : List Placed) → find is_deep (nested all) ≡ None → IsShallow all
shallow-none all h = λ k d in_list. test-le _ (none-passes is_deep (nested all) h k d in_list)

pub none-shallow : (all : List Placed) → IsShallow all → find is_deep (nested all) ≡ None
none-shallow all h = none-found is_deep (nested all) (λ k d in_list. shallow-test _ (h k d in_list))

pub not-shallow : (all : List Placed) (at : Nested) → find is_deep (nested all) ≡ Some at → IsShallow all → ⊥
not-shallow all at found h = let none = none-shallow all h in cc
