-- The lines of an element: which writes they are, and what is written by them.
use Rattle.std.proofs.Common.{◌≡◌, ◌<◌, ◌≤◌, ℕ, zero, suc, ◌+◌, List, [], ◌∷◌, ◌++◌, length, map, get_or, Bool, true, false, refl, ap, sym, ◌∙◌, arith, inl, inr}
use Rattle.std.proofs.lemmas.Bool.{cases_lt, cases_order}
use Rattle.hc_store.specs.Takes.{Takes}
use Rattle.hc_store.specs.Lines.{Lists, TakesByLines, enables_of, values_of}
use Rattle.hc_store.specs.declared.lines.Line.{Line}

abbrev pub line_of : ℕ → ℕ → Line
line_of enable write = record { enable = enable; write = write }

abbrev pub writes_of : List Line → List ℕ
writes_of lines = map (λ l. l.write) lines

-- ---- one more write

-- it is off
pub Lists-off : (v on : ℕ → Bool) (from to : ℕ) (ls : List Line) → Lists v on from to ls → on to ≡ false → Lists v on from (to + 1) ls
Lists-off v on from to [] lists off = λ k low high. elim (cases_lt k to) [
  | inl below ↦ lists k low below
  | inr past ↦ let e : k ≡ to = omega arith in ap on e ∙ off
]
Lists-off v on from to (l ∷ ls) lists off =
    let below : l.write < to = lists.2 in
    (lists.0, lists.1, omega arith, lists.3, Lists-off v on (l.write + 1) to ls lists.4 off)

-- a line tells whether it is on
pub Lists-on : (v on : ℕ → Bool) (from to enable : ℕ) (ls : List Line) → Lists v on from to ls → from ≤ to → v enable ≡ on to
    → Lists v on from (to + 1) (ls ++ line_of enable to ∷ [])
Lists-on v on from to enable [] lists low tells = (lists, low, omega arith, tells, λ k above below. absurd (omega arith))
Lists-on v on from to enable (l ∷ ls) lists low tells =
    let below : l.write < to = lists.2 in
    (lists.0, lists.1, omega arith, lists.3, Lists-on v on (l.write + 1) to enable ls lists.4 (omega arith) tells)

-- ---- the lines by their places

-- the line of a write that is on
pub record HasLine (v : ℕ → Bool) (ls : List Line) (k : ℕ) : Type 0 where
  pub place : ℕ
  pub within : place < length ls
  pub same : get_or (writes_of ls) place 0 ≡ k
  pub is_on : v (get_or (enables_of ls) place 0) ≡ true

pub Lists-find : (v on : ℕ → Bool) (from to : ℕ) (ls : List Line) → Lists v on from to ls → (k : ℕ) → from ≤ k → k < to → on k ≡ true → HasLine v ls k
Lists-find v on from to [] lists k low high is_on = absurd (let off : on k ≡ false = lists k low high in cc)
Lists-find v on from to (l ∷ ls) lists k low high is_on = elim (cases_order k l.write) [
  | inl here ↦ record { place = 0; within = omega arith; same = sym here; is_on = lists.3 ∙ ap on (sym here) ∙ is_on }
  | inr other ↦ elim other [
    | inl before ↦ absurd (let off : on k ≡ false = lists.0 k low before in cc)
    | inr after ↦
        let rest = Lists-find v on (l.write + 1) to ls lists.4 k (omega arith) high is_on in
        let within : rest.place < length ls = rest.within in
        record { place = suc rest.place; within = omega arith; same = rest.same; is_on = rest.is_on }
  ]
]

pub Lists-tell : (v on : ℕ → Bool) (from to : ℕ) (ls : List Line) → Lists v on from to ls → (p : ℕ) → p < length ls
    → v (get_or (enables_of ls) p 0) ≡ on (get_or (writes_of ls) p 0)
Lists-tell v on from to [] lists p within = absurd (omega (arith, within))
Lists-tell v on from to (l ∷ ls) lists zero within = lists.3
Lists-tell v on from to (l ∷ ls) lists (suc p) within = Lists-tell v on (l.write + 1) to ls lists.4 p (omega (arith, within))

-- the numbers of the writes are in order
pub Lists-from : (v on : ℕ → Bool) (from to : ℕ) (ls : List Line) → Lists v on from to ls → (p : ℕ) → p < length ls → from ≤ get_or (writes_of ls) p 0
Lists-from v on from to [] lists p within = absurd (omega (arith, within))
Lists-from v on from to (l ∷ ls) lists zero within = lists.1
Lists-from v on from to (l ∷ ls) lists (suc p) within =
    let low : from ≤ l.write = lists.1 in
    let rest = Lists-from v on (l.write + 1) to ls lists.4 p (omega (arith, within)) in
    omega (arith, low, rest)

pub Lists-below : (v on : ℕ → Bool) (from to : ℕ) (ls : List Line) → Lists v on from to ls → (p : ℕ) → p < length ls → get_or (writes_of ls) p 0 < to
Lists-below v on from to [] lists p within = absurd (omega (arith, within))
Lists-below v on from to (l ∷ ls) lists zero within = lists.2
Lists-below v on from to (l ∷ ls) lists (suc p) within = Lists-below v on (l.write + 1) to ls lists.4 p (omega (arith, within))

-- so no two of them are of one write
pub Lists-apart : (v on : ℕ → Bool) (from to : ℕ) (ls : List Line) → Lists v on from to ls → (p r : ℕ) → p < length ls → r < length ls
    → get_or (writes_of ls) p 0 ≡ get_or (writes_of ls) r 0 → p ≡ r
Lists-apart v on from to [] lists p r within at same = absurd (omega (arith, within))
Lists-apart v on from to (l ∷ ls) lists zero zero within at same = refl
Lists-apart v on from to (l ∷ ls) lists zero (suc r) within at same =
    absurd (let above = Lists-from v on (l.write + 1) to ls lists.4 r (omega (arith, at)) in omega (arith, above, same))
Lists-apart v on from to (l ∷ ls) lists (suc p) zero within at same =
    absurd (let above = Lists-from v on (l.write + 1) to ls lists.4 p (omega (arith, within)) in omega (arith, above, same))
Lists-apart v on from to (l ∷ ls) lists (suc p) (suc r) within at same =
    ap (λ k. suc k) (Lists-apart v on (l.write + 1) to ls lists.4 p r (omega (arith, within)) (omega (arith, at)) same)

-- ---- what is written

values_at : (values : List (List ℕ)) (ls : List Line) (p : ℕ) → p < length ls → get_or (values_of values ls) p [] ≡ get_or values (get_or (writes_of ls) p 0) []
values_at values [] p within = absurd (omega (arith, within))
values_at values (l ∷ ls) zero within = refl
values_at values (l ∷ ls) (suc p) within = values_at values ls p (omega (arith, within))

-- what is taken by the lines is taken by all writes
pub taken_by_all : (v on : ℕ → Bool) (count : ℕ) (ls : List Line) (values : List (List ℕ)) (present next : List ℕ)
    → Lists v on 0 count ls → TakesByLines v ls values present next → Takes v count on present values next
taken_by_all v on count ls values present next lists takes = record {
  kept = λ off. takes.kept (λ p within. Lists-tell v on 0 count ls lists p within ∙ off (get_or (writes_of ls) p 0) (Lists-below v on 0 count ls lists p within));
  taken = λ i within is_on alone.
      let line = Lists-find v on 0 count ls lists i (omega arith) within is_on in
      takes.taken line.place line.within line.is_on
      (λ r at also. Lists-apart v on 0 count ls lists r line.place at line.within
      (alone (get_or (writes_of ls) r 0) (Lists-below v on 0 count ls lists r at) (sym (Lists-tell v on 0 count ls lists r at) ∙ also) ∙ sym line.same))
      ∙ ap (λ l. map v l) (values_at values ls line.place line.within ∙ ap (λ k. get_or values k []) line.same);
}
