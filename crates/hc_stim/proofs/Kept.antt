-- The lines of a stimulus, kept in one list.
use Rattle.std.proofs.Common.{◌≡◌, ◌≢◌, ◌≤◌, ◌<◌, ◌+◌, ◌*◌, ◌++◌, ℕ, zero, suc, List, [], ◌∷◌, length, get_or, take, drop, refl, sym, ◌∙◌, ap, subst, arith, length-append, length-drop}
use Rattle.std.proofs.lemmas.List.{take-append-le, drop-append-le}
use Rattle.std.proofs.Math.Seq.{take-length, drop-nil}
use Rattle.std.proofs.Math.Nat.{mul-le-mul_right}
use Rattle.hc_stim.specs.Lines.{lines_of}
use Rattle.hc_stim.specs.Text.{BeginsLine, ended, last, BeginsLines, StimText, IsBadLine}
use Rattle.hc_stim.specs.Reading.{ReadsLine, HasNoLine}
use Rattle.hc_stim.proofs.LineLaws.{lines_more, shorter_behind}

pub clocks_of : (clocks inputs : ℕ) (values : List ℕ) → length (lines_of clocks inputs values) ≡ clocks
clocks_of zero inputs values = refl
clocks_of (suc clocks) inputs values = let h = clocks_of clocks inputs (drop inputs values) in omega arith

drop_more : {A : Type 0} (n m : ℕ) (list : List A) → drop n (drop m list) ≡ drop (m + n) list
drop_more n zero list = ap (λ k. drop k list) (omega arith)
drop_more n (suc m) [] = drop-nil n ∙ sym (drop-nil (suc m + n))
drop_more n (suc m) (x ∷ list) = let e : suc m + n ≡ suc (m + n) = omega arith in drop_more n m list ∙ ap (λ k. drop k (x ∷ list)) (sym e)

pub line_of : (clocks inputs : ℕ) (values : List ℕ) (k : ℕ) → k < clocks → get_or (lines_of clocks inputs values) k [] ≡ take inputs (drop (k * inputs) values)
line_of zero inputs values k l = absurd (omega arith)
line_of (suc clocks) inputs values zero l = let e : 0 ≡ 0 * inputs = omega arith in ap (λ n. take inputs (drop n values)) e
line_of (suc clocks) inputs values (suc k) l =
    let e : inputs + k * inputs ≡ suc k * inputs = omega arith in
    line_of clocks inputs (drop inputs values) k (omega arith) ∙ ap (take inputs) (drop_more (k * inputs) inputs values ∙ ap (λ n. drop n values) e)

pub more_lines : (clocks inputs : ℕ) (values line : List ℕ) → length values ≡ clocks * inputs → length line ≡ inputs
    → lines_of (clocks + 1) inputs (values ++ line) ≡ lines_of clocks inputs values ++ line ∷ []
more_lines zero inputs [] line full is = ap (λ n. take n line ∷ []) (sym is) ∙ ap (λ t. t ∷ []) (take-length line)
more_lines zero inputs (v ∷ values) line full is = absurd (omega arith)
more_lines (suc clocks) inputs values line full is =
    let long : inputs ≤ length values = omega (arith, mul_more clocks inputs) in
    let first = take-append-le inputs values line long in
    let behind = drop-append-le inputs values line long in
    let h = more_lines clocks inputs (drop inputs values) line (omega (arith, length-drop inputs values, mul_more clocks inputs)) is in
    let one : suc clocks + 1 ≡ suc (clocks + 1) = omega arith in
    ap (λ n. lines_of n inputs (values ++ line)) one
    ∙ (λ i. first i ∷ lines_of (clocks + 1) inputs (behind i))
    ∙ ap (λ t. take inputs values ∷ t) h
  where
    mul_more : (c n : ℕ) → suc c * n ≡ n + c * n
    mul_more c n = omega arith

-- the numbers of a line are among those that are kept
pub line_within : (k clocks inputs : ℕ) → k < clocks → k * inputs + inputs ≤ clocks * inputs
line_within k clocks inputs l = let e : (k + 1) * inputs ≡ k * inputs + inputs = omega arith in let m : k + 1 ≤ clocks = omega arith in omega (arith, mul-le-mul_right inputs m)

line_length : (widths bytes values rest : List ℕ) → BeginsLine widths bytes values rest → length values ≡ length widths
line_length widths bytes values rest (ended inputs is) = inputs.count
line_length widths bytes values rest (last inputs is some end) = inputs.count

-- so many lines in front of the bytes were read and are kept in one list
pub record Kept (widths bytes : List ℕ) (clocks : ℕ) (values rest : List ℕ) : Type 0 where
  pub front : BeginsLines widths bytes (lines_of clocks (length widths) values) rest
  pub full : length values ≡ clocks * length widths
  pub few : clocks + length rest ≤ length bytes

pub Kept-start : (widths bytes : List ℕ) → Kept widths bytes 0 [] bytes
Kept-start widths bytes = record { front = refl; full = omega arith; few = omega arith }

pub Kept-more : {widths bytes : List ℕ} {clocks : ℕ} {old new rest behind : List ℕ} → Kept widths bytes clocks old rest → ReadsLine widths rest old new behind → Kept widths bytes (clocks + 1) new behind
Kept-more {widths} {bytes} {clocks} {old} {new} {rest} {behind} h r =
    let long = line_length widths rest r.values behind r.line in
    let lines = more_lines clocks (length widths) old r.values h.full long in
    let moved = lines_more widths bytes (lines_of clocks (length widths) old) rest r.values behind h.front r.line in
    let one : (clocks + 1) * length widths ≡ clocks * length widths + length widths = omega arith in
    record {
      front = subst (λ t. BeginsLines widths bytes (lines_of (clocks + 1) (length widths) t) behind) (sym r.added) (subst (λ t. BeginsLines widths bytes t behind) (sym lines) moved);
      full = let full = h.full in omega (arith, ap length r.added, length-append old r.values);
      few = let few = h.few in omega (arith, shorter_behind widths rest r.values behind r.line);
    }

pub Kept-end : {widths bytes : List ℕ} {clocks : ℕ} {values rest : List ℕ} → Kept widths bytes clocks values rest → rest ≡ [] → StimText bytes widths (lines_of clocks (length widths) values)
Kept-end {widths} {bytes} {clocks} {values} h end = subst (λ t. BeginsLines widths bytes (lines_of clocks (length widths) values) t) end h.front

pub Kept-bad : {widths bytes : List ℕ} {clocks : ℕ} {values rest : List ℕ} → Kept widths bytes clocks values rest → rest ≢ [] → HasNoLine widths rest → IsBadLine bytes widths (clocks + 1)
Kept-bad {widths} {bytes} {clocks} {values} {rest} h some missing = record {
  lines = lines_of clocks (length widths) values;
  rest = rest;
  front = h.front;
  number = let n = clocks_of clocks (length widths) values in omega arith;
  more = some;
  broken = missing;
}

-- a line of the lines that are kept, as a part of the list
pub kept_within : (clocks inputs : ℕ) (values : List ℕ) (lines : List (List ℕ)) (k : ℕ) → lines_of clocks inputs values ≡ lines → length values ≡ clocks * inputs → k < length lines
    → k * inputs + inputs ≤ length values
kept_within clocks inputs values lines k is full l =
    let m : k < clocks = omega (arith, ap length is, clocks_of clocks inputs values) in omega (arith, line_within k clocks inputs m)

pub kept_line : (clocks inputs : ℕ) (values : List ℕ) (lines : List (List ℕ)) (k n : ℕ) → lines_of clocks inputs values ≡ lines → k < length lines → n ≡ inputs
    → take n (drop (k * inputs) values) ≡ get_or lines k []
kept_line clocks inputs values lines k n is l same =
    let m : k < clocks = omega (arith, ap length is, clocks_of clocks inputs values) in
    ap (λ i. take i (drop (k * inputs) values)) same ∙ sym (line_of clocks inputs values k m) ∙ ap (λ t. get_or t k []) is
