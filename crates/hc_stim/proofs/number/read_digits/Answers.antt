use Rattle.std.proofs.Common.{◌≡◌, ◌<◌, ◌-◌, ◌*◌, ◌+◌, ◌^◌, ℕ, List, arith, ap, ◌++◌, ◌∙◌, subst, sym, decimal}
use Rattle.hc_stim.specs.Reading.{BeginsWithDigit, HasNoNumber}
use Rattle.hc_stim.proofs.Decimals.{digit_moved, too_large}
use Rattle.hc_stim.proofs.number.read_digits.Goals as goal

-- the text with the digit in front of the rest taken over
moved : (all rest after : List ℕ) (v d : ℕ) → 0 < v → v < 2 ^ 128 → all ≡ decimal v ++ rest → BeginsWithDigit rest d after → all ≡ decimal (v * 10 + (d - 48)) ++ after
moved all rest after v d some small is digit = is ∙ ap (λ t. decimal v ++ t) digit.text ∙ digit_moved v d after some small digit.low digit.high

pub returns-in-None : goal.returns-in-None
returns-in-None c =
    let i = c.loop-digit.invariant in
    let d = c.in-Some.ensures in
    let low = d.low in
    let high = d.high in
    let small = i.small in
    let large = c.in-None.ensures in
    subst HasNoNumber (sym (moved _ _ _ _ _ i.some i.small i.text d)) (too_large _ _ large (omega arith))

pub loop-digit-preserved : goal.loop-digit-preserved
loop-digit-preserved c =
    let i = c.loop-digit.invariant in
    let d = c.in-Some.ensures in
    let is = c.in-Some-with_digit.ensures in
    record {
      some = let x = i.some in let y = is.0 in omega arith;
      small = is.1;
      text = moved _ _ _ _ _ i.some i.small i.text d ∙ ap (λ n. decimal n ++ c.in-Some.after.now) (sym is.0);
    }

pub returns : goal.returns
returns c = let i = c.loop-digit.invariant in record { text = i.text; fits = i.small; ends = c.in_default.ensures }
