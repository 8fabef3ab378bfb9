use Rattle.std.proofs.Common.{ap, ◌∷◌, subst, sym}
use Rattle.hc_stim.specs.Reading.{HasNoNumber}
use Rattle.hc_stim.proofs.Decimals.{leading_zero, zero_number}
use Rattle.hc_stim.proofs.number.read_zero.Goals as goal

pub returns-in-Some : goal.returns-in-Some
returns-in-Some c =
    let d = c.in-Some.ensures in
    subst HasNoNumber (ap (λ t. 48 ∷ t) (sym d.text)) (leading_zero _ _ d.low d.high)

pub returns-in-None : goal.returns-in-None
returns-in-None c = zero_number _ c.in-None.ensures
