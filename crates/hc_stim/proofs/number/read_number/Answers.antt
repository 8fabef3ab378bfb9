use Rattle.std.proofs.Common.{◌≡◌, ℕ, List, ◌++◌, ◌∙◌, ap, subst, decimal, MatchOption}
use Rattle.hc_stim.specs.Reading.{HasNoNumber, IsNumber}
use Rattle.hc_stim.proofs.Decimals.{no_digit, first_digit}
use Rattle.hc_stim.proofs.number.read_number.Goals as goal

pub returns-in-Some : goal.returns-in-Some
returns-in-Some c =
    let d = c.in-Some.ensures in
    let is : decimal c.from.result ++ c.in-Some.rest.now ≡ c.args.bytes.now = ap (λ n. decimal n ++ c.in-Some.rest.now) c.from.ensures ∙ first_digit _ _ _ d.text d.low d.high in
    subst (λ (t : List ℕ). MatchOption c.read_digits.result (HasNoNumber t) (λ p. IsNumber t p.0 p.1.now)) is c.read_digits.ensures

pub returns-in-None : goal.returns-in-None
returns-in-None c = no_digit _ c.in-None.ensures
