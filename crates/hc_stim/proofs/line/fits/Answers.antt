use Rattle.std.proofs.Common.{rules, ◌≡◌, ◌/◌, ◌*◌, ◌^◌, ap, arith}
use Rattle.std.proofs.lemmas.Nat.{pow_pos}
use Rattle.std.proofs.Math.Nat.{lt-div-mul-add, div-eq_of_lt}
use Rattle.hc_stim.proofs.line.fits.Goals as goal

pub returns-else-width-eq128 : goal.returns-else-width-eq128
returns-else-width-eq128 c =
    let some = pow_pos c.args.width in (
      λ h. let none : c.args.value / 2 ^ c.args.width ≡ 0 = search rules in omega (arith, lt-div-mul-add {a = c.args.value} some, ap (λ x. x * 2 ^ c.args.width) none),
      λ h. let none : c.args.value / 2 ^ c.args.width ≡ 0 = div-eq_of_lt h in search rules,
    )
