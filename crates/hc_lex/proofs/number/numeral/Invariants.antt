use Rattle.std.proofs.Common.{◌≡◌, ◌^◌, ◌<◌, length}
use Rattle.std.specs.Prelude.{fold}
use Rattle.std.specs.List.{list_all}
use Rattle.hc_lex.specs.Number.{is_digit_of}
use Rattle.hc_lex.proofs.Digits.{more}
use Rattle.hc_lex.proofs.number.numeral.Given as goal

abbrev pub invariant-loop-run : goal.invariant-loop-run
invariant-loop-run l =
    (fold (more l.base) l.value l.run ≡ fold (more l.base) 0 l.initial.run) × (list_all (is_digit_of l.base) l.run ≡ list_all (is_digit_of l.base) l.initial.run)
    × (l.value < 2 ^ 128)

abbrev pub decreases-loop-run : goal.decreases-loop-run
decreases-loop-run l = length l.run
