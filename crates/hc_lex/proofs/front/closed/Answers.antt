use Rattle.std.proofs.Common.{◌≡◌, ◌+◌, ◌-◌, ◌&&◌, false, length, take, drop, arith, sym, ◌∙◌}
use Rattle.std.specs.Prelude.{◌==◌, slice_index}
use Rattle.std.proofs.lemmas.Grind.{common_steps}
use Rattle.std.proofs.lemmas.Bool.Decides.{nat_tests}
use Rattle.hc_lex.proofs.Comment.{found, goes_on, not_found}
use Rattle.hc_lex.proofs.front.closed.Goals as goal
use Rattle.hc_lex.proofs.front.closed.Goals.{else-b-eq42-via-then-b-eq42+else-byte-eq47, else-b-eq42-via-else-b-eq42}

pub returns-then-byte-eq47-clause-value : goal.returns-then-byte-eq47-clause-value
returns-then-byte-eq47-clause-value c =
    found c.args.text.now c.loop-rest.rest.now c.loop-rest.passed c.loop-rest.invariant.0 c.in-len1-up.len_at_least c.if-b-eq42.true
    (sym c.byte.ensures.value ∙ c.if-byte-eq47.true)

pub loop-rest-preserved : goal.loop-rest-preserved
loop-rest-preserved c =
    let z = c.loop-rest.rest.now in
    let differs : (slice_index z 0 == 42 && slice_index (take (length z - 1) (drop 1 z)) 0 == 47) ≡ false =
    elim c.else-b-eq42.branch [ else-b-eq42-via-then-b-eq42+else-byte-eq47 w ↦ grind (arith, nat_tests, common_steps) | else-b-eq42-via-else-b-eq42 w ↦ grind (arith, nat_tests, common_steps) ]
    in
    let len : c.loop-rest.passed + 1 + length (take (length z - 1) (drop 1 z)) ≡ length c.args.text.now = grind (arith, common_steps) in
    (goes_on c.args.text.now z c.loop-rest.passed c.loop-rest.invariant.0 c.in-len1-up.len_at_least differs, len)

pub returns-clause-value : goal.returns-clause-value
returns-clause-value c = not_found c.args.text.now c.loop-rest.rest.now c.loop-rest.passed c.loop-rest.invariant.0 c.in_default.len_below
