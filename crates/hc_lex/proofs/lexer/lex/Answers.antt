use Rattle.std.proofs.Common.{sym}
use Rattle.std.proofs.lemmas.List.{take_rest}
use Rattle.hc_lex.proofs.Reached.{reached-end, reached-skip, reached-token, stopped, bad}
use Rattle.hc_lex.specs.Place.{start}
use Rattle.hc_lex.proofs.Either.{no_refusal}
use Rattle.hc_lex.proofs.lexer.lex.Goals as goal

pub returns-in-End-clause-reads : goal.returns-in-End-clause-reads
returns-in-End-clause-reads c =
    rw c.new.ensures (reached-end c.args.bytes.now c.loop-list.place c.loop-list.rest.now c.loop-list.list c.loop-list.invariant (sym c.in-End.ensures.value))

pub returns-in-Bad-clause-refused : goal.returns-in-Bad-clause-refused
returns-in-Bad-clause-refused c =
    bad c.refused.result c.args.bytes.now c.loop-list.place c.loop-list.rest.now c.loop-list.list c.loop-list.invariant (sym c.in-Bad.ensures.value) c.refused.ensures

pub loop-list-preserved-in-Skip : goal.loop-list-preserved-in-Skip
loop-list-preserved-in-Skip c =
    let rest = c.loop-list.rest.now in
    let len = c.in-Skip.len in
    reached-skip c.args.bytes.now c.loop-list.place rest c.loop-list.list len c.place_behind-place.result _ c.loop-list.invariant (sym c.in-Skip.ensures.value)
    c.place_behind-place.ensures.value (take_rest rest len) c.in-Skip.ensures.within.1 c.place_behind-place.ensures.room

pub returns-in-Err-clause-refused : goal.returns-in-Err-clause-refused
returns-in-Err-clause-refused c =
    stopped c.in-Err.e c.args.bytes.now c.loop-list.place c.loop-list.rest.now c.loop-list.list c.in-Token.kind c.in-Token.len c.len.result c.loop-list.invariant
    (sym c.in-Token.ensures.value) c.len.ensures c.in-Err.ensures.err

pub loop-list-preserved : goal.loop-list-preserved
loop-list-preserved c =
    let rest = c.loop-list.rest.now in
    let len = c.in-Token.len in
    reached-token c.args.bytes.now c.loop-list.place rest c.loop-list.list c.push.new.self c.in-Ok.token c.in-Token.kind len c.place_behind-place-in-Token.result _ c.loop-list.invariant
    (sym c.in-Token.ensures.value) c.in-Ok.ensures.ok.0 (rw c.len.ensures at c.in-Ok.ensures.ok.1) c.in-Ok-push.ensures.ok
    c.place_behind-place-in-Token.ensures.value (take_rest rest len) c.in-Token.ensures.within.1 c.place_behind-place-in-Token.ensures.room

pub returns-in-Bad-clause-accepts : goal.returns-in-Bad-clause-accepts
returns-in-Bad-clause-accepts c =
    no_refusal c.refused.result start c.args.bytes.now
    (bad c.refused.result c.args.bytes.now c.loop-list.place c.loop-list.rest.now c.loop-list.list c.loop-list.invariant (sym c.in-Bad.ensures.value) c.refused.ensures)

pub returns-in-Err-clause-accepts : goal.returns-in-Err-clause-accepts
returns-in-Err-clause-accepts c =
    no_refusal c.in-Err.e start c.args.bytes.now
    (stopped c.in-Err.e c.args.bytes.now c.loop-list.place c.loop-list.rest.now c.loop-list.list c.in-Token.kind c.in-Token.len c.len.result c.loop-list.invariant
    (sym c.in-Token.ensures.value) c.len.ensures c.in-Err.ensures.err)
