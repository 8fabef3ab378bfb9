use Rattle.std.proofs.Common.{sym, ◌∙◌}
use Rattle.std.proofs.lemmas.Result.{IfOk-weaker}
use Rattle.hc_token.proofs.SideBySide.{idled, joined, joined_never, passes_there, ready, some_of, none_of, stands_open}
use Rattle.hc_token.proofs.parallel.join.Goals as goal

pub returns-then-is_empty-clause-circuit : goal.returns-then-is_empty-clause-circuit
returns-then-is_empty-clause-circuit c =
    IfOk-weaker c.idle.result _ _
    (λ ends made. idled c.args.token c.args.start c.args.branches.now c.args.b.now c.idle.new.b ends (none_of _ (sym c.is_empty.ensures ∙ c.if-is_empty.true)) made)
    c.idle.ensures

pub all-requires-clause-nets : goal.all-requires-clause-nets
all-requires-clause-nets c = passes_there c.args.b.now c.args.branches.now c.in_ok-passes.passes c.in_ok-passes.ensures c.requires.branches

pub wait-requires-clause-pass : goal.wait-requires-clause-pass
wait-requires-clause-pass c =
    (ready c.args.token c.args.start c.in_ok-pass.pass c.args.branches.now c.in_ok-passes.passes c.in_ok-finishes.finishes c.in_ok-latches.latches c.args.b.now c.all.new.b c.add_latches.new.b
    c.in_ok-passes.ensures c.in_ok-finishes.ensures (some_of _ (sym c.is_empty.ensures ∙ c.if-is_empty.false)) c.requires.branches c.requires.start c.requires.room c.in_ok-pass.ensures.circuit c.in_ok-latches.ensures).pass_there

pub wait-requires-clause-passes : goal.wait-requires-clause-passes
wait-requires-clause-passes c =
    (ready c.args.token c.args.start c.in_ok-pass.pass c.args.branches.now c.in_ok-passes.passes c.in_ok-finishes.finishes c.in_ok-latches.latches c.args.b.now c.all.new.b c.add_latches.new.b
    c.in_ok-passes.ensures c.in_ok-finishes.ensures (some_of _ (sym c.is_empty.ensures ∙ c.if-is_empty.false)) c.requires.branches c.requires.start c.requires.room c.in_ok-pass.ensures.circuit c.in_ok-latches.ensures).passes_there

pub wait-requires-clause-finishes : goal.wait-requires-clause-finishes
wait-requires-clause-finishes c =
    (ready c.args.token c.args.start c.in_ok-pass.pass c.args.branches.now c.in_ok-passes.passes c.in_ok-finishes.finishes c.in_ok-latches.latches c.args.b.now c.all.new.b c.add_latches.new.b
    c.in_ok-passes.ensures c.in_ok-finishes.ensures (some_of _ (sym c.is_empty.ensures ∙ c.if-is_empty.false)) c.requires.branches c.requires.start c.requires.room c.in_ok-pass.ensures.circuit c.in_ok-latches.ensures).finishes_there

pub wait-requires-clause-latches : goal.wait-requires-clause-latches
wait-requires-clause-latches c =
    (ready c.args.token c.args.start c.in_ok-pass.pass c.args.branches.now c.in_ok-passes.passes c.in_ok-finishes.finishes c.in_ok-latches.latches c.args.b.now c.all.new.b c.add_latches.new.b
    c.in_ok-passes.ensures c.in_ok-finishes.ensures (some_of _ (sym c.is_empty.ensures ∙ c.if-is_empty.false)) c.requires.branches c.requires.start c.requires.room c.in_ok-pass.ensures.circuit c.in_ok-latches.ensures).latches_there

pub wait-requires-clause-size : goal.wait-requires-clause-size
wait-requires-clause-size c =
    (ready c.args.token c.args.start c.in_ok-pass.pass c.args.branches.now c.in_ok-passes.passes c.in_ok-finishes.finishes c.in_ok-latches.latches c.args.b.now c.all.new.b c.add_latches.new.b
    c.in_ok-passes.ensures c.in_ok-finishes.ensures (some_of _ (sym c.is_empty.ensures ∙ c.if-is_empty.false)) c.requires.branches c.requires.start c.requires.room c.in_ok-pass.ensures.circuit c.in_ok-latches.ensures).size

pub wait-requires-clause-room : goal.wait-requires-clause-room
wait-requires-clause-room c =
    (ready c.args.token c.args.start c.in_ok-pass.pass c.args.branches.now c.in_ok-passes.passes c.in_ok-finishes.finishes c.in_ok-latches.latches c.args.b.now c.all.new.b c.add_latches.new.b
    c.in_ok-passes.ensures c.in_ok-finishes.ensures (some_of _ (sym c.is_empty.ensures ∙ c.if-is_empty.false)) c.requires.branches c.requires.start c.requires.room c.in_ok-pass.ensures.circuit c.in_ok-latches.ensures).room

pub feed_all-requires-clause-width : goal.feed_all-requires-clause-width
feed_all-requires-clause-width c =
    c.in_ok-waiting.ensures.size ∙ sym (ready c.args.token c.args.start c.in_ok-pass.pass c.args.branches.now c.in_ok-passes.passes c.in_ok-finishes.finishes c.in_ok-latches.latches c.args.b.now c.all.new.b c.add_latches.new.b
    c.in_ok-passes.ensures c.in_ok-finishes.ensures (some_of _ (sym c.is_empty.ensures ∙ c.if-is_empty.false)) c.requires.branches c.requires.start c.requires.room c.in_ok-pass.ensures.circuit c.in_ok-latches.ensures).size

pub feed_all-requires-clause-latches : goal.feed_all-requires-clause-latches
feed_all-requires-clause-latches c = record {
  token = c.args.token;
  front = c.all.new.b.nodes;
  back = c.in_ok-waiting.ensures.adds.gates;
  stand = stands_open c.args.token c.args.branches.now c.in_ok-latches.latches c.in_ok-waiting.ensures.adds.gates c.all.new.b c.add_latches.new.b c.wait.new.b c.in_ok-latches.ensures c.in_ok-waiting.ensures.adds.nodes;
}

pub returns-clause-circuit : goal.returns-clause-circuit
returns-clause-circuit c =
    joined c.args.token c.args.start c.in_ok-pass.pass c.args.branches.now c.in_ok-passes.passes c.in_ok-finishes.finishes c.in_ok-latches.latches c.in_ok-waiting.waiting
    c.args.b.now c.all.new.b c.add_latches.new.b c.wait.new.b c.feed_all.new.b
    c.in_ok-passes.ensures c.in_ok-finishes.ensures (some_of _ (sym c.is_empty.ensures ∙ c.if-is_empty.false)) c.in_ok-pass.ensures.circuit c.in_ok-latches.ensures c.in_ok-waiting.ensures
    c.feed_all.ensures.clock c.feed_all.ensures.ports c.feed_all.ensures.fed c.feed_all.ensures.earlier

pub returns-clause-never : goal.returns-clause-never
returns-clause-never c =
    joined_never c.args.token c.args.start c.in_ok-pass.pass c.args.branches.now c.in_ok-passes.passes c.in_ok-finishes.finishes c.in_ok-latches.latches c.in_ok-waiting.waiting
    c.args.b.now c.all.new.b c.add_latches.new.b c.wait.new.b c.feed_all.new.b
    c.in_ok-passes.ensures c.in_ok-finishes.ensures (some_of _ (sym c.is_empty.ensures ∙ c.if-is_empty.false)) c.in_ok-pass.ensures.circuit c.in_ok-latches.ensures c.in_ok-waiting.ensures
    c.feed_all.ensures.clock c.feed_all.ensures.ports c.feed_all.ensures.fed c.feed_all.ensures.earlier
    c.in_ok-pass.ensures.never
