use Rattle.std.proofs.Common.{◌≡◌, ◌++◌, ◌∙◌, List, ap, sym}
use Rattle.std.proofs.lemmas.List.{append-nil}
use Rattle.hc_words.specs.Words.{listed}
use Rattle.hc_words.specs.Said.{entry_of, waiting}
use Rattle.hc_words.proofs.Saying.{two_at, pick_more}
use Rattle.hc_words.proofs.said.only.Goals as goal
use Rattle.hc_words.proofs.said.only.Goals.{in-Some-None, in-None-default}

pub returns-in-Some-Some : goal.returns-in-Some-Some
returns-in-Some-Some c =
    let now = rw c.in-Some-Some.is-0 at c.picked_of.ensures in
    let before = rw c.in-Some-Some.is-1 at c.loop-entry.invariant in
    two_at entry_of (waiting c.args.name) _ c.loop-entry.entry-index _ c.loop-entry-test.true _ _ before now

pub loop-entry-preserved : goal.loop-entry-preserved
loop-entry-preserved c =
    elim c.match-picked_of.branch [
      | in-Some-None w ↦
          pick_more entry_of (waiting c.args.name) _ c.loop-entry.entry-index _ c.loop-entry-test.true _ _ _ c.loop-entry.invariant c.picked_of.ensures
          (rw (w.found-is, w.in-Some-None.is-0, w.in-Some-None.is-1))
      | in-None-default w ↦
          pick_more entry_of (waiting c.args.name) _ c.loop-entry.entry-index _ c.loop-entry-test.true _ _ _ c.loop-entry.invariant c.picked_of.ensures
          (rw (w.found-is, w.in-None-default.is-0) (sym (append-nil _)))
    ]
