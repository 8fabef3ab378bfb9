use Rattle.hc_expand.proofs.Cores.{answers_tree, expands, stops, accepts, refuses, sound_tree}
use Rattle.hc_expand.proofs.program.expand.Goals as goal

pub returns-clause-core : goal.returns-clause-core
returns-clause-core c = expands c.args.tree.now c.expanded.result (answers_tree c.args.tree.now c.as_slice.result.now c.expanded.result c.as_slice.ensures c.expanded.ensures.answers)

pub returns-clause-refused : goal.returns-clause-refused
returns-clause-refused c = stops c.args.tree.now c.expanded.result (answers_tree c.args.tree.now c.as_slice.result.now c.expanded.result c.as_slice.ensures c.expanded.ensures.answers)

pub returns-clause-accepts : goal.returns-clause-accepts
returns-clause-accepts c = λ core other.
    accepts c.args.tree.now core c.expanded.result (answers_tree c.args.tree.now c.as_slice.result.now c.expanded.result c.as_slice.ensures c.expanded.ensures.answers) other

pub returns-clause-refuses : goal.returns-clause-refuses
returns-clause-refuses c = λ r other.
    refuses c.args.tree.now r c.expanded.result (answers_tree c.args.tree.now c.as_slice.result.now c.expanded.result c.as_slice.ensures c.expanded.ensures.answers) other

pub returns-clause-sound : goal.returns-clause-sound
returns-clause-sound c =
    sound_tree c.args.tree.now c.expanded.result (answers_tree c.args.tree.now c.as_slice.result.now c.expanded.result c.as_slice.ensures c.expanded.ensures.answers)
    c.expanded.ensures.sound
