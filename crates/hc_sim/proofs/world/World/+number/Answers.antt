-- Each part of an expression has a type, and each object that is read is there.
use Rattle.std.proofs.Common.{rules}
use Rattle.hc_core.specs.declared.expr.Expr.{the_lemmas}
use Rattle.hc_sim.specs.Seen.{seen}
use Rattle.hc_sim.proofs.Forms as f
use Rattle.hc_sim.proofs.world.World.+number.Goals as goal

pub held-requires : goal.held-requires
held-requires t c = record { readable = c.requires.readable; placed = f.reg_placed (seen c.args.self.now) c.requires.readable.readable c.args.e.now c.requires.typed _ c.in-Reg.is }

pub number-at-requires : goal.number-at-requires
number-at-requires t c =
    (search (rules, the_lemmas), (c.requires.readable, rw c.get-index.ensures (f.element_index (seen c.args.self.now) c.requires.readable.readable c.args.e.now c.requires.typed _ _ c.in-Element.is)))

pub held-requires-in-Element : goal.held-requires-in-Element
held-requires-in-Element t c = record { readable = c.requires.readable; placed = f.element_placed (seen c.args.self.now) c.requires.readable.readable c.args.e.now c.requires.typed _ _ c.in-Element.is }

pub number-word-requires : goal.number-word-requires
number-word-requires t c =
    (search (rules, the_lemmas), (c.requires.readable, rw c.get-address.ensures (f.word_index (seen c.args.self.now) c.requires.readable.readable c.args.e.now c.requires.typed _ _ c.in-Word.is)))

pub held-requires-in-Word : goal.held-requires-in-Word
held-requires-in-Word t c = record { readable = c.requires.readable; placed = f.word_placed (seen c.args.self.now) c.requires.readable.readable c.args.e.now c.requires.typed _ _ c.in-Word.is }

pub signal-requires : goal.signal-requires
signal-requires t c = record { readable = c.requires.readable; placed = f.signal_placed (seen c.args.self.now) c.requires.readable.readable c.args.e.now c.requires.typed _ c.in-Signal.is }

pub input-requires : goal.input-requires
input-requires t c = record {
  readable = c.requires.readable;
  placed = f.input_placed (seen c.args.self.now) c.requires.readable.readable c.args.e.now c.requires.typed _ c.in-Input.is;
  fits = f.input_fits (seen c.args.self.now) c.requires.readable.readable c.args.e.now c.requires.typed _ c.in-Input.is;
}

pub number-n-requires : goal.number-n-requires
number-n-requires t c =
    (search (rules, the_lemmas), (c.requires.readable, rw c.get-operand.ensures (f.operand (seen c.args.self.now) c.requires.readable.readable c.args.e.now c.requires.typed _ _ c.in-Unary.is)))

pub number-p-requires : goal.number-p-requires
number-p-requires t c =
    (search (rules, the_lemmas), (c.requires.readable, rw c.get-x.ensures (f.first_operand (seen c.args.self.now) c.requires.readable.readable c.args.e.now c.requires.typed _ _ _ c.in-Binary.is)))

pub number-q-requires : goal.number-q-requires
number-q-requires t c =
    (search (rules, the_lemmas), (c.requires.readable, rw c.get-y.ensures (f.second_operand (seen c.args.self.now) c.requires.readable.readable c.args.e.now c.requires.typed _ _ _ c.in-Binary.is)))

pub binary-requires : goal.binary-requires
binary-requires t c =
    rw (c.number-p.ensures, c.number-q.ensures, c.get-x.ensures, c.get-y.ensures) (f.operands_fit (seen c.args.self.now) c.requires.readable.readable c.args.e.now c.requires.typed _ _ _ c.in-Binary.is)

pub number-m-requires : goal.number-m-requires
number-m-requires t c =
    (search (rules, the_lemmas), (c.requires.readable, rw c.get-whole.ensures (f.sliced (seen c.args.self.now) c.requires.readable.readable c.args.e.now c.requires.typed _ _ _ c.in-Slice.is)))

pub slice-requires-clause-order : goal.slice-requires-clause-order
slice-requires-clause-order t c = f.sliced_order (seen c.args.self.now) c.requires.readable.readable c.args.e.now c.requires.typed _ _ _ c.in-Slice.is

pub slice-requires-clause-inside : goal.slice-requires-clause-inside
slice-requires-clause-inside t c =
    rw (c.number-m.ensures, c.get-whole.ensures) (f.sliced_within (seen c.args.self.now) c.requires.readable.readable c.args.e.now c.requires.typed _ _ _ c.in-Slice.is)

pub number-decides-requires : goal.number-decides-requires
number-decides-requires t c =
    (search (rules, the_lemmas), (c.requires.readable, rw c.get-condition.ensures (f.chosen_by (seen c.args.self.now) c.requires.readable.readable c.args.e.now c.requires.typed _ _ _ c.in-Choice.is)))

pub number-requires : goal.number-requires
number-requires t c =
    (search (rules, the_lemmas), (c.requires.readable, rw c.get-yes.ensures (f.first_side (seen c.args.self.now) c.requires.readable.readable c.args.e.now c.requires.typed _ _ _ c.in-Choice.is)))

pub number-requires-else-holds : goal.number-requires-else-holds
number-requires-else-holds t c =
    (search (rules, the_lemmas), (c.requires.readable, rw c.get-no.ensures (f.second_side (seen c.args.self.now) c.requires.readable.readable c.args.e.now c.requires.typed _ _ _ c.in-Choice.is)))
