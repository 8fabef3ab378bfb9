use Rattle.std.proofs.Common.{ap, sym, ◌∙◌, arith}
use Rattle.std.proofs.lemmas.Bool.{ne_eqb}
use Rattle.hc_core.specs.Read.{expression}
use Rattle.hc_core.specs.Typed.{kinds_of}
use Rattle.hc_core.proofs.Read.{read_Const}
use Rattle.hc_net.specs.MadeLemmas.{Adds-room}
use Rattle.hc_value.proofs.Fixed.{not_constant}
use Rattle.hc_control.proofs.ReadsNets.{has_nets}
use Rattle.hc_control.proofs.Tested.{tested_zero, tested_one, tested_value, some_bit, constant_only}
use Rattle.hc_control.proofs.condition.condition.Goals as goal

pub value-requires : goal.value-requires
value-requires c =
    let can = c.requires.test in
    record {
      sound = can.reads.sound;
      typed = can.typed;
      constants = can.reads.places.constants;
      nets = has_nets (kinds_of c.args.core.now.objects) c.args.b.now.nodes c.args.at.now can.reads.places (expression c.args.e.now) can.typed.0 can.typed.1 can.typed.2 can.built;
      room = let room = c.requires.room in omega arith;
    }

pub truth-requires : goal.truth-requires
truth-requires c =
    let can = c.requires.test in
    let width = c.in_ok-x-in_default.ensures.width in
    record {
      nets = c.in_ok-x-in_default.ensures.circuit.there;
      width = omega (arith, width, some_bit (kinds_of c.args.core.now.objects) (expression c.args.e.now) can.reads.sound can.typed);
      room = let room = c.requires.room in omega (arith, width, Adds-room c.in_ok-x-in_default.ensures.circuit.adds);
    }

pub returns-then-bits-eq0 : goal.returns-then-bits-eq0
returns-then-bits-eq0 c =
    tested_zero (kinds_of c.args.core.now.objects) c.args.at.now c.args.b.now (expression c.args.e.now) c.in-Const.n (ap expression c.in-Const.is ∙ read_Const c.in-Const.n)
    (sym c.bits.ensures.bits ∙ c.if-bits-eq0.true) c.requires.test.reads

pub returns-else-bits-eq0 : goal.returns-else-bits-eq0
returns-else-bits-eq0 c =
    tested_one (kinds_of c.args.core.now.objects) c.args.at.now c.args.b.now (expression c.args.e.now) c.in-Const.n (ap expression c.in-Const.is ∙ read_Const c.in-Const.n)
    (ne_eqb c.in-Const.n.bits 0 (λ is. c.if-bits-eq0.false (c.bits.ensures.bits ∙ is))) c.requires.test.reads

pub returns-in_ok-bit-in_default : goal.returns-in_ok-bit-in_default
returns-in_ok-bit-in_default c =
    rw c.as_slice.ensures
    (tested_value (kinds_of c.args.core.now.objects) c.args.at.now (expression c.args.e.now) c.args.b.now c.value.new.b c.truth.new.b c.in_ok-x-in_default.x c.in_ok-bit-in_default.bit
    c.requires.test
    (λ always. constant_only (expression c.args.e.now) always (λ n is. not_constant c.args.e.now n (λ m same. c.in_default.not-Const m same) is))
    c.in_ok-x-in_default.ensures.width c.in_ok-x-in_default.ensures.circuit c.in_ok-bit-in_default.ensures.width c.in_ok-bit-in_default.ensures.circuit)
