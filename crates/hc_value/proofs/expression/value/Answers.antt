-- A constant by its own nets, and any other expression by its operand.
use Rattle.hc_core.specs.Read.{expression}
use Rattle.hc_core.specs.Typed.{kinds_of}
use Rattle.hc_value.specs.Operands.{CanValue, IsValue}
use Rattle.hc_value.proofs.Fixed.{not_constant, constant_is}
use Rattle.hc_value.proofs.Parts.{valued_Const}
use Rattle.hc_value.proofs.expression.value.Goals as goal

pub returns-in_ok-z-in-Const : goal.returns-in_ok-z-in-Const
returns-in_ok-z-in-Const c =
    let can : CanValue (kinds_of c.args.core.now.objects) c.args.at.now c.args.b.now (expression c.args.e.now) = record {
      sound = c.requires.sound;
      typed = c.requires.typed;
      constants = c.requires.constants;
      nets = c.requires.nets;
      room = c.requires.room;
    } in
    let is = valued_Const (kinds_of c.args.core.now.objects) c.args.at.now c.args.b.now c.args.e.now c.in-Const.n c.in_ok-z-in-Const.z c.in-Const.is can
    c.in_ok-z-in-Const.ensures.nets c.in_ok-z-in-Const.ensures.signed in
    record {
      width = is.width;
      circuit = is.made;
      constant = λ m other. constant_is c.args.at.now.zero c.args.at.now.one c.args.e.now c.in_ok-z-in-Const.z.nets c.in-Const.n m c.in-Const.is c.in_ok-z-in-Const.ensures.nets other;
    }

pub returns-in_ok-z-in_default : goal.returns-in_ok-z-in_default
returns-in_ok-z-in_default c =
    let is : IsValue (kinds_of c.args.core.now.objects) c.args.at.now (expression c.args.e.now) c.args.b.now c.valued.new.b c.in_ok-z-in_default.z =
    rw c.as_slice.ensures at c.in_ok-z-in_default.ensures in
    record {
      width = is.width;
      circuit = is.made;
      constant = λ m other. absurd (not_constant c.args.e.now m (λ n same. c.in_default.not-Const n same) other);
    }
