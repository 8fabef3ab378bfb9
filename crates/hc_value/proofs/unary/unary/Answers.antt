use Rattle.hc_value.proofs.Operators.{negated, inverted, zero_tested, made_signed, made_unsigned}
use Rattle.hc_value.proofs.unary.unary.Goals as goal

pub returns-in_ok-nets-in-Neg : goal.returns-in_ok-nets-in-Neg
returns-in_ok-nets-in-Neg c =
    let made = c.in_ok-nets-in-Neg.ensures in
    negated c.args.op c.args.b.now c.negate.new.b c.args.x.nets c.in_ok-nets-in-Neg.nets c.args.x.signed c.in-Neg.is made.width made.circuit

pub returns-in_ok-nets-in-Not : goal.returns-in_ok-nets-in-Not
returns-in_ok-nets-in-Not c =
    let made = c.in_ok-nets-in-Not.ensures in
    inverted c.args.op c.args.b.now c.invert.new.b c.args.x.nets c.in_ok-nets-in-Not.nets c.args.x.signed c.in-Not.is made.width made.circuit

pub returns-in_ok-nets-in-IsZero : goal.returns-in_ok-nets-in-IsZero
returns-in_ok-nets-in-IsZero c =
    let made = c.in_ok-nets-in-IsZero.ensures in
    zero_tested c.args.op c.args.b.now c.is_zero.new.b c.args.x.nets c.in_ok-nets-in-IsZero.nets c.args.x.signed c.in-IsZero.is made.width made.circuit

pub returns-in-ToSigned : goal.returns-in-ToSigned
returns-in-ToSigned c = made_signed c.args.op c.args.b.now c.args.x.nets c.args.x.signed c.in-ToSigned.is c.requires.nets

pub returns-in-ToUnsigned : goal.returns-in-ToUnsigned
returns-in-ToUnsigned c = made_unsigned c.args.op c.args.b.now c.args.x.nets c.args.x.signed c.in-ToUnsigned.is c.requires.nets
