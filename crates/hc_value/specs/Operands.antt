-- Circuits over operands, which are nets that hold a number with or without a sign.
use Rattle.std.specs.Prelude.{◌≡◌, ◌<◌, ℕ, ◌+◌, ◌^◌, List, ◌++◌, length, Bool, false}
use Rattle.hc_num.specs.Number.{Number}
use Rattle.hc_core.specs.Program.{Expression}
use Rattle.hc_core.specs.Typed.{HasSomeType, Group, Arithmetic, Division, Bitwise, Comparison, Shifting, Joining, Taking, Dropping, Logic, group_of, group_width, group_sign, unary_width, unary_sign, width_of, sign_of}
use Rattle.hc_core.specs.Weigh.{AreSound}
use Rattle.hc_core.specs.Weight.{unary_weight, binary_weight, expression_weight}
use Rattle.hc_core.specs.declared.expr.UnOp.{UnOp}
use Rattle.hc_core.specs.declared.expr.BinOp.{BinOp}
use Rattle.hc_core.specs.declared.object.Kind.{Kind}
use Rattle.hc_meaning.specs.Value.{unary, binary}
use Rattle.hc_net.specs.Circuit.{Circuit}
use Rattle.hc_net.specs.Made.{Makes}
use Rattle.hc_bits.specs.Held.{held}
use Rattle.hc_value.specs.Objects.{HasConstants}
use Rattle.hc_value.specs.Reads.{HasNets, MakesValue}
use Rattle.hc_value.specs.declared.objects.ObjectNets.{ObjectNets}
use Rattle.hc_value.specs.declared.operand.Operand.{Operand}

-- the number that an operand holds, by the bit of each net
abbrev pub number_on : (ℕ → Bool) → Operand → Number
number_on v x = held x.signed v x.nets

-- two operands of one type
pub record Alike (x y : Operand) : Type 0 where
  pub width : length y.nets ≡ length x.nets
  pub signed : y.signed ≡ x.signed

-- What a circuit for an operator of a group wants of its operands: one type where the operator does. A take and a drop have
-- no circuit.
abbrev pub Fits : Group → Operand → Operand → Type 0
Fits Arithmetic x y = Alike x y
Fits Division x y = Alike x y
Fits Bitwise x y = Alike x y
Fits Comparison x y = Alike x y
Fits Shifting x y = Unit {0}
Fits Joining x y = Unit {0}
Fits Taking x y = ⊥
Fits Dropping x y = ⊥
Fits Logic x y = Unit {0}

-- the circuit of an operator before its operand
pub record MakesUnary (op : UnOp) (x : Operand) (old new : Circuit) (z : Operand) : Type 0 where
  pub width : length z.nets ≡ unary_width op (length x.nets)
  pub signed : z.signed ≡ unary_sign op x.signed
  pub made : Makes (unary_weight op (length x.nets)) x.nets old new z.nets (λ v. number_on v z ≡ unary op (number_on v x))

-- the circuit of an operator between two operands, of which the second is no constant that counts
pub record MakesBinary (op : BinOp) (x y : Operand) (old new : Circuit) (z : List ℕ) : Type 0 where
  pub width : (n : ℕ) → length z ≡ group_width (group_of op) (length x.nets) (length y.nets) n
  pub made : Makes (binary_weight op false (length x.nets) (length y.nets)) (x.nets ++ y.nets) old new z
      (λ v. held (group_sign (group_of op) x.signed) v z ≡ binary op (number_on v x) (number_on v y))

-- an expression for whose circuit all is there: its type, the nets that it reads, and room for its gates
pub record CanValue (kinds : List Kind) (at : ObjectNets) (c : Circuit) (e : Expression) : Type 0 where
  pub sound : AreSound kinds
  pub typed : HasSomeType kinds e
  pub constants : HasConstants (length c.nodes) at
  pub nets : HasNets kinds at (length c.nodes) e
  pub room : length c.nodes + expression_weight kinds e < 2 ^ 32

-- an operand of the type of an expression that holds its number
pub record IsValue (kinds : List Kind) (at : ObjectNets) (e : Expression) (old new : Circuit) (x : Operand) : Type 0 where
  pub width : length x.nets ≡ width_of kinds e
  pub signed : x.signed ≡ sign_of kinds e
  pub made : MakesValue kinds at e old new x.nets
