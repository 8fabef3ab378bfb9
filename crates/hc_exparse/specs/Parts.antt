-- What stands behind the beginning of an expression, and what it makes of the beginning.
use Rattle.std.specs.Prelude.{Option, Some, None}
use Rattle.hc_tree.specs.declared.name.Ident.{Ident}
use Rattle.hc_tree.specs.declared.place.Place.{Place}
use Rattle.hc_tree.specs.declared.expr.ExprTree.{ExprTree}
use Rattle.hc_tree.specs.declared.expr.ExprTree.TheVariants as e
use Rattle.hc_tree.specs.declared.expr.«Type».{«Type»}
use Rattle.hc_tree.specs.declared.expr.«Type».TheVariants as type
use Rattle.hc_tree.specs.declared.expr.Size.{Size}
use Rattle.hc_exparse.specs.declared.part.NameTail.{NameTail}
use Rattle.hc_exparse.specs.declared.part.NameTail.TheVariants.{Alone, Call, Port}
use Rattle.hc_exparse.specs.declared.part.TypeHead.{TypeHead}
use Rattle.hc_exparse.specs.declared.part.TypeHead.TheVariants.{Unsigned, Int, Signed}

-- both values of a choice, or nothing
abbrev pub choice_part : Option (ExprTree × ExprTree) → Place → ExprTree → ExprTree
choice_part None at c = c
choice_part (Some (a, b)) at c = e.Choice at c a b

-- an index, or with a low end a bit range
abbrev pub bits_part : Option ExprTree → Place → ExprTree → ExprTree → ExprTree
bits_part None at a i = e.Index at a i
bits_part (Some low) at a high = e.Bits at a high low

-- a name alone, a call, or a port
abbrev pub name_part : NameTail → Ident → ExprTree
name_part Alone x = e.Name x
name_part (Call arguments) x = e.Call x arguments
name_part (Port port) x = e.Port x port

-- a type, by the words before its size
abbrev pub type_part : TypeHead → Place → Size → «Type»
type_part (Unsigned is_int) at n = type.Unsigned at is_int n
type_part (Int is_signed) at n = type.Int at is_signed n
type_part Signed at n = type.Signed at n
