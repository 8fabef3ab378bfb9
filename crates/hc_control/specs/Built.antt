-- The forms of statements and expressions that are built so far: every expression without words of RAMs and without signals,
-- assignments to registers and elements, and every statement without channels. Which form comes first that isn't built is this
-- project's own.
use Rattle.std.specs.Prelude.{ℕ, Bool, true, false, not, ◌&&◌, Option, None}
use Rattle.hc_tree.specs.declared.place.Place.{Place}
use Rattle.hc_core.specs.Program.{Expression, Constant, Register, Element, Word, Signal, Input, Unary, Binary, Slice, Choice, Target, ToRegister, ToElement, ToWord, ToSignal, Statement, Skip, Assign, Delay, Send, Receive, Prialt, PrialtElse, Seq, Par, If, While, DoWhile, Switch, Statements, Arms}
use Rattle.hc_core.specs.FirstPlace.{first_where, first_in, first_in_arms}
use Rattle.hc_core.specs.Rules.{Found, nameless}

-- an expression that reads no word of a RAM and no signal
abbrev pub is_built_expression : Expression → Bool
is_built_expression (Constant n) = true
is_built_expression (Register k) = true
is_built_expression (Element k i) = is_built_expression i
is_built_expression (Word k i) = false
is_built_expression (Signal k) = false
is_built_expression (Input k) = true
is_built_expression (Unary op a) = is_built_expression a
is_built_expression (Binary op a b) = is_built_expression a && is_built_expression b
is_built_expression (Slice a high low) = is_built_expression a
is_built_expression (Choice c a b) = is_built_expression c && (is_built_expression a && is_built_expression b)

-- a register, or an element with an index that is built
abbrev pub is_built_target : Target → Bool
is_built_target (ToRegister k) = true
is_built_target (ToElement k i) = is_built_expression i
is_built_target (ToWord k i) = false
is_built_target (ToSignal k) = false

-- a statement of a form that isn't built, or with an expression of its own that isn't
abbrev pub unbuilt_form : Statement → Found
unbuilt_form Skip = None
unbuilt_form (Assign place t e) = nameless (not (is_built_target t && is_built_expression e))
unbuilt_form (Delay place) = None
unbuilt_form (Send place chan e) = nameless true
unbuilt_form (Receive place chan t) = nameless true
unbuilt_form (Prialt place cases) = nameless true
unbuilt_form (PrialtElse place cases rest) = nameless true
unbuilt_form (Seq place parts) = None
unbuilt_form (Par place branches) = None
unbuilt_form (If place c a b) = nameless (not (is_built_expression c))
unbuilt_form (While place c body) = nameless (not (is_built_expression c))
unbuilt_form (DoWhile place body c) = nameless (not (is_built_expression c))
unbuilt_form (Switch place e arms) = nameless (not (is_built_expression e))

-- the first statement that isn't built, in a statement, in parts, and in arms
abbrev pub unbuilt_statement : Statement → Option (Place × Option ℕ)
unbuilt_statement s = first_where unbuilt_form s

abbrev pub unbuilt_parts : Statements → Option (Place × Option ℕ)
unbuilt_parts list = first_in unbuilt_form list

abbrev pub unbuilt_arms : Arms → Option (Place × Option ℕ)
unbuilt_arms arms = first_in_arms unbuilt_form arms
