-- What may stand directly behind each form of the language, and its shortest lists of tokens.
use Rattle.std.proofs.Common.{◌≡◌, ℕ, Bool, true, ◌&&◌, List, [], ◌∷◌, ◌++◌, map, codes, Option, Some, None, refl, ap, ◌∙◌, subst, sym}
use Rattle.hc_tree.specs.declared.place.Place.{Place}
use Rattle.hc_lex.specs.declared.token.Token.TheVariants as t
use Rattle.hc_lex.specs.declared.mark.Mark.TheVariants as m
use Rattle.hc_lex.specs.declared.token.Placed.{Placed}
use Rattle.hc_grammar.specs.declared.kind.Kind.{Kind}
use Rattle.hc_grammar.specs.declared.kind.Kind.TheVariants as k
use Rattle.hc_grammar.specs.Kind.{kind, token_kind, word_kind, reserved, quoted}
use Rattle.hc_grammar.specs.Table.{Part, mark, form}
use Rattle.hc_grammar.specs.Form as f
use Rattle.hc_grammar.specs.Form.{Form, Gives, Initial, Never, Maybe, Always}
use Rattle.hc_grammar.specs.Grammar.{grammar}
use Rattle.hc_grammar.specs.LastTable.{and-left, and-right}
use Rattle.hc_grammar.specs.LastEmpty.{may_be_empty, knows_empty}
use Rattle.hc_grammar.proofs.Follow.{Follow, only, all_but, allows, within, within-allows}
use Rattle.hc_grammar.proofs.Endings.{RowFollows, row_next, next_or}

-- ---- a token of each kind

abbrev word_of : Kind → List ℕ
word_of k.Break = codes "break"
word_of k.Case = codes "case"
word_of k.Chan = codes "chan"
word_of k.Default = codes "default"
word_of k.Delay = codes "delay"
word_of k.Do = codes "do"
word_of k.Else = codes "else"
word_of k.External = codes "external"
word_of k.For = codes "for"
word_of k.If = codes "if"
word_of k.IfSelect = codes "ifselect"
word_of k.Int = codes "int"
word_of k.Interface = codes "interface"
word_of k.Macro = codes "macro"
word_of k.Par = codes "par"
word_of k.Prialt = codes "prialt"
word_of k.Ram = codes "ram"
word_of k.Rom = codes "rom"
word_of k.Select = codes "select"
word_of k.Seq = codes "seq"
word_of k.Set = codes "set"
word_of k.Signal = codes "signal"
word_of k.Signed = codes "signed"
word_of k.Static = codes "static"
word_of k.Switch = codes "switch"
word_of k.Unsigned = codes "unsigned"
word_of k.Void = codes "void"
word_of k.While = codes "while"
word_of k.Width = codes "width"
word_of k.With = codes "with"
word_of k.Main = codes "main"
word_of k.Clock = codes "clock"
word_of k.Family = codes "family"
word_of k.Part = codes "part"
word_of k.Expr = codes "expr"
word_of k.Proc = codes "proc"
word_of k.BusIn = codes "bus_in"
word_of k.BusOut = codes "bus_out"
word_of _ = codes "x"

abbrev at_start : Place
at_start = record { line = 1; column = 1 }

abbrev pub token_of : Kind → Placed
token_of (k.Mark m) = record { token = t.Mark m; place = at_start }
token_of k.Number = record { token = t.Number 0; place = at_start }
token_of k.Text = record { token = t.Text []; place = at_start }
token_of word = record { token = t.Word (word_of word); place = at_start }

pub kind_of_token : (kind_is : Kind) → kind (token_of kind_is) ≡ kind_is
unfolding kind token_kind word_kind reserved quoted
kind_of_token (k.Mark m) = refl
kind_of_token _ = refl

-- ---- what may stand behind

-- what goes on with an expression
abbrev pub operators : List Kind
operators =
    k.Mark m.Question ∷ k.Mark m.Take ∷ k.Mark m.Drop ∷ k.Mark m.Star ∷ k.Mark m.Slash ∷ k.Mark m.Percent ∷ k.Mark m.Plus ∷ k.Mark m.Minus ∷ k.Mark m.At ∷ k.Mark m.ShiftLeft ∷ k.Mark m.ShiftRight ∷ k.Mark m.Less ∷ k.Mark m.LessEqual ∷ k.Mark m.Greater ∷ k.Mark m.GreaterEqual ∷ k.Mark m.Equal ∷ k.Mark m.NotEqual ∷ k.Mark m.And ∷ k.Mark m.Xor ∷ k.Mark m.Or ∷ k.Mark m.AndAnd ∷ k.Mark m.OrOr ∷ k.Mark m.ParenOpen ∷ k.Mark m.Dot ∷ k.Mark m.BracketOpen ∷ []

abbrev pub with_operators : List Kind → Follow
with_operators more = all_but (more ++ operators)

-- what begins a declaration or a macro
abbrev pub declarations : List Kind
declarations = k.Macro ∷ k.Static ∷ k.Ram ∷ k.Rom ∷ k.Signal ∷ k.Chan ∷ k.Unsigned ∷ k.Signed ∷ k.Int ∷ []

-- what begins a statement, or belongs to the one before it
abbrev pub statements : List Kind
statements = k.Else ∷ k.Mark m.Semicolon ∷ k.Mark m.BraceOpen ∷ k.Mark m.Increment ∷ k.Mark m.Decrement ∷ k.Seq ∷ k.Par ∷ k.Delay ∷ k.If ∷ k.IfSelect ∷ k.While ∷ k.Do ∷ k.For ∷ k.Switch ∷ k.Prialt ∷ k.Main ∷ k.Clock ∷ k.Family ∷ k.Part ∷ k.Expr ∷ k.Proc ∷ k.BusIn ∷ k.BusOut ∷ k.Name ∷ []

-- what belongs to an arm or a case besides
abbrev pub arms : List Kind
arms = k.Case ∷ k.Default ∷ k.Break ∷ statements

-- what may stand directly behind a form: nothing that a part at its end would take
abbrev pub follow : Form → Follow
follow f.expr = with_operators []
follow f.choice_tail = with_operators []
follow (f.binary x) = with_operators []
follow (f.binary_tail x) = with_operators []
follow f.unary = with_operators []
follow f.paren_tail = with_operators []
follow f.primary = with_operators []
follow f.name_tail = with_operators []
follow f.args = only (k.Mark m.ParenClose ∷ [])
follow f.more_exprs = with_operators (k.Mark m.Comma ∷ [])
follow f.postfix_tail = with_operators []
follow (f.more_vars x) = with_operators (k.Mark m.Assign ∷ k.Mark m.Comma ∷ [])
follow (f.var x) = with_operators (k.Mark m.Assign ∷ [])
follow (f.var_tail x) = with_operators (k.Mark m.Assign ∷ [])
follow (f.mem x) = all_but (k.Mark m.Assign ∷ [])
follow (f.more_mems x) = all_but (k.Mark m.Assign ∷ k.Mark m.Comma ∷ [])
follow (f.mem_init x) = all_but (k.Mark m.Assign ∷ [])
follow f.sig = with_operators (k.Mark m.Assign ∷ [])
follow f.sig_tail = with_operators (k.Mark m.Assign ∷ [])
follow f.more_sigs = with_operators (k.Mark m.Assign ∷ k.Mark m.Comma ∷ [])
follow f.more_names = all_but (k.Mark m.Comma ∷ [])
follow f.with = all_but (k.With ∷ [])
follow f.spec = with_operators []
follow f.more_specs = with_operators (k.Mark m.Comma ∷ [])
follow f.spec_value = with_operators []
follow f.more_texts = all_but (k.Mark m.Comma ∷ [])
follow f.declared = all_but declarations
follow f.stmts = all_but statements
follow f.stmt = all_but (k.Else ∷ [])
follow f.else_tail = all_but (k.Else ∷ [])
follow f.simple = with_operators []
follow f.simple_tail = with_operators []
follow f.opt_simple = only (k.Mark m.Semicolon ∷ k.Mark m.ParenClose ∷ [])
follow f.opt_expr = only (k.Mark m.Semicolon ∷ [])
follow f.target = all_but (k.Mark m.BracketOpen ∷ [])
follow f.index = all_but (k.Mark m.BracketOpen ∷ [])
follow (f.arms x) = all_but arms
follow (f.arm_tail x) = all_but arms
follow (f.arm_end x) = all_but arms
follow f.cases = all_but arms
follow f.offer = with_operators []
follow f.case_end = all_but arms
follow f.more_cases = all_but arms
follow f.other_end = all_but arms
follow f.program = only []
follow f.items = only []
follow f.opt_void = all_but (k.Void ∷ [])
follow f.opt_params = all_but (k.Mark m.ParenOpen ∷ [])
follow f.names = only (k.Mark m.ParenClose ∷ [])
follow _ = all_but []

-- where it has values always, behind it
abbrev values_of : Initial → List Kind
values_of Always = k.Mark m.Assign ∷ k.Mark m.BraceOpen ∷ k.Number ∷ k.Mark m.BraceClose ∷ []
values_of _ = []

abbrev mem_of : Initial → List Kind
mem_of i = k.Name ∷ k.Mark m.BracketOpen ∷ k.Number ∷ k.Mark m.BracketClose ∷ values_of i

-- the kinds of a shortest list of a form
abbrev pub shortest : Form → List Kind
shortest f.name = k.Name ∷ []
shortest f.text = k.Text ∷ []
shortest f.expr = k.Number ∷ []
shortest (f.binary x) = k.Number ∷ []
shortest f.unary = k.Number ∷ []
shortest f.paren_tail = k.Number ∷ k.Mark m.ParenClose ∷ []
shortest f.primary = k.Number ∷ []
shortest f.bits_tail = k.Mark m.BracketClose ∷ []
shortest f.type = k.Int ∷ k.Number ∷ []
shortest f.unsigned_tail = k.Number ∷ []
shortest f.signed_tail = k.Number ∷ []
shortest f.size = k.Number ∷ []
shortest (f.decl x) = k.Int ∷ k.Number ∷ k.Name ∷ k.Mark m.Semicolon ∷ []
shortest f.static_tail = k.Int ∷ k.Number ∷ k.Name ∷ k.Mark m.Semicolon ∷ []
shortest (f.vars_tail x) = k.Int ∷ k.Number ∷ k.Name ∷ k.Mark m.Semicolon ∷ []
shortest (f.var x) = k.Name ∷ []
shortest f.boxed = k.Int ∷ k.Number ∷ []
shortest f.sig = k.Name ∷ []
shortest f.spec = k.Name ∷ k.Mark m.Assign ∷ k.Number ∷ []
shortest f.spec_value = k.Number ∷ []
shortest f.block = k.Mark m.BraceOpen ∷ k.Mark m.BraceClose ∷ []
shortest f.stmt = k.Mark m.Semicolon ∷ []
shortest (f.order_tail x) = k.Mark m.BraceOpen ∷ k.Mark m.BraceClose ∷ []
shortest f.name_stmt_tail = k.Mark m.Increment ∷ k.Mark m.Semicolon ∷ []
shortest f.simple = k.Name ∷ k.Mark m.Increment ∷ []
shortest f.simple_tail = k.Mark m.Increment ∷ []
shortest f.target = k.Name ∷ []
shortest f.assign = k.Mark m.Assign ∷ []
shortest f.cases = k.Case ∷ k.Name ∷ k.Mark m.Not ∷ k.Number ∷ k.Mark m.Colon ∷ []
shortest f.offer = k.Mark m.Not ∷ k.Number ∷ []
shortest f.item = k.Int ∷ k.Number ∷ k.Name ∷ k.Mark m.Semicolon ∷ []
shortest f.set_tail = k.Family ∷ k.Mark m.Assign ∷ k.Name ∷ k.Mark m.Semicolon ∷ []
shortest f.interface_tail = k.BusIn ∷ k.Mark m.ParenOpen ∷ k.Int ∷ k.Number ∷ k.Name ∷ k.Mark m.ParenClose ∷ k.Name ∷ k.Mark m.ParenOpen ∷ k.Mark m.ParenClose ∷ k.Mark m.Semicolon ∷ []
shortest f.macro = k.Macro ∷ k.Expr ∷ k.Name ∷ k.Mark m.Assign ∷ k.Number ∷ k.Mark m.Semicolon ∷ []
shortest f.macro_tail = k.Expr ∷ k.Name ∷ k.Mark m.Assign ∷ k.Number ∷ k.Mark m.Semicolon ∷ []
shortest f.params = k.Mark m.ParenOpen ∷ k.Mark m.ParenClose ∷ []
shortest (f.memories_tail i) = k.Int ∷ k.Number ∷ (mem_of i ++ k.Mark m.Semicolon ∷ [])
shortest (f.mem i) = mem_of i
shortest (f.mem_init i) = values_of i
shortest _ = []

-- ---- the same for rows

abbrev Row : Type 0
Row = List (Part Kind Form)

abbrev or_behind : List Kind → Option Kind → Option Kind
or_behind [] next = next
or_behind (x ∷ xs) next = Some x

-- the kind that stands behind the front of a row for certain
abbrev pub certain : Row → Option Kind
certain [] = None
certain (mark x ∷ row) = Some x
certain (form f ∷ row) = or_behind (shortest f) (certain row)

abbrev pub part_fits : Follow → Form → Option Kind → Bool
part_fits s f None = within s (follow f)
part_fits s f (Some x) = allows (follow f) (Some x)

-- each form of a row may be followed by what stands behind it
abbrev pub row_fits : Follow → Row → Bool
row_fits s [] = true
row_fits s (mark x ∷ row) = row_fits s row
row_fits s (form f ∷ row) = part_fits s f (certain row) && row_fits s row

abbrev pub ending : Form → List Placed
ending f = map token_of (shortest f)

abbrev pub follows : Form → Option Kind → Bool
follows f next = allows (follow f) next

abbrev or_next : Option Kind → Option Kind → Option Kind
or_next None next = next
or_next (Some x) next = Some x

next-shortest : (xs : List Kind) (o next : Option Kind) → next_or grammar may_be_empty knows_empty (map token_of xs) (or_next o next) ≡ or_next (or_behind xs o) next
next-shortest [] o next = refl
next-shortest (x ∷ xs) o next = ap Some (kind_of_token x)

next-certain : (row : Row) (next : Option Kind) → row_next grammar may_be_empty knows_empty ending row next ≡ or_next (certain row) next
next-certain [] next = refl
next-certain (mark x ∷ row) next = refl
next-certain (form f ∷ row) next =
    ap (next_or grammar may_be_empty knows_empty (ending f)) (next-certain row next) ∙ next-shortest (shortest f) (certain row) next

part-follows : (s : Follow) (f : Form) (o next : Option Kind) → part_fits s f o ≡ true → allows s next ≡ true → follows f (or_next o next) ≡ true
part-follows s f None next fits there = within-allows s (follow f) fits next there
part-follows s f (Some x) next fits there = fits

pub row-follows : (s : Follow) (row : Row) → row_fits s row ≡ true → (next : Option Kind) → allows s next ≡ true
    → RowFollows grammar may_be_empty knows_empty ending follows row next
row-follows s [] fits next there = tt
row-follows s (mark x ∷ row) fits next there = row-follows s row fits next there
row-follows s (form f ∷ row) fits next there = (
  subst (λ o. follows f o ≡ true) (sym (next-certain row next)) (part-follows s f (certain row) next (and-left (part_fits s f (certain row)) (row_fits s row) fits) there),
  row-follows s row (and-right (part_fits s f (certain row)) (row_fits s row) fits) next there,
)
