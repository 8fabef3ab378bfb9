-- The rules of whole sources: clocks and families, interfaces, macros and `main` (this project's profile of Handel-C).
use Rattle.std.specs.Prelude.{true, false, if◌then◌else◌, [], ◌∷◌, Option, Some, None}
use Rattle.hc_tree.specs.declared.item.Item.TheVariants as item
use Rattle.hc_tree.specs.declared.item.Interface.TheVariants as interface
use Rattle.hc_tree.specs.declared.stmt.Macro.TheVariants as macro
use Rattle.hc_lex.specs.declared.mark.Mark.TheVariants as m
use Rattle.hc_lex.specs.declared.token.Placed.{Placed}
use Rattle.hc_grammar.specs.declared.kind.Kind.{Kind}
use Rattle.hc_grammar.specs.declared.kind.Kind.TheVariants as k
use Rattle.hc_grammar.specs.Table.{mark, form}
use Rattle.hc_grammar.specs.Form as f
use Rattle.hc_grammar.specs.Form.{Form, Gives}
use Rattle.hc_grammar.specs.Expression.{Rules, by_front, sign, empty}
use Rattle.hc_grammar.specs.Statement.{begins_decl}

unfoldable pub program_rule : Option Placed → Rules f.program
program_rule t = Some (record { row = form f.items ∷ []; gives = λ (items, _). record { items = items } })

-- every token begins an item, or is refused as one: a source has no end but the end of the tokens
unfoldable pub items_rule : Option Placed → Rules f.items
items_rule = by_front (empty []) (λ t kind. Some (record { row = form f.item ∷ form f.items ∷ []; gives = λ (x, (more, _)). x ∷ more }))

abbrev item_by : Placed → Kind → Rules f.item
item_by t k.Set = Some (record { row = mark k.Set ∷ form f.set_tail ∷ []; gives = λ (tail, _). tail t.place })
item_by t k.Interface = Some (record { row = mark k.Interface ∷ form f.interface_tail ∷ []; gives = λ (tail, _). item.Interface (tail t.place) })
item_by t k.Macro = Some (record { row = form f.macro ∷ []; gives = λ (x, _). item.Macro x })
item_by t k.Void = Some (record {
  row = mark k.Void ∷ mark k.Main ∷ sign m.ParenOpen ∷ form f.opt_void ∷ sign m.ParenClose ∷ form f.block ∷ [];
  gives = λ (says_void, (body, _)). item.Main t.place says_void body;
})
item_by t kind = if begins_decl kind then Some (record { row = form (f.decl false) ∷ []; gives = λ (x, _). item.Decl x }) else None

unfoldable pub item_rule : Option Placed → Rules f.item
item_rule = by_front None item_by

-- behind `set`
abbrev set_by : Placed → Kind → Rules f.set_tail
set_by t k.Clock = Some (record {
  row = mark k.Clock ∷ sign m.Assign ∷ mark k.External ∷ form f.text ∷ form f.with ∷ sign m.Semicolon ∷ [];
  gives = λ (pin, (w, _)) at. item.Clock at pin w;
})
set_by t k.Family = Some (record { row = mark k.Family ∷ sign m.Assign ∷ form f.name ∷ sign m.Semicolon ∷ []; gives = λ (x, _) at. item.Family at x })
set_by t k.Part = Some (record { row = mark k.Part ∷ sign m.Assign ∷ form f.text ∷ sign m.Semicolon ∷ []; gives = λ (part, _) at. item.Part at part })
set_by t _ = None

unfoldable pub set_tail_rule : Option Placed → Rules f.set_tail
set_tail_rule = by_front None set_by

abbrev opt_void_by : Placed → Kind → Rules f.opt_void
opt_void_by t k.Void = Some (record { row = mark k.Void ∷ []; gives = λ _. true })
opt_void_by t _ = empty false

unfoldable pub opt_void_rule : Option Placed → Rules f.opt_void
opt_void_rule = by_front (empty false) opt_void_by

-- behind `interface`
abbrev interface_by : Placed → Kind → Rules f.interface_tail
interface_by t k.BusIn = Some (record {
  row = mark k.BusIn ∷ sign m.ParenOpen ∷ form f.type ∷ form f.name ∷ sign m.ParenClose ∷ form f.name ∷ sign m.ParenOpen ∷ sign m.ParenClose
      ∷ form f.with ∷ sign m.Semicolon ∷ [];
  gives = λ (of, (port, (x, (w, _)))) at. interface.BusIn at of port x w;
})
interface_by t k.BusOut = Some (record {
  row = mark k.BusOut ∷ sign m.ParenOpen ∷ sign m.ParenClose ∷ form f.name ∷ sign m.ParenOpen ∷ form f.type ∷ form f.name ∷ sign m.Assign
      ∷ form f.expr ∷ sign m.ParenClose ∷ form f.with ∷ sign m.Semicolon ∷ [];
  gives = λ (x, (of, (port, (v, (w, _))))) at. interface.BusOut at x of port v w;
})
interface_by t _ = None

unfoldable pub interface_tail_rule : Option Placed → Rules f.interface_tail
interface_tail_rule = by_front None interface_by

-- ---- macros

unfoldable pub macro_rule : Option Placed → Rules f.macro
macro_rule = by_front None (λ t kind. Some (record { row = mark k.Macro ∷ form f.macro_tail ∷ []; gives = λ (tail, _). tail t.place }))

abbrev macro_by : Placed → Kind → Rules f.macro_tail
macro_by t k.Expr = Some (record {
  row = mark k.Expr ∷ form f.name ∷ form f.opt_params ∷ sign m.Assign ∷ form f.expr ∷ sign m.Semicolon ∷ [];
  gives = λ (x, (params, (v, _))) at. macro.Expr at x params v;
})
macro_by t k.Proc = Some (record {
  row = mark k.Proc ∷ form f.name ∷ form f.params ∷ form f.block ∷ [];
  gives = λ (x, (params, (body, _))) at. macro.Proc at x params body;
})
macro_by t _ = None

unfoldable pub macro_tail_rule : Option Placed → Rules f.macro_tail
macro_tail_rule = by_front None macro_by

-- `( [ name { , name } ] )`
unfoldable pub params_rule : Option Placed → Rules f.params
params_rule = by_front None (λ t kind. Some (record
    { row = sign m.ParenOpen ∷ form f.names ∷ sign m.ParenClose ∷ []; gives = λ (names, _). record { names = names } }))

abbrev opt_params_by : Placed → Kind → Rules f.opt_params
opt_params_by t (k.Mark m.ParenOpen) = Some (record { row = form f.params ∷ []; gives = λ (params, _). Some params })
opt_params_by t _ = empty None

unfoldable pub opt_params_rule : Option Placed → Rules f.opt_params
opt_params_rule = by_front (empty None) opt_params_by

abbrev names_by : Placed → Kind → Rules f.names
names_by t (k.Mark m.ParenClose) = empty []
names_by t _ = Some (record { row = form f.name ∷ form f.more_names ∷ []; gives = λ (x, (more, _)). x ∷ more })

unfoldable pub names_rule : Option Placed → Rules f.names
names_rule = by_front (empty []) names_by
