-- Texts of pins that the texts of a netlist can hold.
use Rattle.std.specs.Prelude.{◌≡◌, ℕ, true, List, [], ◌∷◌, All, codes, Option, Some, None}
use Rattle.std.specs.Str.{bytes_eq}
use Rattle.hc_core.specs.Sound.{HasLabelBytes}
use Rattle.hc_tree.specs.declared.decl.With.{With}
use Rattle.hc_tree.specs.declared.decl.Spec.{Spec}
use Rattle.hc_tree.specs.declared.decl.SpecValue.{SpecValue}
use Rattle.hc_tree.specs.declared.decl.SpecValue.TheVariants as value
use Rattle.hc_tree.specs.declared.item.Interface.{Interface}
use Rattle.hc_tree.specs.declared.item.Interface.TheVariants as interface
use Rattle.hc_tree.specs.declared.item.Item.{Item}
use Rattle.hc_tree.specs.declared.item.Item.TheVariants as item

-- texts of label bytes alone
abbrev pub IsPlainValue : SpecValue → Type 0
IsPlainValue (value.Expr v) = Unit {0}
IsPlainValue (value.Text text) = Unit {0}
IsPlainValue (value.Texts texts) = All HasLabelBytes texts

-- each `data` entry has such texts
abbrev pub ArePlain : List Spec → Type 0
ArePlain [] = Unit {0}
ArePlain (spec ∷ rest) = (bytes_eq spec.name.name (codes "data") ≡ true → IsPlainValue spec.value) × ArePlain rest

abbrev pub IsPlain : Option With → Type 0
IsPlain None = Unit {0}
IsPlain (Some with_list) = ArePlain with_list.specs

abbrev pub HasPlainPins : Interface → Type 0
HasPlainPins (interface.BusIn place of port x with_list) = IsPlain with_list
HasPlainPins (interface.BusOut place x of port v with_list) = IsPlain with_list

-- the name of an input or output
abbrev pub interface_name : Interface → List ℕ
interface_name (interface.BusIn place of port x with_list) = x.name
interface_name (interface.BusOut place x of port v with_list) = x.name

-- an input or output with such a name and such pins
pub record IsPlainInterface (i : Interface) : Type 0 where
  pub name : HasLabelBytes (interface_name i)
  pub pins : HasPlainPins i

-- an item whose texts the texts of a netlist can hold
abbrev pub IsPlainItem : Item → Type 0
IsPlainItem (item.Clock place pin with_list) = HasLabelBytes pin
IsPlainItem (item.Family place x) = Unit {0}
IsPlainItem (item.Part place part) = Unit {0}
IsPlainItem (item.Decl declared) = Unit {0}
IsPlainItem (item.Interface port) = IsPlainInterface port
IsPlainItem (item.Macro m) = Unit {0}
IsPlainItem (item.Main place says_void body) = Unit {0}
