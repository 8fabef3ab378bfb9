-- Items as the code has them, and what holds of what they have made.
use Rattle.std.specs.Prelude.{◌≡◌, ◌≢◌, ℕ, true, false, List, [], All, AllPairs, Option, Some, None, Result, Ok, Err}
use denote.Bor.{Bor}
use Rattle.hc_tree.specs.declared.refusal.FrontErr.{FrontErr}
use Rattle.hc_tree.specs.declared.refusal.FrontErr.TheVariants.{Refused, NoMemory}
use Rattle.hc_tree.specs.declared.item.Item.{Item}
use Rattle.hc_tree.specs.declared.item.Item.TheVariants as item
use Rattle.hc_tree.specs.declared.stmt.Block.{Block}
use Rattle.hc_core.specs.Sound.{HasLabelBytes, port_names}
use Rattle.hc_core.specs.declared.object.Core.{Core}
use Rattle.hc_core.specs.declared.object.Object.{Object}
use Rattle.hc_declare.specs.declared.items.Roots.{Roots}
use Rattle.hc_scope.specs.declared.scope.Scope as code
use Rattle.hc_scope.specs.declared.state.State.{State}
use Rattle.hc_scope.specs.Expands.{Items, Program, program_of, item_place, item_form}
use Rattle.hc_scope.specs.Expansion.{Outcome, Yields, Refuses, Expansion, ◌>>◌, visit}
use Rattle.hc_scope.specs.Parts.{Parts}
use Rattle.hc_scope.specs.Plain.{interface_name}
use Rattle.hc_scope.specs.Scope as s
use Rattle.hc_scope.specs.Sound.{Grows, GrowsBy}
use Rattle.hc_scope.specs.Table.{Entries, context_in}

-- the clock pin and the body of `main`, if there are any
abbrev pub pin_read : Option (Bor (List ℕ)) → Option (List ℕ)
pin_read None = None
pin_read (Some pin) = Some pin.now

abbrev pub body_read : Option (Bor Block) → Option Block
body_read None = None
body_read (Some body) = Some body.now

-- what the items so far have made: the names of a table, and the roots
abbrev pub items_in : Entries → code.Scope → Roots → Items
items_in entries around roots = record { context = context_in entries around 0; clock = pin_read roots.clock; main = body_read roots.main }

-- an item, which is a node
abbrev pub item_node : Parts → Items → Item → Expansion Items
item_node p i x = visit false 0 (item_place x) >> item_form p i x

-- what was made before anything is
abbrev pub nothing_made : State
nothing_made = record { objects = []; visited = 0 }

-- ---- what is sound of the items so far

-- the clock pin, if there is one, has label bytes
abbrev pub IsPin : Option (Bor (List ℕ)) → Type 0
IsPin None = Unit {0}
IsPin (Some pin) = HasLabelBytes pin.now

-- The names of the ports are declared in this scope. They differ, and have label bytes.
pub record HasPorts (scope : s.Scope) (objects : List Object) : Type 0 where
  pub declared : All (λ x. s.is_declared x scope ≡ true) (port_names objects)
  pub differ : AllPairs ◌≢◌ (port_names objects)
  pub labels : All HasLabelBytes (port_names objects)

-- an input or output makes a port, and no other item does
abbrev pub ItemGrows : Item → List Object → List Object → Type 0
ItemGrows (item.Clock place pin with_list) old new = Grows old new
ItemGrows (item.Family place x) old new = Grows old new
ItemGrows (item.Part place part) old new = Grows old new
ItemGrows (item.Decl declared) old new = Grows old new
ItemGrows (item.Interface port) old new = GrowsBy (interface_name port) old new
ItemGrows (item.Macro m) old new = Grows old new
ItemGrows (item.Main place says_void body) old new = Grows old new

-- ---- what a function ensures that makes a core

-- the core's program; or the refusal; or want of memory
abbrev pub AnswersCore : Outcome Program → Result Core FrontErr → Type 0
AnswersCore outcome (Ok core) = (s : State) × (outcome ≡ Yields (program_of core) s)
AnswersCore outcome (Err (Refused r)) = outcome ≡ Refuses r
AnswersCore outcome (Err NoMemory) = Unit {0}
