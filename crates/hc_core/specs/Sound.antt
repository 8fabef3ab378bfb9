-- Soundness of a core: its numbers name objects of the right kinds, its expressions have the types of their places, and
-- its sizes and names are within their bounds. The bounds are this project's own.
use Rattle.std.specs.Prelude.{◌≡◌, ◌<◌, ◌≤◌, ◌⊎◌, ◌≢◌, ℕ, ◌*◌, ◌^◌, List, [], map, length, Bool, true, false, not, ◌&&◌, ◌==◌, nat_le, IsTrue, Some, slice_get, All, AllPairs}
use Rattle.std.specs.List.{list_all, filter}
use Rattle.hc_num.specs.Number.{Number}
use Rattle.hc_num.specs.Index.{index_width}
use Rattle.hc_core.specs.Program.{Expression, Target, ToRegister, ToElement, ToWord, ToSignal, Statement, Skip, Assign, Delay, Send, Receive, Prialt, PrialtElse, Seq, Par, If, While, DoWhile, Switch, Statements, stop, ◌⨾◌, Cases, no_case, send_case, receive_case, Arms, no_arm, arm}
use Rattle.hc_core.specs.Read.{expression, statement}
use Rattle.hc_core.specs.Typed.{IsNumber, Typed, HasSomeType, kinds_of}
use Rattle.hc_core.specs.Parts.{parts_of}
use Rattle.hc_core.specs.declared.object.Kind.{Kind}
use Rattle.hc_core.specs.declared.object.Kind.TheVariants as kind
use Rattle.hc_core.specs.declared.object.Object.{Object}
use Rattle.hc_core.specs.declared.object.Core.{Core}

-- ---- objects

-- a number of this type
pub record HasType (w : ℕ) (s : Bool) (n : Number) : Type 0 where
  pub number : IsNumber n
  pub width : n.width ≡ w
  pub signed : n.signed ≡ s

-- a width from 1 to 128 bits
pub record IsWidth (w : ℕ) : Type 0 where
  pub least : 1 ≤ w
  pub most : w ≤ 128

-- an array of 1 to 4,096 elements, and no more first numbers than elements, each of the element's type
pub record IsArray (w : ℕ) (s : Bool) (n : ℕ) (init : List Number) : Type 0 where
  pub width : IsWidth w
  pub least : 1 ≤ n
  pub most : n ≤ 4096
  pub few : length init ≤ n
  pub typed : All (HasType w s) init

-- a RAM or ROM of 1 or more words and at most 65,536 bits, and no more first numbers than words, each of the word's type
pub record IsMemory (w : ℕ) (s : Bool) (n : ℕ) (init : List Number) : Type 0 where
  pub width : IsWidth w
  pub least : 1 ≤ n
  pub bits : n * w ≤ 65536
  pub few : length init ≤ n
  pub typed : All (HasType w s) init

-- a byte from 32 to 126 that is none of `"`, `\` and `%`, which the texts of a netlist can hold
abbrev pub is_label_byte : ℕ → Bool
is_label_byte b = nat_le 32 b && nat_le b 126 && not (b == 34) && not (b == 92) && not (b == 37)

-- a name of such bytes alone
abbrev pub HasLabelBytes : List ℕ → Type 0
HasLabelBytes bytes = IsTrue (list_all is_label_byte bytes)

-- a port with no pins or one for each bit
pub record IsPort (w : ℕ) (pins : List (List ℕ)) : Type 0 where
  pub width : IsWidth w
  pub each_bit : (pins ≡ []) ⊎ (length pins ≡ w)
  pub labels : All HasLabelBytes pins

-- a channel, which has no places yet
pub record IsChannel (w queue : ℕ) : Type 0 where
  pub width : IsWidth w
  pub no_places : queue ≡ 0

-- an output: a port, and an expression of its type
pub record IsOutput (kinds : List Kind) (w : ℕ) (s : Bool) (pins : List (List ℕ)) (value : Expression) : Type 0 where
  pub port : IsPort w pins
  pub typed : Typed kinds value w s

-- what holds of an object by its kind
abbrev pub IsKind : List Kind → Kind → Type 0
IsKind kinds (kind.Reg w s init) = HasType w s init
IsKind kinds (kind.Array w s n init) = IsArray w s n init
IsKind kinds (kind.Ram w s n init) = IsMemory w s n init
IsKind kinds (kind.Rom w s n init) = IsMemory w s n init
IsKind kinds (kind.Signal w s unset) = HasType w s unset
IsKind kinds (kind.Chan w s queue) = IsChannel w queue
IsKind kinds (kind.Input w s pins) = IsPort w pins
IsKind kinds (kind.Output w s pins value) = IsOutput kinds w s pins (expression value)

-- ---- statements

-- The target has this type: a register, an element or a word of a RAM, by an unsigned index just wide enough for all
-- indexes, or a signal.
abbrev pub IsTarget : List Kind → Target → ℕ → Bool → Type 0
IsTarget kinds (ToRegister k) w s = (init : Number) × (slice_get kinds k ≡ Some (kind.Reg w s init))
IsTarget kinds (ToElement k i) w s =
    (n : ℕ) × (init : List Number) × (slice_get kinds k ≡ Some (kind.Array w s n init)) × Typed kinds i (index_width n) false
IsTarget kinds (ToWord k i) w s =
    (n : ℕ) × (init : List Number) × (slice_get kinds k ≡ Some (kind.Ram w s n init)) × Typed kinds i (index_width n) false
IsTarget kinds (ToSignal k) w s = (unset : Number) × (slice_get kinds k ≡ Some (kind.Signal w s unset))

-- a target that may be received into: no signal
abbrev pub IsKept : Target → Type 0
IsKept (ToRegister k) = Unit {0}
IsKept (ToElement k i) = Unit {0}
IsKept (ToWord k i) = Unit {0}
IsKept (ToSignal k) = ⊥

-- the target has the value's type
pub record Fits (kinds : List Kind) (t : Target) (e : Expression) : Type 0 where
  pub width : ℕ
  pub signed : Bool
  pub target : IsTarget kinds t width signed
  pub value : Typed kinds e width signed

-- a value that is sent has the channel's type
pub record Sends (kinds : List Kind) (chan : ℕ) (e : Expression) : Type 0 where
  pub width : ℕ
  pub signed : Bool
  pub queue : ℕ
  pub chan_is : slice_get kinds chan ≡ Some (kind.Chan width signed queue)
  pub value : Typed kinds e width signed

-- a target that is received into has the channel's type, and is no signal
pub record Receives (kinds : List Kind) (chan : ℕ) (t : Target) : Type 0 where
  pub width : ℕ
  pub signed : Bool
  pub queue : ℕ
  pub chan_is : slice_get kinds chan ≡ Some (kind.Chan width signed queue)
  pub kept : IsKept t
  pub target : IsTarget kinds t width signed

-- each part of a statement has the type of its place
abbrev mutual
  pub IsTyped : List Kind → Statement → Type 0
  IsTyped kinds Skip = Unit {0}
  IsTyped kinds (Assign place t e) = Fits kinds t e
  IsTyped kinds (Delay place) = Unit {0}
  IsTyped kinds (Send place chan e) = Sends kinds chan e
  IsTyped kinds (Receive place chan t) = Receives kinds chan t
  IsTyped kinds (Prialt place cases) = CasesTyped kinds cases
  IsTyped kinds (PrialtElse place cases rest) = CasesTyped kinds cases × IsTyped kinds rest
  IsTyped kinds (Seq place parts) = AllTyped kinds parts
  IsTyped kinds (Par place branches) = AllTyped kinds branches
  IsTyped kinds (If place c a b) = HasSomeType kinds c × IsTyped kinds a × IsTyped kinds b
  IsTyped kinds (While place c body) = HasSomeType kinds c × IsTyped kinds body
  IsTyped kinds (DoWhile place body c) = HasSomeType kinds c × IsTyped kinds body
  IsTyped kinds (Switch place e arms) = (w : ℕ) × (s : Bool) × Typed kinds e w s × ArmsTyped kinds w s arms

  pub AllTyped : List Kind → Statements → Type 0
  AllTyped kinds stop = Unit {0}
  AllTyped kinds (first ⨾ rest) = IsTyped kinds first × AllTyped kinds rest

  pub CasesTyped : List Kind → Cases → Type 0
  CasesTyped kinds no_case = Unit {0}
  CasesTyped kinds (send_case chan e first rest) = Sends kinds chan e × IsTyped kinds first × CasesTyped kinds rest
  CasesTyped kinds (receive_case chan t first rest) = Receives kinds chan t × IsTyped kinds first × CasesTyped kinds rest

  -- the values of an arm have the selector's type
  pub ArmsTyped : List Kind → ℕ → Bool → Arms → Type 0
  ArmsTyped kinds w s no_arm = Unit {0}
  ArmsTyped kinds w s (arm values other body rest) = All (HasType w s) values × IsTyped kinds body × ArmsTyped kinds w s rest

-- ---- cores

abbrev pub is_port : Kind → Bool
is_port (kind.Reg w s init) = false
is_port (kind.Array w s n init) = false
is_port (kind.Ram w s n init) = false
is_port (kind.Rom w s n init) = false
is_port (kind.Signal w s unset) = false
is_port (kind.Chan w s queue) = false
is_port (kind.Input w s pins) = true
is_port (kind.Output w s pins value) = true

-- the names of the ports, in order
abbrev pub port_names : List Object → List (List ℕ)
port_names objects = map (λ o. o.name) (filter (λ o. is_port o.kind) objects)

-- The core is sound.
pub record IsSound (core : Core) : Type 0 where
  pub kinds : (k : ℕ) (kind : Kind) → slice_get (kinds_of core.objects) k ≡ Some kind → IsKind (kinds_of core.objects) kind
  pub main : IsTyped (kinds_of core.objects) (statement core.main)
  pub names_differ : AllPairs ◌≢◌ (port_names core.objects)
  pub names : All HasLabelBytes (port_names core.objects)
  pub clock : HasLabelBytes core.clock
  pub few : parts_of core < 2 ^ 32
