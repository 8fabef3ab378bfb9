-- Targets and channels as the code has them.
use Rattle.std.specs.Prelude.{◌≡◌, ℕ, pos, Bool, List, Option, Some, None, slice_get}
use Rattle.hc_num.specs.Number.{Number}
use Rattle.hc_core.specs.declared.object.Kind.{Kind}
use Rattle.hc_core.specs.declared.object.Kind.TheVariants as kind
use Rattle.hc_scope.specs.Statement.{IndexAt, Destination, a_register, a_signal, an_element, a_word, TypedDestination, Channel}
use Rattle.hc_scope.specs.Reading.{scope_of}
use Rattle.hc_scope.specs.Types.{type_read}
use Rattle.hc_width.specs.Operand.{Operand, Whole}
use Rattle.hc_scope.specs.Expansion.{Expansion, pure}
use Rattle.hc_scope.specs.Parts.{Parts, Context}
use Rattle.hc_evaluate.specs.declared.channel.Channel as channels
use Rattle.hc_evaluate.specs.declared.assignment.Assigned as assigned
use Rattle.hc_evaluate.specs.declared.assignment.Assigned.TheVariants as a
use Rattle.hc_evaluate.specs.declared.targets.IndexAt as index
use Rattle.hc_evaluate.specs.declared.targets.Destination as place
use Rattle.hc_evaluate.specs.declared.targets.Destination.TheVariants as d
use Rattle.hc_evaluate.specs.declared.targets.TypedDestination as typed

-- an index with its scope
abbrev pub index_read : index.IndexAt → IndexAt
index_read i = record { index = i.index.now; scope = scope_of i.scope.now }

abbrev pub own_read : Option index.IndexAt → Option IndexAt
own_read None = None
own_read (Some i) = Some (index_read i)

-- what is written
abbrev pub destination_read : place.Destination → Destination
destination_read (d.Register k) = a_register k
destination_read (d.Signal k) = a_signal k
destination_read (d.Element k i) = an_element k (index_read i)
destination_read (d.Word k i) = a_word k (index_read i)

abbrev pub typed_read : typed.TypedDestination → TypedDestination
typed_read t = record { name = t.name.now; to = destination_read t.to; type = type_read t.of }

-- what is written is an object of the right kind, and a value of this type is written
abbrev pub IsDestination : List Kind → Destination → ℕ → Bool → Type 0
IsDestination kinds (a_register k) w s = (init : Number) × (slice_get kinds k ≡ Some (kind.Reg w s init))
IsDestination kinds (a_signal k) w s = (unset : Number) × (slice_get kinds k ≡ Some (kind.Signal w s unset))
IsDestination kinds (an_element k i) w s = (n : ℕ) × (init : List Number) × (slice_get kinds k ≡ Some (kind.Array w s n init))
IsDestination kinds (a_word k i) w s = (n : ℕ) × (init : List Number) × (slice_get kinds k ≡ Some (kind.Ram w s n init))

-- the right side of an assignment
abbrev pub assigned_value : Parts → Context → assigned.Assigned → Expansion Operand
assigned_value p c (a.Expression e) = p.expression c e.now
assigned_value p c a.One = pure (Whole (pos 1))

-- a channel
abbrev pub channel_read : channels.Channel → Channel
channel_read ch = record { number = ch.number; type = type_read ch.of }

-- an object is a channel of this type
abbrev pub IsChannelOf : List Kind → ℕ → ℕ → Bool → Type 0
IsChannelOf kinds k w s = (queue : ℕ) × (slice_get kinds k ≡ Some (kind.Chan w s queue))
