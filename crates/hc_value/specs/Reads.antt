-- What an expression reads from the nets of objects, and the circuit of its number.
use Rattle.std.specs.Prelude.{◌≡◌, ◌<◌, ℕ, ◌*◌, List, [], ◌∷◌, ◌++◌, map, take, drop, Bool, true, false, slice_get, slice_index_or}
use Rattle.hc_core.specs.Program.{Expression, Constant, Register, Element, Word, Signal, Input, Unary, Binary, Slice, Choice}
use Rattle.hc_core.specs.Typed.{kind_width, sign_of}
use Rattle.hc_core.specs.Weight.{kind_length, expression_weight}
use Rattle.hc_core.specs.declared.object.Kind.{Kind}
use Rattle.hc_meaning.specs.Value.{World, words, number_of}
use Rattle.hc_net.specs.Bits.{number}
use Rattle.hc_net.specs.Circuit.{Circuit}
use Rattle.hc_net.specs.Made.{Makes}
use Rattle.hc_bits.specs.Elements.{element_nets}
use Rattle.hc_bits.specs.Held.{held}
use Rattle.hc_value.specs.Objects.{nets_of, AreNets}
use Rattle.hc_value.specs.declared.objects.ObjectNets.{ObjectNets}

-- Each object that an expression reads has its nets among the first n: one for each bit of a register, signal or input, for
-- each bit of all elements of an array, and for each bit of a word of a RAM or ROM.
abbrev pub HasNets : List Kind → ObjectNets → ℕ → Expression → Type 0
HasNets kinds at n (Constant c) = Unit {0}
HasNets kinds at n (Register k) = AreNets n (kind_width (slice_get kinds k)) (nets_of at k)
HasNets kinds at n (Element k i) = AreNets n (kind_length (slice_get kinds k) * kind_width (slice_get kinds k)) (nets_of at k) × HasNets kinds at n i
HasNets kinds at n (Word k i) = AreNets n (kind_width (slice_get kinds k)) (nets_of at k)
HasNets kinds at n (Signal k) = AreNets n (kind_width (slice_get kinds k)) (nets_of at k)
HasNets kinds at n (Input k) = AreNets n (kind_width (slice_get kinds k)) (nets_of at k)
HasNets kinds at n (Unary op a) = HasNets kinds at n a
HasNets kinds at n (Binary op a b) = HasNets kinds at n a × HasNets kinds at n b
HasNets kinds at n (Slice a high low) = HasNets kinds at n a
HasNets kinds at n (Choice c a b) = HasNets kinds at n c × (HasNets kinds at n a × HasNets kinds at n b)

-- the nets of the objects that an expression reads; the index of a word is read by the port of its RAM
abbrev pub read_nets : ObjectNets → Expression → List ℕ
read_nets at (Constant c) = []
read_nets at (Register k) = nets_of at k
read_nets at (Element k i) = nets_of at k ++ read_nets at i
read_nets at (Word k i) = nets_of at k
read_nets at (Signal k) = nets_of at k
read_nets at (Input k) = nets_of at k
read_nets at (Unary op a) = read_nets at a
read_nets at (Binary op a b) = read_nets at a ++ read_nets at b
read_nets at (Slice a high low) = read_nets at a
read_nets at (Choice c a b) = read_nets at c ++ (read_nets at a ++ read_nets at b)

-- all that the number of an expression may be made of: the two constants, and what it reads
abbrev pub reached : ObjectNets → Expression → List ℕ
reached at e = at.zero ∷ at.one ∷ read_nets at e

-- By these bits of the nets each object that an expression reads is worth what it is in a world: a register, a signal, an
-- input, each element of an array (outside of it 0), and the word that is read of a RAM or ROM.
abbrev pub Reads : World → ObjectNets → (ℕ → Bool) → Expression → Type 0
Reads w at v (Constant c) = Unit {0}
Reads w at v (Register k) = number (map v (nets_of at k)) ≡ (number_of w (Register k)).bits
Reads w at v (Element k i) =
    ((j : ℕ) → number (map v (element_nets (kind_width (slice_get w.kinds k)) (nets_of at k) j)) ≡ slice_index_or (words w.store k) j 0) × Reads w at v i
Reads w at v (Word k i) = number (map v (nets_of at k)) ≡ (number_of w (Word k i)).bits
Reads w at v (Signal k) = number (map v (nets_of at k)) ≡ (number_of w (Signal k)).bits
Reads w at v (Input k) = number (map v (nets_of at k)) ≡ (number_of w (Input k)).bits
Reads w at v (Unary op a) = Reads w at v a
Reads w at v (Binary op a b) = Reads w at v a × Reads w at v b
Reads w at v (Slice a high low) = Reads w at v a
Reads w at v (Choice c a b) = Reads w at v c × (Reads w at v a × Reads w at v b)

-- the nets hold the number of an expression in each world in which the objects are worth what their nets say
abbrev pub Holds : List Kind → ObjectNets → Expression → List ℕ → (ℕ → Bool) → Type 0
Holds kinds at e nets v =
    (w : World) → w.kinds ≡ kinds → v at.zero ≡ false → v at.one ≡ true → Reads w at v e → held (sign_of kinds e) v nets ≡ number_of w e

-- A circuit for the number of an expression, of at most as many gates as it weighs.
abbrev pub MakesValue : List Kind → ObjectNets → Expression → Circuit → Circuit → List ℕ → Type 0
MakesValue kinds at e old new nets = Makes (expression_weight kinds e) (reached at e) old new nets (Holds kinds at e nets)
