-- A worked row of what the flip-flops and RAMs of a core's objects hold.
use Rattle.std.proofs.Common.{◌≡◌, [], ◌∷◌, true, false, lit<}
use Rattle.hc_core.specs.declared.object.Kind.TheVariants as kind
use Rattle.hc_net.specs.Ram.{word_bit}
use Rattle.hc_net.specs.Run.{State, HoldsBit, rams_of}
use Rattle.hc_net.specs.declared.net.FlopName.TheVariants.{Bit}
use Rattle.hc_net.specs.declared.net.RawNet.{RawNet}
use Rattle.hc_build.specs.Implements.{HoldsMemory, Same}

-- of an array of two elements of 4 bits, which are 1 and 8: the lowest bit of the first one, and the highest of the second
first_element : (raw : RawNet) (state : State) → Same (kind.Array 4 false 2 [] ∷ []) ((1 ∷ 8 ∷ []) ∷ []) raw state → HoldsBit raw.flops state (Bit 0 0) true
first_element raw state same = same.bits 0 0 0 (lit< tt) (lit< tt)

second_element : (raw : RawNet) (state : State) → Same (kind.Array 4 false 2 [] ∷ []) ((1 ∷ 8 ∷ []) ∷ []) raw state → HoldsBit raw.flops state (Bit 0 7) true
second_element raw state same = same.bits 0 1 3 (lit< tt) (lit< tt)

-- a register is its own element 0
register : (raw : RawNet) (state : State) → Same (kind.Reg 4 false (record { width = 4; signed = false; bits = 0 }) ∷ []) ((8 ∷ []) ∷ []) raw state → HoldsBit raw.flops state (Bit 0 3) true
register raw state same = same.bits 0 0 3 (lit< tt) (lit< tt)

-- of a RAM of two words of 4 bits, which are 1 and 8: the highest bit of the second word, and its object
memory : (raw : RawNet) (state : State) → Same (kind.Ram 4 false 2 [] ∷ []) ((1 ∷ 8 ∷ []) ∷ []) raw state → HoldsMemory (rams_of raw.cells) state 0 2 4 (1 ∷ 8 ∷ [])
memory raw state same = same.memories 0 (lit< tt)

second_word : (raw : RawNet) (state : State) (h : HoldsMemory (rams_of raw.cells) state 0 2 4 (1 ∷ 8 ∷ [])) → (word_bit h.held 4 1 3 ≡ true) × (h.ram.object ≡ 0)
second_word raw state h = (h.bits 1 3 (lit< tt) (lit< tt), h.named)
