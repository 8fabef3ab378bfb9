-- The circuit of an expression from those of its parts.
use Rattle.std.proofs.Common.{◌≡◌, ◌<◌, ◌≤◌, ℕ, ◌+◌, ◌-◌, ◌*◌, ◌^◌, List, [], ◌∷◌, ◌++◌, length, take, drop, map, Bool, true, false, Some, None, if◌then◌else◌, refl, ap, sym, ◌∙◌, subst, arith}
use Rattle.std.specs.Prelude.{All, slice_get, slice_index_or}
use Rattle.std.proofs.lemmas.List.{length-take-le, length-drop}
use Rattle.std.proofs.lemmas.List.FromFn.{length-map-range_with_len}
use Rattle.std.proofs.lemmas.List.Elements.{All-cons, All-append, All-take, All-drop, All-same, All-head, All-tail}
use Rattle.hc_num.specs.Number.{Number}
use Rattle.hc_num.specs.Index.{index_width}
use Rattle.hc_num.specs.Parts.{bit_range}
use Rattle.hc_core.specs.Program.{Expression, Constant, Register, Element, Word, Signal, Input, Unary, Binary, Slice, Choice}
use Rattle.hc_core.specs.Typed.{HasSomeType, IsNumber, Typed, constant, group_of, group_width, group_sign, unary_width, unary_sign, width_of, sign_of, constant_of, kind_width, kind_sign}
use Rattle.hc_core.specs.Weigh.{AreSound}
use Rattle.hc_core.specs.Weight.{kind_length, is_constant, unary_weight, binary_weight, element_weight, expression_weight}
use Rattle.hc_core.specs.declared.expr.UnOp.{UnOp}
use Rattle.hc_core.specs.declared.expr.BinOp.{BinOp}
use Rattle.hc_core.specs.declared.object.Kind.{Kind}
use Rattle.hc_meaning.specs.Value.{World, words, number_of, typed, unary, binary, holds}
use Rattle.hc_net.specs.Bits.{number}
use Rattle.hc_net.specs.Circuit.{Circuit}
use Rattle.hc_net.specs.Made.{Over, Adds, Makes}
use Rattle.hc_net.specs.MadeLemmas.{Makes-none, Makes-then, Makes-last, Makes-as, Makes-holds, Over-self, Over-left, Adds-there, Adds-over, Adds-room, Adds-longer, all_there}
use Rattle.hc_net.specs.declared.node.Node.{Node}
use Rattle.hc_bits.specs.Held.{held}
use Rattle.hc_muldiv.proofs.Circuits.{All-left, All-right, Over-right, Makes-over}
use Rattle.hc_value.specs.Elements.{element_gates, fixed_nets}
use Rattle.hc_value.specs.Moves.{amount, constant_nets, move_of, moved_nets}
use Rattle.hc_value.specs.Objects.{nets_of, AreNets, HasConstants}
use Rattle.hc_value.specs.Operands.{number_on, MakesUnary, MakesBinary, CanValue, IsValue}
use Rattle.hc_bits.specs.Elements.{element_nets}
use Rattle.hc_value.specs.Reads.{HasNets, read_nets, reached, Reads, Holds, MakesValue}
use Rattle.hc_value.specs.declared.moved.Move.{Move}
use Rattle.hc_value.specs.declared.objects.ObjectNets.{ObjectNets}
use Rattle.hc_value.specs.declared.operand.Operand.{Operand}
use Rattle.hc_value.proofs.Elements.{fixed_width, fixed_all, fixed_number}
use Rattle.hc_value.proofs.Held.{number_with, held_as}
use Rattle.hc_value.proofs.Operators.{operand}
use Rattle.hc_value.proofs.Places.{IsWithin, constant_held, constant_all, moved_number, moved_held, moved_size, moved_all, sliced_held}
use Rattle.hc_value.proofs.Typing.{ElementTyped, ChoiceTyped, IsMove, is_move, same_weight, varies, fixed_bits, element_typed, choice_typed, left_typed, right_typed, operand_typed, sliced_typed, sliced_order, sliced_within, width_some}

-- ---- what all circuits may reach

abbrev with_constants : ObjectNets → List ℕ → List ℕ
with_constants at nets = at.zero ∷ at.one ∷ nets

over_zero : {nodes : List Node} (at : ObjectNets) (xs : List ℕ) → Over nodes (with_constants at xs) at.zero
over_zero at xs = Over-self (with_constants at xs) 0 0 (omega arith)

over_one : {nodes : List Node} (at : ObjectNets) (xs : List ℕ) → Over nodes (with_constants at xs) at.one
over_one at xs = Over-self (with_constants at xs) 1 0 (omega arith)

over_rest : {nodes : List Node} (at : ObjectNets) (xs : List ℕ) → All (Over nodes (with_constants at xs)) xs
over_rest at xs = Over-right (at.zero ∷ at.one ∷ []) xs

over_left : {nodes : List Node} (at : ObjectNets) (xs ys : List ℕ) → All (Over nodes (with_constants at (xs ++ ys))) (with_constants at xs)
over_left at xs ys = Over-left (with_constants at xs) ys

over_first : {nodes : List Node} (at : ObjectNets) (xs ys : List ℕ) → All (Over nodes (with_constants at (xs ++ ys))) xs
over_first {nodes} at xs ys = All-left (Over nodes (with_constants at (xs ++ ys))) xs ys (over_rest at (xs ++ ys))

over_right : {nodes : List Node} (at : ObjectNets) (xs ys : List ℕ) → All (Over nodes (with_constants at (xs ++ ys))) (with_constants at ys)
over_right {nodes} at xs ys =
    let P = Over nodes (with_constants at (xs ++ ys)) in
    All-cons P at.zero (at.one ∷ ys) (over_zero at (xs ++ ys)) (All-cons P at.one ys (over_one at (xs ++ ys)) (Over-right (with_constants at xs) ys))

-- ---- objects

-- nets that stand as they are
of_nets : (kinds : List Kind) (at : ObjectNets) (e : Expression) (c : Circuit) (nets : List ℕ) (s : Bool) → length nets ≡ width_of kinds e → s ≡ sign_of kinds e → All (λ k. k < length c.nodes) nets
    → All (Over c.nodes (reached at e)) nets → ((v : ℕ → Bool) → Holds kinds at e nets v) → IsValue kinds at e c c (operand nets s)
of_nets kinds at e c nets s width sign there reach value = record {
  width = width;
  signed = sign;
  made = Makes-as (Makes-none c (reached at e) nets there reach) (omega arith) there reach (λ v u. value v);
}

-- the number of an object, whose type is known in each world of these kinds
object_held : (kinds : List Kind) (k : ℕ) (nets : List ℕ) (v : ℕ → Bool) (w : World) (bits : ℕ) → length nets ≡ kind_width (slice_get kinds k) → w.kinds ≡ kinds
    → number (map v nets) ≡ bits → held (kind_sign (slice_get kinds k)) v nets ≡ typed (slice_get w.kinds k) bits
object_held kinds k nets v w bits width same is =
    held_as (kind_sign (slice_get kinds k)) (kind_sign (slice_get kinds k)) v nets (kind_width (slice_get kinds k)) bits refl width is
    ∙ ap (λ l. typed (slice_get l k) bits) (sym same)

pub register_value : (kinds : List Kind) (at : ObjectNets) (c : Circuit) (k : ℕ) (z : Operand) → HasNets kinds at (length c.nodes) (Register k)
    → z.nets ≡ nets_of at k → z.signed ≡ kind_sign (slice_get kinds k) → IsValue kinds at (Register k) c c z
register_value kinds at c k z nets is sign =
    subst (λ l. IsValue kinds at (Register k) c c (operand l z.signed)) (sym is)
    (of_nets kinds at (Register k) c (nets_of at k) z.signed nets.count sign nets.there (over_rest at (nets_of at k))
    (λ v w same low high reads. object_held kinds k (nets_of at k) v w _ nets.count same reads))

pub signal_value : (kinds : List Kind) (at : ObjectNets) (c : Circuit) (k : ℕ) (z : Operand) → HasNets kinds at (length c.nodes) (Signal k)
    → z.nets ≡ nets_of at k → z.signed ≡ kind_sign (slice_get kinds k) → IsValue kinds at (Signal k) c c z
signal_value kinds at c k z nets is sign =
    subst (λ l. IsValue kinds at (Signal k) c c (operand l z.signed)) (sym is)
    (of_nets kinds at (Signal k) c (nets_of at k) z.signed nets.count sign nets.there (over_rest at (nets_of at k))
    (λ v w same low high reads. object_held kinds k (nets_of at k) v w _ nets.count same reads))

pub input_value : (kinds : List Kind) (at : ObjectNets) (c : Circuit) (k : ℕ) (z : Operand) → HasNets kinds at (length c.nodes) (Input k)
    → z.nets ≡ nets_of at k → z.signed ≡ kind_sign (slice_get kinds k) → IsValue kinds at (Input k) c c z
input_value kinds at c k z nets is sign =
    subst (λ l. IsValue kinds at (Input k) c c (operand l z.signed)) (sym is)
    (of_nets kinds at (Input k) c (nets_of at k) z.signed nets.count sign nets.there (over_rest at (nets_of at k))
    (λ v w same low high reads. object_held kinds k (nets_of at k) v w _ nets.count same reads))

pub word_value : (kinds : List Kind) (at : ObjectNets) (c : Circuit) (k : ℕ) (i : Expression) (z : Operand) → HasNets kinds at (length c.nodes) (Word k i)
    → z.nets ≡ nets_of at k → z.signed ≡ kind_sign (slice_get kinds k) → IsValue kinds at (Word k i) c c z
word_value kinds at c k i z nets is sign =
    subst (λ l. IsValue kinds at (Word k i) c c (operand l z.signed)) (sym is)
    (of_nets kinds at (Word k i) c (nets_of at k) z.signed nets.count sign nets.there (over_rest at (nets_of at k))
    (λ v w same low high reads. object_held kinds k (nets_of at k) v w _ nets.count same reads))

-- ---- constants

constant_number : (kinds : List Kind) (n : Number) → HasSomeType kinds (Constant n) → n.bits < 2 ^ n.width
constant_number kinds _ (_, _, constant n is) = is.fits

pub constant_value : (kinds : List Kind) (at : ObjectNets) (c : Circuit) (n : Number) (z : Operand) → HasSomeType kinds (Constant n) → HasConstants (length c.nodes) at
    → z.nets ≡ constant_nets at.zero at.one n → z.signed ≡ n.signed → IsValue kinds at (Constant n) c c z
constant_value kinds at c n z has there is sign =
    subst (λ l. IsValue kinds at (Constant n) c c (operand l z.signed)) (sym is)
    (of_nets kinds at (Constant n) c (constant_nets at.zero at.one n) z.signed (length-map-range_with_len _ 0 n.width) sign
    (constant_all (λ k. k < length c.nodes) at.zero at.one n there.zero there.one)
    (constant_all (Over c.nodes (reached at (Constant n))) at.zero at.one n (over_zero at []) (over_one at []))
    (λ v w same low high reads. constant_held v at.zero at.one n (constant_number kinds n has) low high))

-- ---- elements

pub fixed_value : (kinds : List Kind) (at : ObjectNets) (c : Circuit) (k n : ℕ) (i : Expression) (z : Operand) → HasNets kinds at (length c.nodes) (Element k i) → HasConstants (length c.nodes) at
    → amount i ≡ Some n → z.nets ≡ fixed_nets at.zero (kind_length (slice_get kinds k)) (kind_width (slice_get kinds k)) (nets_of at k) n
    → z.signed ≡ kind_sign (slice_get kinds k) → IsValue kinds at (Element k i) c c z
fixed_value kinds at c k n i z nets there fixed is sign =
    let len = kind_length (slice_get kinds k) in
    let wide = kind_width (slice_get kinds k) in
    let chosen = fixed_nets at.zero len wide (nets_of at k) n in
    let array = nets.0 in
    let args = nets_of at k ++ read_nets at i in
    let width = fixed_width at.zero len wide (nets_of at k) n array.count in
    subst (λ l. IsValue kinds at (Element k i) c c (operand l z.signed)) (sym is)
    (of_nets kinds at (Element k i) c chosen z.signed width sign
    (fixed_all (λ j. j < length c.nodes) at.zero len wide (nets_of at k) n there.zero array.there)
    (fixed_all (Over c.nodes (reached at (Element k i))) at.zero len wide (nets_of at k) n (over_zero at args)
    (over_first at (nets_of at k) (read_nets at i)))
    (λ v w same low high reads. object_held kinds k chosen v w _ width same
    (fixed_number v at.zero len wide (nets_of at k) n array.count low
    ∙ ap (λ l. number (map v (element_nets (kind_width (slice_get l k)) (nets_of at k) n))) (sym same)
    ∙ reads.0 n ∙ ap (λ j. slice_index_or (words w.store k) j 0) (sym (fixed_bits i n fixed w)))))

-- an index reads a subset, and its gates and those of the element are within the weight
pub element_bound : (n a w : ℕ) → n * a + a + w * (2 * n) ≤ n * (a + 2 * w) + 2 * a
element_bound n a w = let e : n * (a + 2 * w) ≡ n * a + w * (2 * n) = grind arith in omega (arith, e)

pub element_value : (kinds : List Kind) (at : ObjectNets) (old mid new : Circuit) (k : ℕ) (i : Expression) (x z : Operand) → AreSound kinds → HasSomeType kinds (Element k i) → amount i ≡ None
    → IsValue kinds at i old mid x → length z.nets ≡ kind_width (slice_get kinds k) → z.signed ≡ kind_sign (slice_get kinds k)
    → Makes (element_gates (kind_length (slice_get kinds k)) (kind_width (slice_get kinds k)) (length x.nets)) (nets_of at k ++ x.nets) mid new z.nets
    (λ v. number (map v z.nets) ≡ number (map v (element_nets (kind_width (slice_get kinds k)) (nets_of at k) (number (map v x.nets)))))
    → IsValue kinds at (Element k i) old new z
element_value kinds at old mid new k i x z sound has other index width sign made =
    let n = kind_length (slice_get kinds k) in
    let wide = kind_width (slice_get kinds k) in
    let args = reached at (Element k i) in
    let types = element_typed kinds k i sound has in
    let first = Makes-over index.made (over_right at (nets_of at k) (read_nets at i)) in
    let P = Over mid.nodes args in
    let over : All P (nets_of at k ++ x.nets) = All-append P (nets_of at k) x.nets
    (over_first at (nets_of at k) (read_nets at i)) first.reach in
    let a : length x.nets ≡ index_width n = index.width ∙ types.index_is in
    let own : element_gates n wide (length x.nets) ≡ element_gates n wide (index_width n) = ap (λ j. element_gates n wide j) a in
    let most = element_bound n (index_width n) wide in
    let weight : element_weight (is_constant i) n wide ≡ element_weight false n wide = ap (λ c. element_weight c n wide) (varies i other) in
    record {
      width = width;
      signed = sign;
      made = Makes-holds (Makes-last first made over) (omega (arith, own, most, weight)) (λ v both w same low high reads.
          let at_index : number (map v x.nets) ≡ (number_of w i).bits = ap (λ m. m.bits) (both.0 w same low high reads.1) in
          object_held kinds k z.nets v w _ width same
          (both.1 ∙ ap (λ l. number (map v (element_nets (kind_width (slice_get l k)) (nets_of at k) (number (map v x.nets))))) (sym same)
          ∙ reads.0 (number (map v x.nets)) ∙ ap (λ j. slice_index_or (words w.store k) j 0) at_index));
    }

-- ---- operators

pub unary_value : (kinds : List Kind) (at : ObjectNets) (old mid new : Circuit) (op : UnOp) (a : Expression) (x z : Operand)
    → IsValue kinds at a old mid x → MakesUnary op x mid new z → IsValue kinds at (Unary op a) old new z
unary_value kinds at old mid new op a x z first own =
    let sign : z.signed ≡ unary_sign op (sign_of kinds a) = own.signed ∙ ap (unary_sign op) first.signed in
    let weight : unary_weight op (length x.nets) ≡ unary_weight op (width_of kinds a) = ap (unary_weight op) first.width in
    record {
      width = own.width ∙ ap (unary_width op) first.width;
      signed = sign;
      made = Makes-holds (Makes-last first.made own.made first.made.reach) (omega (arith, weight)) (λ v both w same low high reads.
          ap (λ s. held s v z.nets) (sym sign) ∙ both.1 ∙ ap (λ s. unary op (held s v x.nets)) first.signed ∙ ap (unary op) (both.0 w same low high reads));
    }

pub binary_value : (kinds : List Kind) (at : ObjectNets) (old mid last new : Circuit) (op : BinOp) (a b : Expression) (x y z : Operand)
    → IsValue kinds at a old mid x → IsValue kinds at b mid last y → move_of op b ≡ None → z.signed ≡ group_sign (group_of op) x.signed → MakesBinary op x y last new z.nets
    → IsValue kinds at (Binary op a b) old new z
binary_value kinds at old mid last new op a b x y z first second none sign own =
    let args = reached at (Binary op a b) in
    let left = Makes-over first.made (over_left at (read_nets at a) (read_nets at b)) in
    let both = Makes-then left second.made (over_right at (read_nets at a) (read_nets at b)) in
    let size : (n : ℕ) → group_width (group_of op) (length x.nets) (length y.nets) n ≡ group_width (group_of op) (width_of kinds a) (width_of kinds b) n =
    λ n. ap (λ w. group_width (group_of op) w (length y.nets) n) first.width ∙ ap (λ w. group_width (group_of op) (width_of kinds a) w n) second.width in
    let weight : binary_weight op false (length x.nets) (length y.nets) ≡ binary_weight op (is_constant b) (width_of kinds a) (width_of kinds b) =
    ap (λ w. binary_weight op false w (length y.nets)) first.width ∙ ap (λ w. binary_weight op false (width_of kinds a) w) second.width
    ∙ sym (same_weight op b (width_of kinds a) (width_of kinds b) none) in
    record {
      width = own.width (constant_of b) ∙ size (constant_of b);
      signed = sign ∙ ap (group_sign (group_of op)) first.signed;
      made = Makes-holds (Makes-last both own.made both.reach) (omega (arith, weight)) (λ v h w same low high reads.
          ap (λ s. held (group_sign (group_of op) s) v z.nets) (sym first.signed) ∙ h.1
          ∙ ap (λ s. binary op (held s v x.nets) (number_on v y)) first.signed
          ∙ ap (λ n. binary op n (number_on v y)) (h.0.0 w same low high reads.0)
          ∙ ap (λ s. binary op (number_of w a) (held s v y.nets)) second.signed
          ∙ ap (λ n. binary op (number_of w a) n) (h.0.1 w same low high reads.1));
    }

pub moved_value : (kinds : List Kind) (at : ObjectNets) (old new : Circuit) (op : BinOp) (a b : Expression) (by : Move) (x z : Operand) → AreSound kinds → HasSomeType kinds (Binary op a b)
    → HasConstants (length old.nodes) at → move_of op b ≡ Some by → IsValue kinds at a old new x → z.nets ≡ moved_nets at.zero by x → z.signed ≡ x.signed
    → IsValue kinds at (Binary op a b) old new z
moved_value kinds at old new op a b by x z sound has there moves first is sign =
    let move = is_move kinds op a b by has moves in
    let args = reached at (Binary op a b) in
    let some : 1 ≤ length x.nets = let h = width_some kinds a sound (left_typed kinds op a b has) in let w = first.width in omega arith in
    let within : IsWithin by (length x.nets) = rw first.width move.facts.within in
    let wide = Makes-over first.made (over_left at (read_nets at a) (read_nets at b)) in
    let held_now : (v : ℕ → Bool) → v at.zero ≡ false → held x.signed v (moved_nets at.zero by x) ≡ moved_number by (held x.signed v x.nets) =
    λ v low. moved_held v at.zero by x some within low in
    let longer = Adds-longer first.made.adds in
    let zero_there : at.zero < length new.nodes = let z0 = there.zero in omega arith in
    let size : length (moved_nets at.zero by x) ≡ width_of kinds (Binary op a b) =
    moved_size at.zero by x within ∙ move.facts.width (held x.signed (λ k. false) x.nets) (width_of kinds b) first.width in
    subst (λ l. IsValue kinds at (Binary op a b) old new (operand l z.signed)) (sym is) (record {
      width = size;
      signed = sign ∙ first.signed ∙ sym (move.facts.signed (sign_of kinds a));
      made = Makes-as wide (omega arith)
          (moved_all (λ k. k < length new.nodes) at.zero by x some zero_there wide.there)
          (moved_all (Over new.nodes args) at.zero by x some (over_zero at (read_nets at a ++ read_nets at b)) wide.reach)
          (λ v h w same low high reads.
          ap (λ s. held s v (moved_nets at.zero by x)) (move.facts.signed (sign_of kinds a) ∙ sym first.signed)
          ∙ held_now v low ∙ ap (λ s. moved_number by (held s v x.nets)) first.signed ∙ ap (moved_number by) (h w same low high reads.0)
          ∙ sym (move.facts.is (number_of w a) (number_of w b) (move.bits w)));
    })

pub slice_value : (kinds : List Kind) (at : ObjectNets) (old new : Circuit) (a : Expression) (high low : ℕ) (x z : Operand) → HasSomeType kinds (Slice a high low)
    → IsValue kinds at a old new x → z.nets ≡ take (high - low + 1) (drop low x.nets) → z.signed ≡ false → IsValue kinds at (Slice a high low) old new z
slice_value kinds at old new a high low x z has first is sign =
    let order = sliced_order kinds a high low has in
    let inside = sliced_within kinds a high low has in
    let width = first.width in
    let within : high < length x.nets = omega arith in
    let cut = take (high - low + 1) (drop low x.nets) in
    let made = first.made in
    subst (λ l. IsValue kinds at (Slice a high low) old new (operand l z.signed)) (sym is) (record {
      width = length-take-le (high - low + 1) (drop low x.nets) (omega (arith, length-drop low x.nets));
      signed = sign;
      made = Makes-as made (omega arith)
          (All-take (λ k. k < length new.nodes) (high - low + 1) (drop low x.nets) (All-drop (λ k. k < length new.nodes) low x.nets made.there))
          (All-take (Over new.nodes (reached at a)) (high - low + 1) (drop low x.nets) (All-drop (Over new.nodes (reached at a)) low x.nets made.reach))
          (λ v h w same clear set reads. sliced_held (sign_of kinds a) v x.nets high low order within ∙ ap (λ n. bit_range n high low) (h w same clear set reads));
    })

pub choice_value : (kinds : List Kind) (at : ObjectNets) (old mid last near new : Circuit) (c a b : Expression) (p x y z : Operand) → HasSomeType kinds (Choice c a b)
    → IsValue kinds at c old mid p → IsValue kinds at a mid last x → IsValue kinds at b last near y → length z.nets ≡ length x.nets → z.signed ≡ x.signed
    → Makes (length p.nets + (3 * length x.nets + 1)) (p.nets ++ (x.nets ++ y.nets)) near new z.nets
    (λ v. (r s : Bool) → held s v z.nets ≡ (if holds (held r v p.nets) then held s v x.nets else held s v y.nets))
    → IsValue kinds at (Choice c a b) old new z
choice_value kinds at old mid last near new c a b p x y z has condition first second width sign own =
    let types = choice_typed kinds c a b has in
    let rest = read_nets at a ++ read_nets at b in
    let args = reached at (Choice c a b) in
    let one = Makes-over condition.made (over_left at (read_nets at c) rest) in
    let two = Makes-over first.made (over_left at (read_nets at a) (read_nets at b)) in
    let sides = Makes-then two second.made (over_right at (read_nets at a) (read_nets at b)) in
    let all = Makes-then one sides (over_right at (read_nets at c) rest) in
    let c_width = condition.width in
    let a_width = first.width in
    record {
      width = width ∙ first.width;
      signed = sign ∙ first.signed;
      made = Makes-holds (Makes-last all own all.reach) (omega (arith, c_width, a_width)) (λ v h w same low high reads.
          h.1 (sign_of kinds c) (sign_of kinds a)
          ∙ ap (λ n. if holds n then held (sign_of kinds a) v x.nets else held (sign_of kinds a) v y.nets) (h.0.0 w same low high reads.0)
          ∙ ap (λ n. if holds (number_of w c) then n else held (sign_of kinds a) v y.nets) (h.0.1.0 w same low high reads.1.0)
          ∙ ap (λ s. if holds (number_of w c) then number_of w a else held s v y.nets) (sym types.signed)
          ∙ ap (λ n. if holds (number_of w c) then number_of w a else n) (h.0.1.1 w same low high reads.1.1));
    }
