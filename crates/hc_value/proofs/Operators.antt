-- The circuit of each operator over its operands.
use Rattle.std.proofs.Common.{◌≡◌, ◌<◌, ◌≤◌, ℕ, ◌+◌, ◌*◌, ◌^◌, List, ◌++◌, length, map, Bool, true, false, not, ◌&&◌, ◌||◌, refl, ap, sym, ◌∙◌, subst, arith, length-append}
use Rattle.std.specs.Prelude.{All}
use Rattle.std.proofs.lemmas.List.Elements.{All-append}
use Rattle.hc_num.specs.Number.{Number}
use Rattle.hc_num.specs.Arithmetic.{negation}
use Rattle.hc_num.specs.Bits.{complement}
use Rattle.hc_num.specs.Compare.{truth, is_equal, is_less}
use Rattle.hc_num.specs.Parts.{joined}
use Rattle.hc_num.specs.Shift.{shifted_left, shifted_right}
use Rattle.hc_core.specs.Typed.{group_of, group_width, group_sign}
use Rattle.hc_core.specs.Weight.{binary_weight}
use Rattle.hc_core.specs.declared.expr.UnOp.{UnOp}
use Rattle.hc_core.specs.declared.expr.UnOp.TheVariants.{Neg, Not, IsZero, ToSigned, ToUnsigned}
use Rattle.hc_core.specs.declared.expr.BinOp.{BinOp}
use Rattle.hc_core.specs.declared.expr.BinOp.TheVariants.{Add, Sub, Mul, Div, Rem, And, Or, Xor, Eq, Ne, Lt, Le, Gt, Ge, Shl, Shr, Concat, Take, Drop, Both, Either}
use Rattle.hc_meaning.specs.Value.{holds, unary, binary}
use Rattle.hc_net.specs.Bits.{number}
use Rattle.hc_net.specs.Circuit.{Circuit}
use Rattle.hc_net.specs.Made.{Over, Makes}
use Rattle.hc_net.specs.MadeLemmas.{Makes-none, Makes-holds, Over-self, Over-left}
use Rattle.hc_bits.specs.Held.{held}
use Rattle.hc_muldiv.proofs.Circuits.{Over-right, Makes-over}
use Rattle.hc_value.specs.Operands.{number_on, Alike, Fits, MakesUnary, MakesBinary}
use Rattle.hc_value.specs.declared.operand.Operand.{Operand}
use Rattle.hc_value.proofs.Held.{held_as}
use Rattle.hc_value.proofs.Places.{joined_number}

abbrev pub operand : List ℕ → Bool → Operand
operand nets signed = record { nets = nets; signed = signed }

-- ---- one operand

pub negated : (op : UnOp) (old new : Circuit) (x z : List ℕ) (s : Bool) → op ≡ Neg → length z ≡ length x
    → Makes (8 * length x) x old new z (λ v. (r : Bool) → held r v z ≡ negation (held r v x)) → MakesUnary op (operand x s) old new (operand z s)
negated op old new x z s is width made =
    subst (λ o. MakesUnary o (operand x s) old new (operand z s)) (sym is) (record { width = width; signed = refl; made = Makes-holds made (omega arith) (λ v h. h s) })

pub inverted : (op : UnOp) (old new : Circuit) (x z : List ℕ) (s : Bool) → op ≡ Not → length z ≡ length x
    → Makes (length x) x old new z (λ v. (r : Bool) → held r v z ≡ complement (held r v x)) → MakesUnary op (operand x s) old new (operand z s)
inverted op old new x z s is width made =
    subst (λ o. MakesUnary o (operand x s) old new (operand z s)) (sym is) (record { width = width; signed = refl; made = Makes-holds made (omega arith) (λ v h. h s) })

pub zero_tested : (op : UnOp) (old new : Circuit) (x z : List ℕ) (s : Bool) → op ≡ IsZero → length z ≡ 1
    → Makes (length x + 1) x old new z (λ v. (r : Bool) → held false v z ≡ truth (not (holds (held r v x)))) → MakesUnary op (operand x s) old new (operand z false)
zero_tested op old new x z s is width made =
    subst (λ o. MakesUnary o (operand x s) old new (operand z false)) (sym is) (record { width = width; signed = refl; made = Makes-holds made (omega arith) (λ v h. h s) })

pub made_signed : (op : UnOp) (c : Circuit) (x : List ℕ) (s : Bool) → op ≡ ToSigned → All (λ k. k < length c.nodes) x → MakesUnary op (operand x s) c c (operand x true)
made_signed op c x s is there =
    subst (λ o. MakesUnary o (operand x s) c c (operand x true)) (sym is)
    (record { width = refl; signed = refl; made = Makes-holds (Makes-none c x x there (Over-self x)) (omega arith) (λ v h. refl) })

pub made_unsigned : (op : UnOp) (c : Circuit) (x : List ℕ) (s : Bool) → op ≡ ToUnsigned → All (λ k. k < length c.nodes) x → MakesUnary op (operand x s) c c (operand x false)
made_unsigned op c x s is there =
    subst (λ o. MakesUnary o (operand x s) c c (operand x false)) (sym is)
    (record { width = refl; signed = refl; made = Makes-holds (Makes-none c x x there (Over-self x)) (omega arith) (λ v h. refl) })

-- ---- two operands of one type

-- what an operator of a group wants, where it is one of that group
pub fits_at : (op o : BinOp) (x y : Operand) → op ≡ o → Fits (group_of op) x y → Fits (group_of o) x y
fits_at op o x y is fits = subst (λ p. Fits (group_of p) x y) is fits

pub room_at : (op o : BinOp) (n w v : ℕ) → op ≡ o → n + binary_weight op false w v < 2 ^ 32 → n + binary_weight o false w v < 2 ^ 32
room_at op o n w v is room = subst (λ p. n + binary_weight p false w v < 2 ^ 32) is room

-- an operator whose result has the type of both
pub alike_made : (op o : BinOp) (f : Number → Number → Number) (m : ℕ) (old new : Circuit) (x y : Operand) (z : List ℕ) → op ≡ o → Alike x y
    → ((a b : Number) → binary o a b ≡ f a b) → m ≤ binary_weight o false (length x.nets) (length y.nets)
    → ((n : ℕ) → group_width (group_of o) (length x.nets) (length y.nets) n ≡ length x.nets) → group_sign (group_of o) x.signed ≡ x.signed → length z ≡ length x.nets
    → Makes m (x.nets ++ y.nets) old new z (λ v. (s : Bool) → held s v z ≡ f (held s v x.nets) (held s v y.nets)) → MakesBinary op x y old new z
alike_made op o f m old new x y z is alike by le widths sign width made =
    subst (λ p. MakesBinary p x y old new z) (sym is) (record {
      width = λ n. width ∙ sym (widths n);
      made = Makes-holds made le (λ v h.
          ap (λ s. held s v z) sign ∙ h x.signed ∙ ap (λ s. f (held x.signed v x.nets) (held s v y.nets)) (sym alike.signed) ∙ sym (by (number_on v x) (number_on v y)));
    })

-- a comparison of both
pub answer_made : (op o : BinOp) (f : Number → Number → Bool) (m : ℕ) (old new : Circuit) (x y : Operand) (z : List ℕ) → op ≡ o → Alike x y
    → ((a b : Number) → binary o a b ≡ truth (f a b)) → m ≤ binary_weight o false (length x.nets) (length y.nets)
    → ((n : ℕ) → group_width (group_of o) (length x.nets) (length y.nets) n ≡ 1) → group_sign (group_of o) x.signed ≡ false → length z ≡ 1
    → Makes m (x.nets ++ y.nets) old new z (λ v. held false v z ≡ truth (f (held x.signed v x.nets) (held x.signed v y.nets))) → MakesBinary op x y old new z
answer_made op o f m old new x y z is alike by le widths sign width made =
    subst (λ p. MakesBinary p x y old new z) (sym is) (record {
      width = λ n. width ∙ sym (widths n);
      made = Makes-holds made le (λ v h.
          ap (λ s. held s v z) sign ∙ h ∙ ap (λ s. truth (f (held x.signed v x.nets) (held s v y.nets))) (sym alike.signed) ∙ sym (by (number_on v x) (number_on v y)));
    })

-- a circuit over two lists of nets, as one over them in the other order
pub turned_over : {m : ℕ} {old new : Circuit} {z : List ℕ} {holds_of : (ℕ → Bool) → Type 0} (x y : List ℕ)
    → Makes m (y ++ x) old new z holds_of → Makes m (x ++ y) old new z holds_of
turned_over {old = old} x y made = Makes-over made (All-append (Over old.nodes (x ++ y)) y x (Over-right x y) (Over-left x y))

-- ---- two operands of any types

-- the weights of a shift, and of a logical operator
regrouped : (w v : ℕ) → 4 * w * v + 4 * w ≡ 4 * (w * v) + 4 * w
regrouped w v = grind arith

pub left_made : (op : BinOp) (old new : Circuit) (x y : Operand) (z : List ℕ) → op ≡ Shl → length z ≡ length x.nets
    → Makes (4 * length x.nets * length y.nets + 4 * length x.nets) (x.nets ++ y.nets) old new z (λ v. (s : Bool) → held s v z ≡ shifted_left (held s v x.nets) (number (map v y.nets)))
    → MakesBinary op x y old new z
left_made op old new x y z is width made =
    let e = regrouped (length x.nets) (length y.nets) in
    subst (λ p. MakesBinary p x y old new z) (sym is) (record { width = λ n. width; made = Makes-holds made (omega (arith, e)) (λ v h. h x.signed) })

pub right_signed : (m : ℕ) (old new : Circuit) (x y z : List ℕ) (s t : Bool) → s ≡ t
    → Makes m (x ++ y) old new z (λ v. held t v z ≡ shifted_right (held t v x) (number (map v y)))
    → Makes m (x ++ y) old new z (λ v. held s v z ≡ shifted_right (held s v x) (number (map v y)))
right_signed m old new x y z s t is made =
    Makes-holds made (omega arith) (λ v h. ap (λ r. held r v z) is ∙ h ∙ ap (λ r. shifted_right (held r v x) (number (map v y))) (sym is))

pub right_made : (op : BinOp) (old new : Circuit) (x y : Operand) (z : List ℕ) → op ≡ Shr → length z ≡ length x.nets
    → Makes (4 * length x.nets * length y.nets + 4 * length x.nets) (x.nets ++ y.nets) old new z (λ v. held x.signed v z ≡ shifted_right (held x.signed v x.nets) (number (map v y.nets)))
    → MakesBinary op x y old new z
right_made op old new x y z is width made =
    let e = regrouped (length x.nets) (length y.nets) in
    subst (λ p. MakesBinary p x y old new z) (sym is) (record { width = λ n. width; made = Makes-holds made (omega (arith, e)) (λ v h. h) })

pub shift_room : (n w v : ℕ) → n + (4 * (w * v) + 4 * w) < 2 ^ 32 → n + (4 * w * v + 4 * w) < 2 ^ 32
shift_room n w v room = let e = regrouped w v in omega (arith, e)

pub joined_made : (op : BinOp) (c : Circuit) (x y : Operand) (z : List ℕ) → op ≡ Concat → All (λ k. k < length c.nodes) x.nets → All (λ k. k < length c.nodes) y.nets
    → z ≡ y.nets ++ x.nets → MakesBinary op x y c c z
joined_made op c x y z is left right z_is =
    let args = x.nets ++ y.nets in
    let P = λ (k : ℕ). k < length c.nodes in
    let Q = Over c.nodes args in
    let both = Makes-none c args (y.nets ++ x.nets) (All-append P y.nets x.nets right left) (All-append Q y.nets x.nets (Over-right x.nets y.nets) (Over-left x.nets y.nets)) in
    let size : length (y.nets ++ x.nets) ≡ length x.nets + length y.nets = omega (arith, length-append y.nets x.nets) in
    subst (λ (l : List ℕ). MakesBinary op x y c c l) (sym z_is)
    (subst (λ p. MakesBinary p x y c c (y.nets ++ x.nets)) (sym is) (record {
      width = λ n. size;
      made = Makes-holds both (omega arith) (λ v h. held_as x.signed x.signed v (y.nets ++ x.nets) (length x.nets + length y.nets) _ refl size
          (joined_number v y.nets x.nets ∙ turn (number (map v y.nets)) (2 ^ length y.nets) (number (map v x.nets))));
    }))
  where
    turn : (a p b : ℕ) → a + p * b ≡ b * p + a
    turn a p b = grind arith

pub both_operands : (op : BinOp) (old new : Circuit) (x y : Operand) (z : List ℕ) → op ≡ Both → length z ≡ 1
    → Makes (length x.nets + length y.nets + 1) (x.nets ++ y.nets) old new z (λ v. (s r : Bool) → held false v z ≡ truth (holds (held s v x.nets) && holds (held r v y.nets)))
    → MakesBinary op x y old new z
both_operands op old new x y z is width made =
    subst (λ p. MakesBinary p x y old new z) (sym is) (record { width = λ n. width; made = Makes-holds made (omega arith) (λ v h. h x.signed y.signed) })

pub either_operand : (op : BinOp) (old new : Circuit) (x y : Operand) (z : List ℕ) → op ≡ Either → length z ≡ 1
    → Makes (length x.nets + length y.nets + 1) (x.nets ++ y.nets) old new z (λ v. (s r : Bool) → held false v z ≡ truth (holds (held s v x.nets) || holds (held r v y.nets)))
    → MakesBinary op x y old new z
either_operand op old new x y z is width made =
    subst (λ p. MakesBinary p x y old new z) (sym is) (record { width = λ n. width; made = Makes-holds made (omega arith) (λ v h. h x.signed y.signed) })
