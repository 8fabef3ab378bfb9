-- The net of a condition: it is there, reaches no placeholder, and holds where the expression isn't 0.
use Rattle.std.proofs.Common.{◌≡◌, ◌≤◌, ℕ, ◌+◌, ◌*◌, List, [], ◌∷◌, length, get_or, Bool, true, false, not, ◌==◌, refl, ap, sym, ◌∙◌, subst, arith, if◌then◌else◌}
use Rattle.std.specs.Prelude.{All}
use Rattle.std.proofs.lemmas.List.Elements.{All-cons}
use Rattle.hc_num.specs.Number.{Number}
use Rattle.hc_num.specs.Compare.{truth as one_bit}
use Rattle.hc_core.specs.Program.{Expression, Constant, Register, Element, Word, Signal, Input, Unary, Binary, Slice, Choice}
use Rattle.hc_core.specs.Typed.{HasSomeType, Typed, width_of, sign_of}
use Rattle.hc_core.specs.Weigh.{AreSound}
use Rattle.hc_core.specs.Zero.{always_holds}
use Rattle.hc_core.specs.declared.object.Kind.{Kind}
use Rattle.hc_core.proofs.Bounds.{narrow}
use Rattle.hc_core.proofs.Types.{widths_are}
use Rattle.hc_meaning.specs.Value.{World, number_of}
use Rattle.hc_net.specs.Circuit.{Circuit}
use Rattle.hc_net.specs.Frame.{keeps_gates}
use Rattle.hc_net.specs.Made.{Makes}
use Rattle.hc_net.specs.MadeLemmas.{Adds-none, Adds-most, Adds-then, Over-within, Adds-extends}
use Rattle.hc_net.specs.Seal.{Within}
use Rattle.hc_bits.specs.Held.{held}
use Rattle.hc_token.specs.Kept.{all_within_kept}
use Rattle.hc_value.specs.Reads.{reached, read_nets, Holds, MakesValue}
use Rattle.hc_value.specs.declared.objects.ObjectNets.{ObjectNets}
use Rattle.hc_control.specs.Built.{is_built_expression}
use Rattle.hc_control.specs.Conditions.{CanTest, MakesCondition}
use Rattle.hc_control.specs.Right.{CanRead, IsRight}
use Rattle.hc_control.proofs.Adding.{never_within, always_within}
use Rattle.hc_control.proofs.ReadsNets.{reads, reads_all}

-- ---- nets that reach no placeholder

-- what an expression reads reaches no placeholder, nor do the constants
pub reached_low : (kinds : List Kind) (at : ObjectNets) (c : Circuit) (e : Expression) → CanRead kinds at c → HasSomeType kinds e → is_built_expression e ≡ true
    → All (Within c.nodes 0) (reached at e)
reached_low kinds at c e can (w, s, typed) built =
    All-cons (Within c.nodes 0) at.zero (at.one ∷ read_nets at e) (never_within at.zero can.places.zero)
    (All-cons (Within c.nodes 0) at.one (read_nets at e) (always_within at.one can.places.one)
    (reads_all can.low e w s typed built))

-- the circuit of an expression reaches no placeholder
pub value_low : (kinds : List Kind) (at : ObjectNets) (old new : Circuit) (e : Expression) (nets : List ℕ) → CanRead kinds at old → HasSomeType kinds e → is_built_expression e ≡ true
    → MakesValue kinds at e old new nets → All (Within new.nodes 0) nets
value_low kinds at old new e nets can typed built made i d within =
    Over-within (all_within_kept (keeps_gates made.adds) (reached at e) (reached_low kinds at old e can typed built)) (made.reach i d within)

-- ---- the value of an expression

-- In a world in which all is right the nets hold the expression's number.
pub value_right : (kinds : List Kind) (at : ObjectNets) (e : Expression) (nets : List ℕ) (v : ℕ → Bool) (w : World) → HasSomeType kinds e → is_built_expression e ≡ true
    → Holds kinds at e nets v → IsRight kinds at w v → held (sign_of kinds e) v nets ≡ number_of w e
value_right kinds at e nets v w (m, s, typed) built holding right =
    holding w right.kinds_are right.zero right.one
    (reads w at v right.read e m s (subst (λ (l : List Kind). Typed l e m s) (sym right.kinds_are) typed) built)

-- an expression has a bit at least
pub some_bit : (kinds : List Kind) (e : Expression) → AreSound kinds → HasSomeType kinds e → 1 ≤ width_of kinds e
some_bit kinds e sound (w, s, typed) = let n = narrow kinds sound e w s typed in let least = n.least in omega (arith, widths_are kinds e w s typed)

-- ---- conditions

never_holds : (n : Number) → n.bits ≡ 0 → always_holds (Constant n) ≡ true → ⊥
never_holds n is always = let e : (n.bits == 0) ≡ true = ap (λ b. b == 0) is in let f : not (n.bits == 0) ≡ true = always in absurd cc

-- a constant that is 0
pub tested_zero : (kinds : List Kind) (at : ObjectNets) (c : Circuit) (e : Expression) (n : Number) → e ≡ Constant n → n.bits ≡ 0 → CanRead kinds at c
    → MakesCondition kinds at e c c at.zero
tested_zero kinds at c e n form is can =
    subst (λ x. MakesCondition kinds at x c c at.zero) (sym form)
    (record {
      adds = Adds-most (omega arith) (Adds-none c);
      there = can.places.constants.zero;
      low = never_within at.zero can.places.zero;
      always = λ always. absurd (never_holds n is always);
      holds_where = λ trace h e t w right. right.zero ∙ sym (ap (λ b. not (b == 0)) is);
    })

-- a constant that isn't
pub tested_one : (kinds : List Kind) (at : ObjectNets) (c : Circuit) (e : Expression) (n : Number) → e ≡ Constant n → (n.bits == 0) ≡ false → CanRead kinds at c
    → MakesCondition kinds at e c c at.one
tested_one kinds at c e n form is can =
    subst (λ x. MakesCondition kinds at x c c at.one) (sym form)
    (record {
      adds = Adds-most (omega arith) (Adds-none c);
      there = can.places.constants.one;
      low = always_within at.one can.places.one;
      always = λ always. can.places.one;
      holds_where = λ trace h e t w right. right.one ∙ sym (ap not is);
    })

-- one bit as a number
bit_of : (x b : Bool) → (if x then 1 else 0) + 2 * 0 ≡ (if b then 1 else 0) → x ≡ b
bit_of true true e = refl
bit_of false false e = refl
bit_of true false e = absurd (omega arith)
bit_of false true e = absurd (omega arith)

bit_held : (v : ℕ → Bool) (z : List ℕ) (b : Bool) → length z ≡ 1 → held false v z ≡ one_bit b → v (get_or z 0 0) ≡ b
bit_held v [] b one is = absurd (omega arith)
bit_held v (k ∷ []) b one is = bit_of (v k) b (ap (λ (n : Number). n.bits) is)
bit_held v (k ∷ j ∷ z) b one is = absurd (omega arith)

-- any other expression
pub tested_value : (kinds : List Kind) (at : ObjectNets) (e : Expression) (old mid new : Circuit) (x z : List ℕ) → CanTest kinds at e old → (always_holds e ≡ true → ⊥)
    → length x ≡ width_of kinds e → MakesValue kinds at e old mid x
    → length z ≡ 1 → Makes (length x) x mid new z (λ v. (s : Bool) → held false v z ≡ one_bit (not ((held s v x).bits == 0)))
    → MakesCondition kinds at e old new (get_or z 0 0)
tested_value kinds at e old mid new x z can differs width valued one made = record {
  adds = Adds-most (omega (arith, width)) (Adds-then valued.adds made.adds);
  there = made.there 0 0 (omega (arith, one));
  low = Over-within (all_within_kept (keeps_gates made.adds) x (value_low kinds at old mid e x can.reads can.typed can.built valued)) (made.reach 0 0 (omega (arith, one)));
  always = λ always. absurd (differs always);
  holds_where = λ trace h ex t w right.
      bit_held (h t) z _ one (made.value trace h ex t (sign_of kinds e))
      ∙ ap (λ (n : Number). not (n.bits == 0))
      (value_right kinds at e x (h t) w can.typed can.built (valued.value trace h (Adds-extends made.adds trace h ex) t) right);
}

-- only a constant holds always
pub constant_only : (e : Expression) → always_holds e ≡ true → ((n : Number) → e ≡ Constant n → ⊥) → ⊥
constant_only (Constant n) always differs = differs n refl
constant_only (Register k) always differs = cc
constant_only (Element k i) always differs = cc
constant_only (Word k i) always differs = cc
constant_only (Signal k) always differs = cc
constant_only (Input k) always differs = cc
constant_only (Unary op a) always differs = cc
constant_only (Binary op a b) always differs = cc
constant_only (Slice a high low) always differs = cc
constant_only (Choice c a b) always differs = cc
