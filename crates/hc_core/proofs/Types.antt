-- The type of an expression is the one that is computed.
use Rattle.std.proofs.Common.{◌≡◌, ℕ, ◌+◌, ◌-◌, List, Bool, false, refl, sym, ap, ◌∙◌}
use Rattle.hc_core.specs.Program.{Expression}
use Rattle.hc_core.specs.Typed.{Typed, constant, register, signal, input, element, ram_word, rom_word, negative, complement, is_zero, to_signed, to_unsigned, arithmetic, division, bitwise, comparison, shift, joining, taking, dropping, logic, slice, choice, Group, group_of, group_width, group_sign, width_of, sign_of, kind_width, kind_sign}
use Rattle.hc_core.specs.declared.expr.BinOp.{BinOp}
use Rattle.hc_core.specs.declared.object.Kind.{Kind}

-- the width that an operator's group gives
by_group : (op : BinOp) (group : Group) (w v n : ℕ) → group_of op ≡ group → group_width (group_of op) w v n ≡ group_width group w v n
by_group op group w v n is = ap (λ g. group_width g w v n) is

sign_by_group : (op : BinOp) (group : Group) (s : Bool) → group_of op ≡ group → group_sign (group_of op) s ≡ group_sign group s
sign_by_group op group s is = ap (λ g. group_sign g s) is

pub widths_are : (kinds : List Kind) (e : Expression) (w : ℕ) (s : Bool) → Typed kinds e w s → width_of kinds e ≡ w
widths_are kinds _ _ _ (constant n is) = refl
widths_are kinds _ _ _ (register k w s init is) = ap kind_width is
widths_are kinds _ _ _ (signal k w s unset is) = ap kind_width is
widths_are kinds _ _ _ (input k w s pins is) = ap kind_width is
widths_are kinds _ _ _ (element k w n s init i is t) = ap kind_width is
widths_are kinds _ _ _ (ram_word k w n s init i is t) = ap kind_width is
widths_are kinds _ _ _ (rom_word k w n s init i is t) = ap kind_width is
widths_are kinds _ _ _ (negative a w s t) = widths_are kinds a w s t
widths_are kinds _ _ _ (complement a w s t) = widths_are kinds a w s t
widths_are kinds _ _ _ (is_zero a v r t) = refl
widths_are kinds _ _ _ (to_signed a w r t) = widths_are kinds a w r t
widths_are kinds _ _ _ (to_unsigned a w r t) = widths_are kinds a w r t
widths_are kinds _ _ _ (arithmetic op a b w s is t u) = by_group op _ _ _ _ is ∙ widths_are kinds a w s t
widths_are kinds _ _ _ (division op a b w is t u) = by_group op _ _ _ _ is ∙ widths_are kinds a w false t
widths_are kinds _ _ _ (bitwise op a b w s is t u) = by_group op _ _ _ _ is ∙ widths_are kinds a w s t
widths_are kinds _ _ _ (comparison op a b v r is t u) = by_group op _ _ _ _ is
widths_are kinds _ _ _ (shift op a b w v s is t u) = by_group op _ _ _ _ is ∙ widths_are kinds a w s t
widths_are kinds _ _ _ (joining op a b x v s r is t u most) =
    by_group op _ _ _ _ is ∙ ap (λ n. n + width_of kinds b) (widths_are kinds a x s t) ∙ ap (λ n. x + n) (widths_are kinds b v r u)
widths_are kinds _ _ _ (taking op a n x s is t amount least most) = by_group op _ _ _ _ is
widths_are kinds _ _ _ (dropping op a n x s is t amount most) = by_group op _ _ _ _ is ∙ ap (λ m. m - n.bits) (widths_are kinds a x s t)
widths_are kinds _ _ _ (logic op a b x v p r is t u) = by_group op _ _ _ _ is
widths_are kinds _ _ _ (slice a high low x r t least most) = refl
widths_are kinds _ _ _ (choice c a b v w r s x t u) = widths_are kinds a w s t

pub signs_are : (kinds : List Kind) (e : Expression) (w : ℕ) (s : Bool) → Typed kinds e w s → sign_of kinds e ≡ s
signs_are kinds _ _ _ (constant n is) = refl
signs_are kinds _ _ _ (register k w s init is) = ap kind_sign is
signs_are kinds _ _ _ (signal k w s unset is) = ap kind_sign is
signs_are kinds _ _ _ (input k w s pins is) = ap kind_sign is
signs_are kinds _ _ _ (element k w n s init i is t) = ap kind_sign is
signs_are kinds _ _ _ (ram_word k w n s init i is t) = ap kind_sign is
signs_are kinds _ _ _ (rom_word k w n s init i is t) = ap kind_sign is
signs_are kinds _ _ _ (negative a w s t) = signs_are kinds a w s t
signs_are kinds _ _ _ (complement a w s t) = signs_are kinds a w s t
signs_are kinds _ _ _ (is_zero a v r t) = refl
signs_are kinds _ _ _ (to_signed a w r t) = refl
signs_are kinds _ _ _ (to_unsigned a w r t) = refl
signs_are kinds _ _ _ (arithmetic op a b w s is t u) = sign_by_group op _ _ is ∙ signs_are kinds a w s t
signs_are kinds _ _ _ (division op a b w is t u) = sign_by_group op _ _ is ∙ signs_are kinds a w false t
signs_are kinds _ _ _ (bitwise op a b w s is t u) = sign_by_group op _ _ is ∙ signs_are kinds a w s t
signs_are kinds _ _ _ (comparison op a b v r is t u) = sign_by_group op _ _ is
signs_are kinds _ _ _ (shift op a b w v s is t u) = sign_by_group op _ _ is ∙ signs_are kinds a w s t
signs_are kinds _ _ _ (joining op a b x v s r is t u most) = sign_by_group op _ _ is ∙ signs_are kinds a x s t
signs_are kinds _ _ _ (taking op a n x s is t amount least most) = sign_by_group op _ _ is ∙ signs_are kinds a x s t
signs_are kinds _ _ _ (dropping op a n x s is t amount most) = sign_by_group op _ _ is ∙ signs_are kinds a x s t
signs_are kinds _ _ _ (logic op a b x v p r is t u) = sign_by_group op _ _ is
signs_are kinds _ _ _ (slice a high low x r t least most) = refl
signs_are kinds _ _ _ (choice c a b v w r s x t u) = signs_are kinds a w s t

pub one_type : (kinds : List Kind) (e : Expression) (w w' : ℕ) (s s' : Bool) → Typed kinds e w s → Typed kinds e w' s' → (w ≡ w') × (s ≡ s')
one_type kinds e w w' s s' t u =
    (sym (widths_are kinds e w s t) ∙ widths_are kinds e w' s' u, sym (signs_are kinds e w s t) ∙ signs_are kinds e w' s' u)
