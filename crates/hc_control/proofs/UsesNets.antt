-- The nets that stand for objects, as expressions and stores want them.
use Rattle.std.proofs.Common.{◌≡◌, ◌<◌, ℕ, ◌*◌, List, length, ◌++◌, Bool, true, false, Some, None, ap, sym, ◌∙◌, subst, arith}
use Rattle.std.specs.Prelude.{◌&&◌}
use Rattle.std.proofs.lemmas.Bool.{and_parts}
use Rattle.std.proofs.lemmas.List.{get_or_append_left}
use Rattle.hc_core.specs.Program.{Expression}
use Rattle.hc_core.specs.Typed.{Typed, constant, register, signal, input, element, ram_word, rom_word, negative, complement, is_zero, to_signed, to_unsigned, arithmetic, division, bitwise, comparison, shift, joining, taking, dropping, logic, slice, choice, kind_width}
use Rattle.hc_core.specs.Weight.{kind_length}
use Rattle.hc_core.specs.declared.object.Kind.{Kind}
use Rattle.hc_core.specs.declared.object.Kind.TheVariants as kind
use Rattle.hc_net.specs.Circuit.{Circuit, node_at, constant_at}
use Rattle.hc_net.specs.Made.{Adds}
use Rattle.hc_net.specs.MadeLemmas.{Adds-longer, Adds-there}
use Rattle.hc_net.specs.declared.node.Node.{Node}
use Rattle.hc_net.specs.declared.node.Node.TheVariants.{Wire}
use Rattle.hc_value.specs.Objects.{nets_of, AreNets}
use Rattle.hc_value.specs.Reads.{HasNets}
use Rattle.hc_value.specs.declared.objects.ObjectNets.{ObjectNets}
use Rattle.hc_control.specs.Built.{is_built_expression}
use Rattle.hc_control.specs.Right.{HasPlaces}

-- ---- what an expression reads

-- The nets that a typed expression of built forms reads are those of objects.
pub has_nets : (kinds : List Kind) (nodes : List Node) (at : ObjectNets) → HasPlaces kinds nodes at → (e : Expression) (w : ℕ) (s : Bool) → Typed kinds e w s → is_built_expression e ≡ true
    → HasNets kinds at (length nodes) e
has_nets kinds nodes at places _ _ _ (constant n is) built = tt
has_nets kinds nodes at places _ _ _ (register k w s init is) built =
    let nets : AreNets (length nodes) w (nets_of at k) = places.each k (kind.Reg w s init) is in
    subst (λ o. AreNets (length nodes) (kind_width o) (nets_of at k)) (sym is) nets
has_nets kinds nodes at places _ _ _ (signal k w s unset is) built = absurd cc
has_nets kinds nodes at places _ _ _ (input k w s pins is) built =
    let nets : AreNets (length nodes) w (nets_of at k) = places.each k (kind.Input w s pins) is in
    subst (λ o. AreNets (length nodes) (kind_width o) (nets_of at k)) (sym is) nets
has_nets kinds nodes at places _ _ _ (element k w n s init i is t) built =
    let nets : AreNets (length nodes) (n * w) (nets_of at k) = places.each k (kind.Array w s n init) is in
    (subst (λ o. AreNets (length nodes) (kind_length o * kind_width o) (nets_of at k)) (sym is) nets, has_nets kinds nodes at places i _ _ t built)
has_nets kinds nodes at places _ _ _ (ram_word k w n s init i is t) built = absurd cc
has_nets kinds nodes at places _ _ _ (rom_word k w n s init i is t) built = absurd cc
has_nets kinds nodes at places _ _ _ (negative a w s t) built = has_nets kinds nodes at places a _ _ t built
has_nets kinds nodes at places _ _ _ (complement a w s t) built = has_nets kinds nodes at places a _ _ t built
has_nets kinds nodes at places _ _ _ (is_zero a w s t) built = has_nets kinds nodes at places a _ _ t built
has_nets kinds nodes at places _ _ _ (to_signed a w s t) built = has_nets kinds nodes at places a _ _ t built
has_nets kinds nodes at places _ _ _ (to_unsigned a w s t) built = has_nets kinds nodes at places a _ _ t built
has_nets kinds nodes at places _ _ _ (arithmetic op a b w s is t u) built =
    let both = and_parts (is_built_expression a) (is_built_expression b) built in
    (has_nets kinds nodes at places a _ _ t both.0, has_nets kinds nodes at places b _ _ u both.1)
has_nets kinds nodes at places _ _ _ (division op a b w is t u) built =
    let both = and_parts (is_built_expression a) (is_built_expression b) built in
    (has_nets kinds nodes at places a _ _ t both.0, has_nets kinds nodes at places b _ _ u both.1)
has_nets kinds nodes at places _ _ _ (bitwise op a b w s is t u) built =
    let both = and_parts (is_built_expression a) (is_built_expression b) built in
    (has_nets kinds nodes at places a _ _ t both.0, has_nets kinds nodes at places b _ _ u both.1)
has_nets kinds nodes at places _ _ _ (comparison op a b w s is t u) built =
    let both = and_parts (is_built_expression a) (is_built_expression b) built in
    (has_nets kinds nodes at places a _ _ t both.0, has_nets kinds nodes at places b _ _ u both.1)
has_nets kinds nodes at places _ _ _ (shift op a b w v s is t u) built =
    let both = and_parts (is_built_expression a) (is_built_expression b) built in
    (has_nets kinds nodes at places a _ _ t both.0, has_nets kinds nodes at places b _ _ u both.1)
has_nets kinds nodes at places _ _ _ (joining op a b w v s r is t u most) built =
    let both = and_parts (is_built_expression a) (is_built_expression b) built in
    (has_nets kinds nodes at places a _ _ t both.0, has_nets kinds nodes at places b _ _ u both.1)
has_nets kinds nodes at places _ _ _ (taking op a n w s is t amount least most) built = (has_nets kinds nodes at places a _ _ t (and_parts (is_built_expression a) true built).0, tt)
has_nets kinds nodes at places _ _ _ (dropping op a n w s is t amount most) built = (has_nets kinds nodes at places a _ _ t (and_parts (is_built_expression a) true built).0, tt)
has_nets kinds nodes at places _ _ _ (logic op a b w v s r is t u) built =
    let both = and_parts (is_built_expression a) (is_built_expression b) built in
    (has_nets kinds nodes at places a _ _ t both.0, has_nets kinds nodes at places b _ _ u both.1)
has_nets kinds nodes at places _ _ _ (slice a high low w s t least most) built = has_nets kinds nodes at places a _ _ t built
has_nets kinds nodes at places _ _ _ (choice c a b v w r s t u x) built =
    let all = and_parts (is_built_expression c) (is_built_expression a && is_built_expression b) built in
    let both = and_parts (is_built_expression a) (is_built_expression b) all.1 in
    (has_nets kinds nodes at places c _ _ t all.0, (has_nets kinds nodes at places a _ _ u both.0, has_nets kinds nodes at places b _ _ x both.1))

-- ---- among more nodes

constant_node : (old more : List Node) (k : ℕ) (b : Bool) → k < length old → constant_at (node_at old k) ≡ Some b → constant_at (node_at (old ++ more) k) ≡ Some b
constant_node old more k b within is = ap constant_at (get_or_append_left old more (Wire 0 None) k within) ∙ is

-- objects keep their nets where gates are added
pub places_kept : {most : ℕ} {old new : Circuit} (kinds : List Kind) (at : ObjectNets) → Adds most old new → HasPlaces kinds old.nodes at → HasPlaces kinds new.nodes at
places_kept {old = old} {new = new} kinds at adds places =
    let longer = Adds-longer adds in
    record {
      count = places.count;
      each = λ k x is. let nets = places.each k x is in record { count = nets.count; there = Adds-there (nets_of at k) adds nets.there };
      zero = subst (λ (l : List Node). constant_at (node_at l at.zero) ≡ Some false) (sym adds.nodes) (constant_node old.nodes adds.gates at.zero false places.constants.zero places.zero);
      one = subst (λ (l : List Node). constant_at (node_at l at.one) ≡ Some true) (sym adds.nodes) (constant_node old.nodes adds.gates at.one true places.constants.one places.one);
      constants = record { zero = let z = places.constants.zero in omega arith; one = let o = places.constants.one in omega arith };
    }
