-- Items one after another.
use Rattle.std.proofs.Common.{◌≡◌, ◌-◌, List, ◌∷◌, length, take, drop, All, sym, ap, ◌∙◌, subst}
use Rattle.std.proofs.lemmas.List.{take_rest}
use Rattle.std.proofs.lemmas.List.Elements.{All-head, All-rest}
use Rattle.hc_tree.specs.declared.item.Item.{Item}
use Rattle.hc_scope.specs.Expands.{Items, items}
use Rattle.hc_scope.specs.Expansion.{Yields, and_then}
use Rattle.hc_declare.specs.Items.{item_node}
use Rattle.hc_scope.specs.Parts.{Parts}
use Rattle.hc_scope.specs.Plain.{IsPlainItem}
use Rattle.hc_scope.specs.declared.state.State.{State}

-- one more item
pub items_step : (p : Parts) (all list : List Item) (x : Item) (i j k : Items) (s t u : State) → items p i all s ≡ items p j list t → list ≡ x ∷ drop 1 list
    → item_node p j x t ≡ Yields k u → items p i all s ≡ items p k (take (length list - 1) (drop 1 list)) u
items_step p all list x i j k s t u is apart step =
    is ∙ ap (λ (l : List Item). items p j l t) apart ∙ ap (λ o. and_then o (λ (m : Items). items p m (drop 1 list))) step
    ∙ ap (λ (l : List Item). items p k l u) (sym (take_rest list 1))

pub first_plain : (list : List Item) (x : Item) → list ≡ x ∷ drop 1 list → All IsPlainItem list → IsPlainItem x
first_plain list x apart plain = All-head IsPlainItem x (drop 1 list) (subst (All IsPlainItem) apart plain)

pub rest_plain : (list : List Item) (x : Item) → list ≡ x ∷ drop 1 list → All IsPlainItem list → All IsPlainItem (take (length list - 1) (drop 1 list))
rest_plain list x apart plain = subst (All IsPlainItem) (sym (take_rest list 1)) (All-rest IsPlainItem x (drop 1 list) list apart plain)
