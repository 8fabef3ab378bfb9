-- Elements and objects by their places in lists.
use Rattle.std.proofs.Common.{◌≡◌, ℕ, zero, suc, ◌+◌, ◌*◌, List, [], ◌∷◌, length, map, take, drop, get_or, Bool, Some, ap, sym, ◌∙◌}
use Rattle.std.specs.Prelude.{slice_get}
use Rattle.std.proofs.lemmas.List.{take-map, drop-map}
use Rattle.std.proofs.lemmas.List.FromFn.{length-range_with_len}
use Rattle.hc_core.specs.declared.object.Kind.{Kind}
use Rattle.hc_bits.specs.Elements.{element_nets}
use Rattle.hc_control.specs.Right.{net_count}
use Rattle.hc_build.specs.Objects.{nets_from}

-- elements of two lists of nets that hold the same bits
pub element_same : (f g : ℕ → Bool) (w : ℕ) (a b : List ℕ) (j : ℕ) → map f a ≡ map g b → map f (element_nets w a j) ≡ map g (element_nets w b j)
element_same f g w a b j same =
    sym (take-map f w (drop (j * w) a)) ∙ ap (take w) (sym (drop-map f (j * w) a)) ∙ ap (λ (l : List Bool). take w (drop (j * w) l)) same
    ∙ ap (take w) (drop-map g (j * w) b) ∙ take-map g w (drop (j * w) b)

-- an object has as many nets as its kind says
pub nets_count : (base k : ℕ) (kinds : List Kind) (kind : Kind) → slice_get kinds k ≡ Some kind → length (get_or (nets_from base kinds) k []) ≡ net_count kind
nets_count base k [] kind is = absurd cc
nets_count base zero (x ∷ kinds) kind is = length-range_with_len base (net_count x) ∙ ap net_count (let e : x ≡ kind = cc in e)
nets_count base (suc k) (x ∷ kinds) kind is = nets_count (base + net_count x) k kinds kind is
