-- Pins of ports.
use Rattle.std.proofs.Common.{◌≡◌, ◌<◌, ◌-◌, ℕ, List, [], length, reverse, inl, inr, refl, subst, sym, ◌∙◌, arith}
use Rattle.std.specs.List.{All}
use Rattle.std.proofs.lemmas.List.{length-reverse, get_or-reverse}
use Rattle.hc_core.specs.Sound.{HasLabelBytes, IsPort, IsWidth}

all_reversed : {A : Type 0} (P : A → Type 0) (xs : List A) → All P xs → All P (reverse xs)
all_reversed P xs all k d within =
    let same = length-reverse xs in
    let below : k < length xs = omega arith in
    subst P (sym (get_or-reverse xs k d below)) (all (length xs - 1 - k) d (omega arith))

pub no_port : (w : ℕ) → IsWidth w → IsPort w []
no_port w width = record { width = width; each_bit = inl refl; labels = λ k d within. absurd (omega arith) }

pub is_port : (w : ℕ) (texts pins : List (List ℕ)) → pins ≡ reverse texts → IsWidth w → length texts ≡ w → All HasLabelBytes texts → IsPort w pins
is_port w texts pins is width length_is plain =
    let here : IsPort w (reverse texts) = record { width = width; each_bit = inr (length-reverse texts ∙ length_is); labels = all_reversed HasLabelBytes texts plain } in
    subst (IsPort w) (sym is) here
