-- What a constant is that takes a type.
use Rattle.std.proofs.Common.{◌≡◌, ℕ, zero, suc, Bool, ℤ, not, subst, refl, List, [], ◌∷◌, ◌++◌, arith}
use Rattle.std.specs.List.{All}
use Rattle.std.proofs.lemmas.List.Elements.{All-append}
use Rattle.hc_num.specs.Number.{Number}
use Rattle.hc_core.specs.Program.{Constant}
use Rattle.hc_core.specs.Typed.{Typed, constant}
use Rattle.hc_core.specs.Sound.{HasType, IsWidth}
use Rattle.hc_core.specs.declared.object.Kind.{Kind}
use Rattle.hc_tree.specs.declared.refusal.Rule.TheVariants.{S11}
use Rattle.hc_width.specs.Whole.{fits, number_in}
use Rattle.hc_width.specs.Judged.{Gives}
use Rattle.hc_width.specs.Unary.{fitted}
use Rattle.hc_width.proofs.Kept.{number_is}
use Rattle.hc_width.proofs.Steps.{unless_gives}

fitted_is : (w : ℕ) (s : Bool) (v : ℤ) (n : Number) → fitted w s v ≡ Gives n → number_in w s v ≡ n
unfolding fitted
fitted_is w s v n is =
    let other = (unless_gives (not (fits w v)) S11 (Gives (number_in w s v)) n is).1 in
    cc

-- it is a number of that type
pub fitted_has : (w : ℕ) (s : Bool) (v : ℤ) (n : Number) → fitted w s v ≡ Gives n → IsWidth w → HasType w s n
fitted_has w s v n is width =
    let has : HasType w s (number_in w s v) = record { number = number_is w s v width.least width.most; width = refl; signed = refl } in
    subst (λ (m : Number). HasType w s m) (fitted_is w s v n is) has

-- and has that type as an expression
pub fitted_typed : (kinds : List Kind) (w : ℕ) (s : Bool) (v : ℤ) (n : Number) → fitted w s v ≡ Gives n → IsWidth w → Typed kinds (Constant n) w s
fitted_typed kinds w s v n is width =
    subst (λ (m : Number). Typed kinds (Constant m) w s) (fitted_is w s v n is) (constant (number_in w s v) (number_is w s v width.least width.most))

one_typed : (w : ℕ) (s : Bool) (n : Number) → HasType w s n → All (HasType w s) (n ∷ [])
one_typed w s n is zero d within = is
one_typed w s n is (suc k) d within = absurd (omega arith)

-- one more number of a type
pub one_more_typed : (w : ℕ) (s : Bool) (numbers : List Number) (n : Number) → All (HasType w s) numbers → HasType w s n → All (HasType w s) (numbers ++ n ∷ [])
one_more_typed w s numbers n all is = All-append (HasType w s) numbers (n ∷ []) all (one_typed w s n is)
