-- One append after the other.
use Rattle.std.specs.Prelude.{◌≡◌, ◌++◌, ◌∷◌, [], List}
use Rattle.std.proofs.Common.{◌∙◌, ap}
use Rattle.std.proofs.lemmas.List.{append_assoc, map_push}
use Rattle.std.proofs.lemmas.Result.{IfOk-equal}

pub ruleset appends = (append_assoc, IfOk-equal)

pub ruleset pushes = (append_assoc, IfOk-equal, map_push)

-- two elements more
pub two_more : {A : Type 0} (xs : List A) {ys zs : List A} (x y : A) → ys ≡ xs ++ x ∷ [] → zs ≡ ys ++ y ∷ [] → zs ≡ xs ++ x ∷ y ∷ []
two_more xs x y first second = second ∙ ap (λ t. t ++ y ∷ []) first ∙ append_assoc xs (x ∷ []) (y ∷ [])

-- two lists and an element more
pub three_more : {A : Type 0} (xs : List A) {ys zs us : List A} (a b : List A) (x : A) → ys ≡ xs ++ a → zs ≡ ys ++ b → us ≡ zs ++ x ∷ [] → us ≡ xs ++ (a ++ b ++ x ∷ [])
three_more xs a b x first second third =
    third ∙ ap (λ t. t ++ x ∷ []) (second ∙ ap (λ t. t ++ b) first ∙ append_assoc xs a b) ∙ append_assoc xs (a ++ b) (x ∷ [])

-- a list more, which is another
pub append_same : {A : Type 0} (xs : List A) {ys a b : List A} → a ≡ b → ys ≡ xs ++ a → ys ≡ xs ++ b
append_same xs is h = h ∙ ap (λ t. xs ++ t) is

-- five lists more
pub five_more : {A : Type 0} (xs : List A) {p q r s t : List A} (a b c d e : List A) → p ≡ xs ++ a → q ≡ p ++ b → r ≡ q ++ c → s ≡ r ++ d → t ≡ s ++ e → t ≡ xs ++ (a ++ b ++ c ++ d ++ e)
five_more xs a b c d e first second third fourth fifth =
    let two = second ∙ ap (λ l. l ++ b) first ∙ append_assoc xs a b in
    let three = third ∙ ap (λ l. l ++ c) two ∙ append_assoc xs (a ++ b) c in
    let four = fourth ∙ ap (λ l. l ++ d) three ∙ append_assoc xs (a ++ b ++ c) d in
    fifth ∙ ap (λ l. l ++ e) four ∙ append_assoc xs (a ++ b ++ c ++ d) e

-- a list more, which is another, behind one that is another
pub one_more_is : {A : Type 0} {xs ys piece a b : List A} → xs ≡ a → ys ≡ xs ++ piece → piece ≡ b → ys ≡ a ++ b
one_more_is {piece = piece} {a = a} first more same = more ∙ ap (λ t. t ++ piece) first ∙ ap (λ t. a ++ t) same
