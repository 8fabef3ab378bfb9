-- Parts of the nets that a circuit is over.
use Rattle.std.proofs.Common.{◌<◌, ℕ, ◌+◌, Bool, List, [], ◌∷◌, ◌++◌, length, get_or, subst, refl, ◌∙◌, arith, length-append}
use Rattle.std.specs.Prelude.{All, IfOk, Result, Ok, Err}
use Rattle.std.proofs.lemmas.List.{get_or_append_left, get_or-append-add, get_or_default}
use Rattle.std.proofs.lemmas.List.Elements.{All-nil, All-cons}
use Rattle.hc_net.specs.Circuit.{Circuit}
use Rattle.hc_net.specs.Made.{Over, argument, Makes}
use Rattle.hc_net.specs.MadeLemmas.{Over-over, Adds-over}
use Rattle.hc_net.specs.declared.node.Node.{Node}

pub All-left : {X : Type 0} (P : X → Type 0) (xs ys : List X) → All P (xs ++ ys) → All P xs
All-left P xs ys all i d within = subst P (get_or_append_left xs ys d i within) (all i d (omega (arith, length-append xs ys, within)))

pub All-right : {X : Type 0} (P : X → Type 0) (xs ys : List X) → All P (xs ++ ys) → All P ys
All-right P xs ys all i d within = subst P (get_or-append-add xs ys i d) (all (length xs + i) d (omega (arith, length-append xs ys, within)))

pub All-one : {X : Type 0} (P : X → Type 0) (x : X) → P x → All P (x ∷ [])
All-one P x px = All-cons P x [] px (All-nil P)

pub All-two : {X : Type 0} (P : X → Type 0) (x y : X) → P x → P y → All P (x ∷ y ∷ [])
All-two P x y px py = All-cons P x (y ∷ []) px (All-one P y py)

pub All-three : {X : Type 0} (P : X → Type 0) (x y z : X) → P x → P y → P z → All P (x ∷ y ∷ z ∷ [])
All-three P x y z px py pz = All-cons P x (y ∷ z ∷ []) px (All-two P y z py pz)

-- each net of a list of nets is over that list
pub Over-at : {nodes : List Node} (xs : List ℕ) (i : ℕ) → i < length xs → Over nodes xs (get_or xs i 0)
Over-at xs i within = argument _ i within refl

pub Over-right : {nodes : List Node} (xs ys : List ℕ) → All (Over nodes (xs ++ ys)) ys
Over-right xs ys i d within =
    argument _ (length xs + i) (omega (arith, length-append xs ys, within)) (get_or-append-add xs ys i 0 ∙ get_or_default ys i 0 d within)

-- a circuit over nets that are over others, as a circuit over those
pub Makes-wider : {m : ℕ} {args wide nets : List ℕ} {old new : Circuit} {holds : (ℕ → Bool) → Type 0}
    → Makes m args old new nets holds → All (Over new.nodes wide) args → Makes m wide old new nets holds
Makes-wider a over = record { adds = a.adds; there = a.there; reach = λ i d within. Over-over over (a.reach i d within); value = a.value }

-- the same for nets that are over those before the circuit was added
pub Makes-over : {m : ℕ} {args few nets : List ℕ} {old new : Circuit} {holds : (ℕ → Bool) → Type 0}
    → Makes m few old new nets holds → All (Over old.nodes args) few → Makes m args old new nets holds
Makes-over {few = few} made over = Makes-wider made (Adds-over few made.adds over)

-- what two clauses of one call give together
pub IfOk-both : {X Y : Type 0} (r : Result X Y) (P Q R : X → Type 0) → ((x : X) → P x → Q x → R x) → IfOk r P → IfOk r Q → IfOk r R
IfOk-both (Ok x) P Q R f p q = f x p q
IfOk-both (Err e) P Q R f p q = tt
