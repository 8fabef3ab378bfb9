-- For each object there is the number of inputs before it.
use Rattle.std.proofs.Common.{◌≡◌, ◌<◌, ℕ, zero, suc, ◌+◌, List, [], ◌∷◌, length, get_or, refl, ap, ◌∙◌, arith}
use Rattle.std.proofs.lemmas.List.{length-map}
use Rattle.hc_core.specs.Typed.{kinds_of}
use Rattle.hc_core.specs.declared.object.Kind.{Kind}
use Rattle.hc_core.specs.declared.object.Object.{Object}
use Rattle.hc_meaning.specs.Value.{inputs_before}
use Rattle.hc_meaning.specs.Clock.{each_from}
use Rattle.hc_sim.specs.Readable.{input_places}

size : (f : ℕ → ℕ) (j : ℕ) (kinds : List Kind) → length (each_from (λ k kind. f k) j kinds) ≡ length kinds
size f j [] = refl
size f j (kind ∷ kinds) = let h = size f (j + 1) kinds in ap suc h

at : (f : ℕ → ℕ) (j : ℕ) (kinds : List Kind) (k : ℕ) → k < length kinds → get_or (each_from (λ i kind. f i) j kinds) k 0 ≡ f (j + k)
at f j [] k h = absurd (omega arith)
at f j (kind ∷ kinds) zero h = ap f (omega arith)
at f j (kind ∷ kinds) (suc k) h = let e : j + 1 + k ≡ j + suc k = omega arith in at f (j + 1) kinds k (omega arith) ∙ ap f e

pub place_within : (objects : List Object) (places : List ℕ) (k : ℕ) → places ≡ input_places (kinds_of objects) → k < length objects → k < length places
place_within objects places k is h =
    let kinds = kinds_of objects in
    let s : length places ≡ length objects = ap length is ∙ size (inputs_before kinds) 0 kinds ∙ length-map objects (λ (o : Object). o.kind) in
    omega arith

pub place_is : (objects : List Object) (places : List ℕ) (k : ℕ) → places ≡ input_places (kinds_of objects) → k < length objects → get_or places k 0 ≡ inputs_before (kinds_of objects) k
place_is objects places k is h =
    let kinds = kinds_of objects in
    let s : length kinds ≡ length objects = length-map objects (λ (o : Object). o.kind) in
    let z : 0 + k ≡ k = omega arith in
    ap (λ l. get_or l k 0) is ∙ at (inputs_before kinds) 0 kinds k (omega arith) ∙ ap (inputs_before kinds) z
