-- Lists that are expanded part by part.
use Rattle.std.specs.Prelude.{◌≡◌, List, ◌++◌, Result, Ok, Err}
use Rattle.hc_tree.specs.declared.refusal.FrontErr.{FrontErr}
use Rattle.hc_tree.specs.declared.refusal.FrontErr.TheVariants.{Refused, NoMemory}
use Rattle.hc_scope.specs.Expansion.{Outcome, Refuses, Expansion, and_then, pure, each}

-- what the rest of a list gives, behind what was given before
abbrev pub behind : {A B : Type 0} → (A → Expansion B) → List B → List A → Expansion (List B)
behind f before rest = λ s. and_then (each f rest s) (λ more. pure (before ++ more))

-- a step of an expansion was taken, and this is what is left of it; or the refusal; or want of memory
abbrev pub Continues : {A : Type 0} → Outcome A → Outcome A → Result (Unit {0}) FrontErr → Type 0
Continues whole left (Ok u) = whole ≡ left
Continues whole left (Err (Refused r)) = whole ≡ Refuses r
Continues whole left (Err NoMemory) = Unit {0}
