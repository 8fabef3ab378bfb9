-- What a check answers.
use Rattle.std.specs.Prelude.{◌≡◌, Result, Ok, Err}
use Rattle.hc_tree.specs.declared.refusal.Refusal.{Refusal}
use Rattle.hc_tree.specs.declared.refusal.FrontErr.{FrontErr}
use Rattle.hc_tree.specs.declared.refusal.FrontErr.TheVariants.{Refused, NoMemory}

-- an error is want of memory, or a refusal of which this holds
abbrev pub IfRefused : FrontErr → (Refusal → Type 0) → Type 0
IfRefused (Refused r) holds = holds r
IfRefused NoMemory holds = Unit

-- a result is this refusal, or want of memory
abbrev pub IsRefusal : {A : Type 0} → Refusal → Result A FrontErr → Type 0
IsRefusal r (Ok a) = ⊥
IsRefusal r (Err e) = IfRefused e (λ q. q ≡ r)
