-- What a call answers that expands a tree.
use Rattle.std.specs.Prelude.{◌≡◌, Result, Ok, Err}
use Rattle.hc_tree.specs.declared.refusal.Refusal.{Refusal}
use Rattle.hc_tree.specs.declared.refusal.FrontErr.{FrontErr}
use Rattle.hc_tree.specs.declared.refusal.FrontErr.TheVariants.{Refused, NoMemory}
use Rattle.hc_core.specs.declared.object.Core.{Core}

-- an error is want of memory, or a refusal of which this holds
abbrev pub IfRefused : FrontErr → (Refusal → Type 0) → Type 0
IfRefused (Refused r) holds = holds r
IfRefused NoMemory holds = Unit {0}

-- a result is this core, or want of memory
abbrev pub IsCore : Core → Result Core FrontErr → Type 0
IsCore core (Ok found) = found ≡ core
IsCore core (Err (Refused r)) = ⊥
IsCore core (Err NoMemory) = Unit {0}

-- a result is this refusal, or want of memory
abbrev pub IsRefusal : Refusal → Result Core FrontErr → Type 0
IsRefusal r (Ok core) = ⊥
IsRefusal r (Err e) = IfRefused e (λ q. q ≡ r)
