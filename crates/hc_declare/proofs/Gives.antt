-- What holds of whatever an expansion gives.
use Rattle.std.proofs.Common.{◌≡◌, refl, subst}
use Rattle.hc_tree.specs.declared.place.Place.{Place}
use Rattle.hc_tree.specs.declared.refusal.Rule.{Rule}
use Rattle.hc_tree.specs.declared.refusal.Detail.{Detail}
use Rattle.hc_scope.specs.Expansion.{Outcome, Yields, Refuses, Expansion, and_then, ◌>>=◌, pure, refuse}
use Rattle.hc_scope.specs.declared.state.State.{State}

-- this holds of what an expansion gives, if it gives anything
pub record Gives {A : Type 0} (P : A → Type 0) (e : Expansion A) : Type 0 where
  pub each : (s s' : State) (a : A) → e s ≡ Yields a s' → P a

same_value : {A : Type 0} (a b : A) (s t : State) → Yields a s ≡ Yields b t → a ≡ b
same_value a b s t is = cc

pub gives_any : {A : Type 0} (e : Expansion A) → Gives (λ (a : A). Unit {0}) e
gives_any e = record { each = λ s s' a is. tt }

pub gives_pure : {A : Type 0} (P : A → Type 0) (a : A) → P a → Gives P (pure a)
gives_pure P a holds = record { each = λ s s' b is. subst P (same_value a b s s' is) holds }

pub gives_refuse : {A : Type 0} (P : A → Type 0) (rule : Rule) (place : Place) (detail : Detail) → Gives P (refuse rule place detail)
gives_refuse P rule place detail = record { each = λ s s' a is. absurd (cc) }

pub gives_then : {A B : Type 0} (Q : A → Type 0) (P : B → Type 0) (e : Expansion A) (next : A → Expansion B)
    → Gives Q e → ((a : A) → Q a → Gives P (next a)) → Gives P (e >>= next)
gives_then {A} {B} Q P e next first more = record { each = λ s s' b is. step s s' b (e s) refl is }
  where
    step : (s s' : State) (b : B) (o : Outcome A) → e s ≡ o → and_then o next ≡ Yields b s' → P b
    step s s' b (Yields a t) of is = (more a (first.each s t a of)).each t s' b is
    step s s' b (Refuses r) of is = absurd (cc)

-- behind any step
pub gives_behind : {A B : Type 0} (P : B → Type 0) (e : Expansion A) (next : A → Expansion B) → ((a : A) → Gives P (next a)) → Gives P (e >>= next)
gives_behind P e next more = gives_then (λ a. Unit {0}) P e next (gives_any e) (λ a u. more a)
