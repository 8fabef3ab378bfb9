-- What is answered as a channel is one.
use Rattle.std.proofs.Common.{◌≡◌, ℕ, List, Bool, Option, Some, None, Err, subst}
use Rattle.std.specs.Prelude.{slice_get}
use Rattle.hc_tree.specs.declared.name.Ident.{Ident}
use Rattle.hc_core.specs.Sound.{IsWidth}
use Rattle.hc_core.specs.declared.object.Kind.{Kind}
use Rattle.hc_core.specs.declared.object.Kind.TheVariants as kind
use Rattle.hc_scope.specs.declared.state.State.{State}
use Rattle.hc_tree.specs.declared.refusal.FrontErr.{FrontErr}
use Rattle.hc_tree.specs.declared.refusal.Rule.TheVariants.{S6}
use Rattle.hc_tree.specs.declared.refusal.Detail.TheVariants.{Name}
use Rattle.hc_scope.specs.Expansion.{Yields}
use Rattle.hc_scope.specs.Reading.{Answers, Says}
use Rattle.hc_evaluate.proofs.Steps.{says_answers}
use Rattle.hc_scope.specs.Sound.{AreSound}
use Rattle.hc_scope.specs.Statement.{Channel, channel_kind}
use Rattle.hc_evaluate.specs.Targets.{IsChannelOf}

-- a channel, and its type has a width
pub record Carries (kinds : List Kind) (ch : Channel) : Type 0 where
  pub is : IsChannelOf kinds ch.number ch.type.width ch.type.signed
  pub width : IsWidth ch.type.width

chan_given : (kinds : List Kind) (k w : ℕ) (r : Bool) (ch : Channel) (s t : State) → IsChannelOf kinds k w r → IsWidth w
    → Yields (record { number = k; type = record { width = w; signed = r } }) s ≡ Yields ch t → Carries kinds ch
chan_given kinds k w r ch s t h b is =
    let same : record { number = k; type = record { width = w; signed = r } } ≡ ch = cc in
    subst (λ (y : Channel). Carries kinds y) same (record { is = h; width = b })

-- what is answered as a channel is one, and its type has a width
pub channel_carries : (kinds : List Kind) (x : Ident) (k : ℕ) (found : Option Kind) (ch : Channel) (s t : State) → AreSound kinds → slice_get kinds k ≡ found
    → channel_kind x k found s ≡ Yields ch t → Carries kinds ch
channel_carries kinds x k (Some (kind.Chan w r queue)) ch s t sound at is =
    chan_given kinds k w r ch s t (queue, at) ((sound k (kind.Chan w r queue) at).width) is
channel_carries kinds x k None ch s t sound at is = absurd (cc)
channel_carries kinds x k (Some (kind.Reg w r init)) ch s t sound at is = absurd (cc)
channel_carries kinds x k (Some (kind.Array w r n init)) ch s t sound at is = absurd (cc)
channel_carries kinds x k (Some (kind.Ram w r n init)) ch s t sound at is = absurd (cc)
channel_carries kinds x k (Some (kind.Rom w r n init)) ch s t sound at is = absurd (cc)
channel_carries kinds x k (Some (kind.Signal w r unset)) ch s t sound at is = absurd (cc)
channel_carries kinds x k (Some (kind.Input w r pins)) ch s t sound at is = absurd (cc)
channel_carries kinds x k (Some (kind.Output w r pins value)) ch s t sound at is = absurd (cc)

-- what is no object is no channel
pub no_channel : {A : Type 0} (read : A → Channel) (x : Ident) (k : ℕ) (found : Option Kind) (e : FrontErr) (s : State) → found ≡ None
    → Says (record { rule = S6; place = x.place; detail = Name x.name }) e → Answers read (channel_kind x k found s) (Err e) s
no_channel read x k None e s is says = says_answers read _ e s says
no_channel read x k (Some kind) e s is says = absurd (cc)
