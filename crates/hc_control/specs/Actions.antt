-- The token of an action.
use Rattle.std.specs.Prelude.{◌≡◌, ◌+◌, [], ◌∷◌, ◌++◌, ℕ}
use Rattle.hc_net.specs.Circuit.{Circuit}
use Rattle.hc_token.specs.Circuits.{Acts as HasToken}
use Rattle.hc_token.specs.Control.{Controls, IsNever}
use Rattle.hc_token.specs.declared.ends.Ends.{Ends}
use Rattle.hc_control.specs.declared.started.Started.{Started}

-- The token of one action more was added, with its start behind those of the others.
pub record Acts (start : ℕ) (old new : Circuit) (before after : Started) (ends : Ends) : Type 0 where
  pub put : after.starts ≡ before.starts ++ start ∷ []
  pub next : after.next ≡ before.next + 1
  pub controls : Controls 1 before.next 1 [] [] old new ends (HasToken start ends)
  pub never : IsNever new.nodes ends.pass
