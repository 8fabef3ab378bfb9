-- A channel that stands in send cases and in receive cases, by tests that tell which stand in which (this project's own).
use Rattle.std.specs.Prelude.{ℕ, Bool, ◌&&◌, Some, None, if◌then◌else◌}
use Rattle.hc_core.specs.Rules.{Found}
use Rattle.hc_core.specs.declared.object.Kind.{Kind}
use Rattle.hc_core.specs.declared.object.Kind.TheVariants as kind

abbrev pub offered : (ℕ → Bool) → (ℕ → Bool) → ℕ → Kind → Found
offered sent received k (kind.Reg w s init) = None
offered sent received k (kind.Array w s n init) = None
offered sent received k (kind.Ram w s n init) = None
offered sent received k (kind.Rom w s n init) = None
offered sent received k (kind.Signal w s unset) = None
offered sent received k (kind.Chan w s queue) = if sent k && received k then Some (Some k) else None
offered sent received k (kind.Input w s pins) = None
offered sent received k (kind.Output w s pins value) = None
