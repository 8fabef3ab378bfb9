use Rattle.std.proofs.Common.{◌≡◌, ◌∷◌, [], ◌||◌, drop}
use Rattle.std.specs.List.{list_any}
use Rattle.hc_net.specs.Made.{Makes}
use Rattle.hc_control.proofs.arms.any.Given as goal

abbrev pub invariant-loop-i : goal.invariant-loop-i
invariant-loop-i l = Makes l.i (l.zero ∷ l.nets) l.initial.b l.b (l.some ∷ []) (λ v. (v l.some || list_any v (drop l.i l.nets)) ≡ (v l.zero || list_any v l.nets))
