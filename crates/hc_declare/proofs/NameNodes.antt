-- Declared names as nodes.
use Rattle.std.proofs.Common.{◌≡◌, ◌≤◌, ℕ, zero, suc, ◌-◌, false, arith, refl, ap}
use Rattle.hc_scope.specs.Declaration.{name_form}
use Rattle.hc_scope.specs.Expansion.{◌>>◌, visit, too_deep}
use Rattle.hc_scope.specs.Nodes.{nodes}
use Rattle.hc_scope.specs.Parts.{Context, TypeOf, DeclaredName, ident_of}
use Rattle.hc_scope.specs.declared.state.State.{State}

-- at the greatest depth
pub deepest_name : (room : ℕ) (c : Context) (t : TypeOf) (x : DeclaredName) (s : State) → room ≡ 0
    → (nodes room).name c t x s ≡ (visit false c.calls (ident_of x).place >> too_deep (ident_of x).place) s
unfolding nodes
deepest_name zero c t x s is = refl
deepest_name (suc room) c t x s is = absurd (omega arith)

-- around which one more node may be open
pub inner_name : (room : ℕ) (c : Context) (t : TypeOf) (x : DeclaredName) (s : State) → 1 ≤ room
    → (nodes room).name c t x s ≡ (visit false c.calls (ident_of x).place >> name_form (nodes (room - 1)) c (ident_of x) t x) s
unfolding nodes
inner_name zero c t x s least = absurd (omega arith)
inner_name (suc room) c t x s least =
    let less : room ≡ suc room - 1 = omega arith in
    ap (λ n. (visit false c.calls (ident_of x).place >> name_form (nodes n) c (ident_of x) t x) s) less
