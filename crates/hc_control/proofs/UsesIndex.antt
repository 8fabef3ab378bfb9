-- What the circuits of a write's index and value want, and what they give.
use Rattle.std.proofs.Common.{◌≡◌, ◌<◌, ℕ, ◌+◌, ◌^◌, List, [], length, Bool, true, false, ap, sym, ◌∙◌, subst, arith}
use Rattle.std.specs.Prelude.{All}
use Rattle.std.proofs.lemmas.List.Elements.{All-nil}
use Rattle.std.proofs.lemmas.Option.{same_Some, slice_get_within}
use Rattle.hc_num.specs.Index.{index_width}
use Rattle.hc_num.specs.Number.{Number}
use Rattle.hc_core.specs.Program.{Expression, Constant, Target, ToRegister, ToElement, ToWord, ToSignal}
use Rattle.hc_core.specs.Read.{expression, target}
use Rattle.hc_core.specs.Sound.{IsTarget}
use Rattle.hc_core.specs.Typed.{HasSomeType, width_of}
use Rattle.hc_core.specs.Weight.{expression_weight}
use Rattle.hc_core.specs.declared.expr.Expr.{Expr}
use Rattle.hc_core.specs.declared.object.Kind.{Kind}
use Rattle.hc_core.specs.declared.object.Kind.TheVariants as kind
use Rattle.hc_core.specs.declared.stmt.Target as dt
use Rattle.hc_core.specs.declared.stmt.Target.TheVariants as t
use Rattle.hc_core.proofs.Read.{read_to_Reg, read_to_Element, read_to_Word, read_to_Signal}
use Rattle.hc_core.proofs.Types.{widths_are}
use Rattle.hc_meaning.specs.Residual.{Assign}
use Rattle.hc_net.specs.Circuit.{Circuit}
use Rattle.hc_net.specs.MadeLemmas.{Adds-none, Adds-room}
use Rattle.hc_value.specs.Moves.{constant_nets}
use Rattle.hc_value.specs.Reads.{HasNets, MakesValue}
use Rattle.hc_value.specs.declared.objects.ObjectNets.{ObjectNets}
use Rattle.hc_control.specs.Built.{is_built_target}
use Rattle.hc_control.specs.Right.{HasPlaces}
use Rattle.hc_control.specs.Uses.{IsBuiltAction, MakesIndex, index_weight, index_bits, action_gates, object_of}
use Rattle.hc_control.proofs.UsesNets.{has_nets, places_kept}

-- what the circuit of an expression wants
pub record Ready (kinds : List Kind) (at : ObjectNets) (c : Circuit) (e : Expression) : Type 0 where
  pub typed : HasSomeType kinds e
  pub nets : HasNets kinds at (length c.nodes) e
  pub room : length c.nodes + expression_weight kinds e < 2 ^ 32

-- a target of some type, and built
record IsReadyTarget (kinds : List Kind) (to : Target) : Type 0 where
  pub width : ℕ
  pub signed : Bool
  pub is : IsTarget kinds to width signed
  pub built : is_built_target to ≡ true

ready_target : (kinds : List Kind) (to to' : Target) → to ≡ to' → (e : Expression) × IsBuiltAction kinds (Assign to e) → IsReadyTarget kinds to'
ready_target kinds to to' same built =
    subst (λ x. IsReadyTarget kinds x) same (record { width = built.1.0.width; signed = built.1.0.signed; is = built.1.0.target; built = built.1.1 })

-- ---- the index

pub index_ready : (kinds : List Kind) (at : ObjectNets) (c : Circuit) (to : dt.Target) (k : ℕ) (i : Expr) → to ≡ t.Element k i → HasPlaces kinds c.nodes at
    → (e : Expression) × IsBuiltAction kinds (Assign (target to) e) → length c.nodes + index_weight kinds (target to) < 2 ^ 32 → Ready kinds at c (expression i)
index_ready kinds at c to k i is places built room =
    let same : target to ≡ ToElement k (expression i) = ap target is ∙ read_to_Element k i in
    let can = ready_target kinds (target to) (ToElement k (expression i)) same built in
    let typed = can.is.3 in
    record {
      typed = (index_width can.is.0, false, typed);
      nets = has_nets kinds c.nodes at places (expression i) (index_width can.is.0) false typed can.built;
      room = subst (λ x. length c.nodes + index_weight kinds x < 2 ^ 32) same room;
    }

-- a register has no index
pub register_index : (kinds : List Kind) (at : ObjectNets) (c : Circuit) (to : dt.Target) (k : ℕ) (nets : List ℕ) → to ≡ t.Reg k → (e : Expression) × IsBuiltAction kinds (Assign (target to) e) → nets ≡ []
    → MakesIndex kinds at (target to) c c nets
register_index kinds at c to k nets is built none =
    let same : target to ≡ ToRegister k = ap target is ∙ read_to_Reg k in
    let can = ready_target kinds (target to) (ToRegister k) same built in
    subst (λ x. MakesIndex kinds at x c c nets) (sym same) (record {
      adds = Adds-none c;
      there = subst (λ l. All (λ j. j < length c.nodes) l) (sym none) (All-nil (λ j. j < length c.nodes));
      width = λ x there. ap length none ∙ ap index_bits (same_Some (kind.Reg can.width can.signed can.is.0) x (sym can.is.1 ∙ there));
      holds = tt;
      constant = λ n j e. absurd cc;
    })

-- the index of an element
pub element_index : (kinds : List Kind) (at : ObjectNets) (old new : Circuit) (to : dt.Target) (k : ℕ) (i : Expr) (nets : List ℕ) → to ≡ t.Element k i
    → (e : Expression) × IsBuiltAction kinds (Assign (target to) e) → length nets ≡ width_of kinds (expression i) → MakesValue kinds at (expression i) old new nets
    → ((n : Number) → expression i ≡ Constant n → nets ≡ constant_nets at.zero at.one n) → MakesIndex kinds at (target to) old new nets
element_index kinds at old new to k i nets is built width made constant =
    let same : target to ≡ ToElement k (expression i) = ap target is ∙ read_to_Element k i in
    let can = ready_target kinds (target to) (ToElement k (expression i)) same built in
    subst (λ x. MakesIndex kinds at x old new nets) (sym same) (record {
      adds = made.adds;
      there = made.there;
      width = λ x there.
          width ∙ widths_are kinds (expression i) (index_width can.is.0) false can.is.3
          ∙ ap index_bits (same_Some (kind.Array can.width can.signed can.is.0 can.is.1) x (sym can.is.2 ∙ there));
      holds = made.value;
      constant = λ n j e. constant n cc;
    })

-- no other target is built
pub word_unbuilt : (kinds : List Kind) (to : dt.Target) (k : ℕ) (i : Expr) → to ≡ t.Word k i → (e : Expression) × IsBuiltAction kinds (Assign (target to) e) → ⊥
word_unbuilt kinds to k i is built =
    let can = ready_target kinds (target to) (ToWord k (expression i)) (ap target is ∙ read_to_Word k i) built in
    let no : false ≡ true = can.built in
    cc

pub signal_unbuilt : (kinds : List Kind) (to : dt.Target) (k : ℕ) → to ≡ t.Signal k → (e : Expression) × IsBuiltAction kinds (Assign (target to) e) → ⊥
signal_unbuilt kinds to k is built =
    let can = ready_target kinds (target to) (ToSignal k) (ap target is ∙ read_to_Signal k) built in
    let no : false ≡ true = can.built in
    cc

-- ---- the value

pub value_ready : (kinds : List Kind) (at : ObjectNets) (old mid : Circuit) (to : Target) (e : Expression) (index : List ℕ) → HasPlaces kinds old.nodes at → IsBuiltAction kinds (Assign to e)
    → length old.nodes + action_gates kinds (Assign to e) < 2 ^ 32 → MakesIndex kinds at to old mid index → Ready kinds at mid e
value_ready kinds at old mid to e index places built room made =
    let fits = built.0 in
    let grown = Adds-room made.adds in
    record {
      typed = (fits.width, fits.signed, fits.value);
      nets = has_nets kinds mid.nodes at (places_kept kinds at made.adds places) e fits.width fits.signed fits.value built.2;
      room = omega arith;
    }

-- the object of a target is there
pub object_there : (kinds : List Kind) (to : Target) (w : ℕ) (s : Bool) → IsTarget kinds to w s → object_of to < length kinds
object_there kinds (ToRegister k) w s h = slice_get_within kinds k (kind.Reg w s h.0) h.1
object_there kinds (ToElement k i) w s h = slice_get_within kinds k (kind.Array w s h.0 h.1) h.2
object_there kinds (ToWord k i) w s h = slice_get_within kinds k (kind.Ram w s h.0 h.1) h.2
object_there kinds (ToSignal k) w s h = slice_get_within kinds k (kind.Signal w s h.0) h.1
