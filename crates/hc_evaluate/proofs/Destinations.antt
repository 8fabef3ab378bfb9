-- What is written has the type of its object.
use Rattle.std.proofs.Common.{◌≡◌, ℕ, List, Bool, false, Option, Some, None, Err, subst, arith}
use Rattle.std.specs.Prelude.{slice_get}
use Rattle.hc_tree.specs.declared.name.Ident.{Ident}
use Rattle.hc_num.specs.Number.{Number}
use Rattle.hc_num.specs.Index.{index_width}
use Rattle.hc_core.specs.Program.{Expression, Register, Signal, Element, Word}
use Rattle.hc_core.specs.Typed.{Typed, register, signal, element, ram_word}
use Rattle.hc_width.specs.Operand.{IsTyped}
use Rattle.hc_width.proofs.Kept.{made}
use Rattle.hc_scope.specs.Expression.{kind_length}
use Rattle.hc_core.specs.Sound.{HasType, IsWidth}
use Rattle.hc_core.specs.declared.object.Kind.{Kind}
use Rattle.hc_core.specs.declared.object.Kind.TheVariants as kind
use Rattle.hc_scope.specs.declared.state.State.{State}
use Rattle.hc_tree.specs.declared.refusal.FrontErr.{FrontErr}
use Rattle.hc_tree.specs.declared.refusal.Rule.TheVariants.{S6}
use Rattle.hc_tree.specs.declared.refusal.Detail.TheVariants.{Name}
use Rattle.hc_scope.specs.Expansion.{Yields}
use Rattle.hc_scope.specs.Reading.{Answers, Says}
use Rattle.hc_evaluate.proofs.Steps.{says_answers}
use Rattle.hc_scope.specs.Sound.{AreSound}
use Rattle.hc_scope.specs.Statement.{IndexAt, Destination, a_register, a_signal, an_element, a_word, TypedDestination, destination_of}
use Rattle.hc_evaluate.specs.Targets.{IsDestination}

-- a destination is an object of the right kind, and its type has a width
pub record Holds (kinds : List Kind) (d : TypedDestination) : Type 0 where
  pub is : IsDestination kinds d.to d.type.width d.type.signed
  pub width : IsWidth d.type.width

abbrev typed_as : Ident → Destination → ℕ → Bool → TypedDestination
typed_as x to w s = record { name = x; to = to; type = record { width = w; signed = s } }

pub width_of_type : (w : ℕ) (s : Bool) (n : Number) → HasType w s n → IsWidth w
width_of_type w s n h =
    let b = h.number in
    let same = h.width in
    record { least = omega arith; most = omega arith }

given : (kinds : List Kind) (x : Ident) (to : Destination) (w : ℕ) (r : Bool) (d : TypedDestination) (s t : State) → IsDestination kinds to w r → IsWidth w
    → Yields (typed_as x to w r) s ≡ Yields d t → Holds kinds d
given kinds x to w r d s t h b is =
    let same : typed_as x to w r ≡ d = cc in
    subst (λ (y : TypedDestination). Holds kinds y) same (record { is = h; width = b })

pub destination_holds : (kinds : List Kind) (x : Ident) (k : ℕ) (i : Option IndexAt) (found : Option Kind) (d : TypedDestination) (s t : State) → AreSound kinds
    → slice_get kinds k ≡ found → destination_of x k i found s ≡ Yields d t → Holds kinds d
destination_holds kinds x k None (Some (kind.Reg w r init)) d s t sound at is =
    given kinds x (a_register k) w r d s t (init, at) (width_of_type w r init (sound k (kind.Reg w r init) at)) is
destination_holds kinds x k None (Some (kind.Signal w r unset)) d s t sound at is =
    given kinds x (a_signal k) w r d s t (unset, at) (width_of_type w r unset (sound k (kind.Signal w r unset) at)) is
destination_holds kinds x k (Some i) (Some (kind.Array w r n init)) d s t sound at is =
    given kinds x (an_element k i) w r d s t (n, init, at) ((sound k (kind.Array w r n init) at).width) is
destination_holds kinds x k (Some i) (Some (kind.Ram w r n init)) d s t sound at is =
    given kinds x (a_word k i) w r d s t (n, init, at) ((sound k (kind.Ram w r n init) at).width) is
destination_holds kinds x k None None d s t sound at is = absurd (cc)
destination_holds kinds x k None (Some (kind.Array w r n init)) d s t sound at is = absurd (cc)
destination_holds kinds x k None (Some (kind.Ram w r n init)) d s t sound at is = absurd (cc)
destination_holds kinds x k None (Some (kind.Rom w r n init)) d s t sound at is = absurd (cc)
destination_holds kinds x k None (Some (kind.Chan w r queue)) d s t sound at is = absurd (cc)
destination_holds kinds x k None (Some (kind.Input w r pins)) d s t sound at is = absurd (cc)
destination_holds kinds x k None (Some (kind.Output w r pins value)) d s t sound at is = absurd (cc)
destination_holds kinds x k (Some i) None d s t sound at is = absurd (cc)
destination_holds kinds x k (Some i) (Some (kind.Reg w r init)) d s t sound at is = absurd (cc)
destination_holds kinds x k (Some i) (Some (kind.Signal w r unset)) d s t sound at is = absurd (cc)
destination_holds kinds x k (Some i) (Some (kind.Rom w r n init)) d s t sound at is = absurd (cc)
destination_holds kinds x k (Some i) (Some (kind.Chan w r queue)) d s t sound at is = absurd (cc)
destination_holds kinds x k (Some i) (Some (kind.Input w r pins)) d s t sound at is = absurd (cc)
destination_holds kinds x k (Some i) (Some (kind.Output w r pins value)) d s t sound at is = absurd (cc)

-- what is no object can't be written
pub no_destination : {A : Type 0} (read : A → TypedDestination) (x : Ident) (k : ℕ) (i : Option IndexAt) (found : Option Kind) (e : FrontErr) (s : State) → found ≡ None
    → Says (record { rule = S6; place = x.place; detail = Name x.name }) e → Answers read (destination_of x k i found s) (Err e) s
no_destination read x k None None e s is says = says_answers read _ e s says
no_destination read x k (Some i) None e s is says = says_answers read _ e s says
no_destination read x k i (Some kind) e s is says = absurd (cc)

-- ---- values of destinations

pub register_value : (kinds : List Kind) (k w : ℕ) (s : Bool) → AreSound kinds → IsDestination kinds (a_register k) w s → IsTyped kinds (Register k)
register_value kinds k w s sound d =
    let b = width_of_type w s d.0 (sound k (kind.Reg w s d.0) d.1) in
    made kinds (Register k) w s (register k w s d.0 d.1) b.least b.most

pub signal_value : (kinds : List Kind) (k w : ℕ) (s : Bool) → AreSound kinds → IsDestination kinds (a_signal k) w s → IsTyped kinds (Signal k)
signal_value kinds k w s sound d =
    let b = width_of_type w s d.0 (sound k (kind.Signal w s d.0) d.1) in
    made kinds (Signal k) w s (signal k w s d.0 d.1) b.least b.most

pub element_index : (kinds : List Kind) (k w n : ℕ) (s : Bool) (init : List Number) (i : Expression) → slice_get kinds k ≡ Some (kind.Array w s n init)
    → Typed kinds i (index_width (kind_length (slice_get kinds k))) false → Typed kinds i (index_width n) false
element_index kinds k w n s init i is t = subst (λ (o : Option Kind). Typed kinds i (index_width (kind_length o)) false) is t

pub word_index : (kinds : List Kind) (k w n : ℕ) (s : Bool) (init : List Number) (i : Expression) → slice_get kinds k ≡ Some (kind.Ram w s n init)
    → Typed kinds i (index_width (kind_length (slice_get kinds k))) false → Typed kinds i (index_width n) false
word_index kinds k w n s init i is t = subst (λ (o : Option Kind). Typed kinds i (index_width (kind_length o)) false) is t

pub element_value : (kinds : List Kind) (k w : ℕ) (s : Bool) (at : IndexAt) (i : Expression) → AreSound kinds → IsDestination kinds (an_element k at) w s
    → Typed kinds i (index_width (kind_length (slice_get kinds k))) false → IsTyped kinds (Element k i)
element_value kinds k w s at i sound (n, init, is) t =
    let h = sound k (kind.Array w s n init) is in
    made kinds (Element k i) w s (element k w n s init i is (element_index kinds k w n s init i is t)) h.width.least h.width.most

pub word_value : (kinds : List Kind) (k w : ℕ) (s : Bool) (at : IndexAt) (i : Expression) → AreSound kinds → IsDestination kinds (a_word k at) w s
    → Typed kinds i (index_width (kind_length (slice_get kinds k))) false → IsTyped kinds (Word k i)
word_value kinds k w s at i sound (n, init, is) t =
    let h = sound k (kind.Ram w s n init) is in
    made kinds (Word k i) w s (ram_word k w n s init i is (word_index kinds k w n s init i is t)) h.width.least h.width.most
