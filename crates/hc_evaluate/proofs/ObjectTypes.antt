-- Objects that keep their rules have types, as what names them has.
use Rattle.std.proofs.Common.{◌≡◌, ◌≤◌, ◌<◌, ◌^◌, ℕ, List, Bool, true, false, Option, Some, None, Result, Err, IfOk, refl, sym, ap, ◌∙◌, subst, arith}
use Rattle.std.specs.Option.{option_map}
use Rattle.std.proofs.lemmas.Option.{slice_get-map}
use Rattle.std.specs.Prelude.{slice_get, if◌then◌else◌}
use Rattle.std.specs.Str.{bytes_eq}
use Rattle.hc_tree.specs.declared.name.Ident.{Ident}
use Rattle.hc_tree.specs.declared.refusal.Rule.TheVariants.{S4, S6}
use Rattle.hc_tree.specs.declared.refusal.Detail.TheVariants.{Name}
use Rattle.hc_tree.specs.declared.refusal.FrontErr.{FrontErr}
use Rattle.hc_core.specs.declared.object.Object.{Object}
use Rattle.hc_num.specs.Number.{Number}
use Rattle.hc_num.specs.Index.{index_width}
use Rattle.hc_core.specs.Program.{Expression, Register, Signal, Input, Element, Word}
use Rattle.hc_core.specs.Read.{expression}
use Rattle.hc_core.specs.declared.expr.Expr.TheVariants as e
use Rattle.hc_core.proofs.Read.{read_Const}
use Rattle.hc_core.specs.Typed.{kinds_of, IsNumber, constant, Typed, register, signal, input, element, ram_word, rom_word}
use Rattle.hc_core.specs.Sound.{HasType}
use Rattle.hc_core.specs.declared.object.Kind.{Kind}
use Rattle.hc_core.specs.declared.object.Kind.TheVariants as kind
use Rattle.hc_width.specs.declared.value.Value.{Value}
use Rattle.hc_width.specs.Operand.{Operand, operand, Of, IsTyped, IsOperand}
use Rattle.hc_width.proofs.Kept.{made}
use Rattle.hc_scope.specs.declared.state.State.{State}
use Rattle.hc_scope.specs.Expansion.{Yields, pure, refuse_name}
use Rattle.hc_scope.specs.Expression.{kind_value, object_value, memory_part, kind_length, is_memory, kind_port, object_port}
use Rattle.hc_scope.specs.Reading.{Answers, Says}
use Rattle.hc_scope.specs.Sound.{AreSound}
use Rattle.hc_evaluate.proofs.Steps.{says_answers, answer_kept}

typed_by : (kinds : List Kind) (e : Expression) (w : ℕ) (s : Bool) (n : Number) → Typed kinds e w s → HasType w s n → IsTyped kinds e
typed_by kinds e w s n t h =
    let b = h.number in
    let same = h.width in
    made kinds e w s t (omega arith) (omega arith)

pub register_typed : (kinds : List Kind) (k w : ℕ) (s : Bool) (init : Number) → AreSound kinds → slice_get kinds k ≡ Some (kind.Reg w s init) → IsTyped kinds (Register k)
register_typed kinds k w s init sound is = typed_by kinds (Register k) w s init (register k w s init is) (sound k (kind.Reg w s init) is)

pub signal_typed : (kinds : List Kind) (k w : ℕ) (s : Bool) (unset : Number) → AreSound kinds → slice_get kinds k ≡ Some (kind.Signal w s unset) → IsTyped kinds (Signal k)
signal_typed kinds k w s unset sound is = typed_by kinds (Signal k) w s unset (signal k w s unset is) (sound k (kind.Signal w s unset) is)

pub input_typed : (kinds : List Kind) (k w : ℕ) (s : Bool) (pins : List (List ℕ)) → AreSound kinds → slice_get kinds k ≡ Some (kind.Input w s pins) → IsTyped kinds (Input k)
input_typed kinds k w s pins sound is =
    let port = sound k (kind.Input w s pins) is in
    made kinds (Input k) w s (input k w s pins is) port.width.least port.width.most

-- ---- values of objects

kept : (kinds : List Kind) (e : Expression) (v : Operand) (s t : State) → IsTyped kinds e → Yields (Of e) s ≡ Yields v t → IsOperand kinds v
kept kinds e v s t h is =
    let same : Of e ≡ v = cc in
    subst (λ (o : Operand). IsOperand kinds o) same h

pub kind_value_typed : (kinds : List Kind) (x : Ident) (k : ℕ) (found : Option Kind) (v : Operand) (s t : State) → AreSound kinds
    → slice_get kinds k ≡ found → kind_value x k found s ≡ Yields v t → IsOperand kinds v
kind_value_typed kinds x k None v s t sound at is = absurd (cc)
kind_value_typed kinds x k (Some (kind.Reg w r init)) v s t sound at is = kept kinds (Register k) v s t (register_typed kinds k w r init sound at) is
kind_value_typed kinds x k (Some (kind.Signal w r unset)) v s t sound at is = kept kinds (Signal k) v s t (signal_typed kinds k w r unset sound at) is
kind_value_typed kinds x k (Some (kind.Array w r n init)) v s t sound at is = absurd (cc)
kind_value_typed kinds x k (Some (kind.Ram w r n init)) v s t sound at is = absurd (cc)
kind_value_typed kinds x k (Some (kind.Rom w r n init)) v s t sound at is = absurd (cc)
kind_value_typed kinds x k (Some (kind.Chan w r queue)) v s t sound at is = absurd (cc)
kind_value_typed kinds x k (Some (kind.Input w r pins)) v s t sound at is = absurd (cc)
kind_value_typed kinds x k (Some (kind.Output w r pins value)) v s t sound at is = absurd (cc)

pub object_value_typed : (x : Ident) (k : ℕ) (v : Operand) (s t : State) → AreSound (kinds_of s.objects) → object_value x k s ≡ Yields v t
    → IsOperand (kinds_of s.objects) v
object_value_typed x k v s t sound is = kind_value_typed (kinds_of s.objects) x k (slice_get (kinds_of s.objects) k) v s t sound refl is

pub no_object : (objects : List Object) (k : ℕ) → slice_get objects k ≡ None → slice_get (kinds_of objects) k ≡ None
no_object objects k is = slice_get-map (λ (o : Object). o.kind) objects k ∙ ap (option_map (λ (o : Object). o.kind)) is

-- an object that isn't there has no value
pub no_object_value : (x : Ident) (k : ℕ) (e : FrontErr) (s : State) → slice_get s.objects k ≡ None
    → Says (record { rule = S6; place = x.place; detail = Name x.name }) e → Answers operand (object_value x k s) (Err e) s
no_object_value x k e s is says =
    subst (λ (found : Option Kind). Answers operand (kind_value x k found s) (Err e) s) (sym (no_object s.objects k is)) (says_answers operand _ e s says)

-- an element of an array, or a word of a RAM or ROM
pub memory_typed : (kinds : List Kind) (k : ℕ) (found : Option Kind) (i : Expression) → AreSound kinds → slice_get kinds k ≡ found
    → is_memory found ≡ true → Typed kinds i (index_width (kind_length found)) false → IsTyped kinds (memory_part k found i)
memory_typed kinds k None i sound at is t = absurd (cc)
memory_typed kinds k (Some (kind.Array w s n init)) i sound at is t =
    let h = sound k (kind.Array w s n init) at in
    made kinds (Element k i) w s (element k w n s init i at t) h.width.least h.width.most
memory_typed kinds k (Some (kind.Ram w s n init)) i sound at is t =
    let h = sound k (kind.Ram w s n init) at in
    made kinds (Word k i) w s (ram_word k w n s init i at t) h.width.least h.width.most
memory_typed kinds k (Some (kind.Rom w s n init)) i sound at is t =
    let h = sound k (kind.Rom w s n init) at in
    made kinds (Word k i) w s (rom_word k w n s init i at t) h.width.least h.width.most
memory_typed kinds k (Some (kind.Reg w r init)) i sound at is t = absurd (cc)
memory_typed kinds k (Some (kind.Signal w r unset)) i sound at is t = absurd (cc)
memory_typed kinds k (Some (kind.Chan w r queue)) i sound at is t = absurd (cc)
memory_typed kinds k (Some (kind.Input w r pins)) i sound at is t = absurd (cc)
memory_typed kinds k (Some (kind.Output w r pins value)) i sound at is t = absurd (cc)

port_kept : (kinds : List Kind) (port : Ident) (k : ℕ) (v : Operand) (s t : State) (is_same : Bool) → IsTyped kinds (Input k)
    → (if is_same then pure (Of (Input k)) else refuse_name S4 port) s ≡ Yields v t → IsOperand kinds v
port_kept kinds port k v s t true h is = kept kinds (Input k) v s t h is
port_kept kinds port k v s t false h is = absurd (cc)

-- the port of an input
pub port_typed : (kinds : List Kind) (x port : Ident) (k : ℕ) (name : List ℕ) (found : Option Kind) (v : Operand) (s t : State) → AreSound kinds
    → slice_get kinds k ≡ found → kind_port x port k name found s ≡ Yields v t → IsOperand kinds v
port_typed kinds x port k name (Some (kind.Input w r pins)) v s t sound at is =
    port_kept kinds port k v s t (bytes_eq name port.name) (input_typed kinds k w r pins sound at) is
port_typed kinds x port k name None v s t sound at is = absurd (cc)
port_typed kinds x port k name (Some (kind.Reg w r init)) v s t sound at is = absurd (cc)
port_typed kinds x port k name (Some (kind.Array w r n init)) v s t sound at is = absurd (cc)
port_typed kinds x port k name (Some (kind.Ram w r n init)) v s t sound at is = absurd (cc)
port_typed kinds x port k name (Some (kind.Rom w r n init)) v s t sound at is = absurd (cc)
port_typed kinds x port k name (Some (kind.Signal w r unset)) v s t sound at is = absurd (cc)
port_typed kinds x port k name (Some (kind.Chan w r queue)) v s t sound at is = absurd (cc)
port_typed kinds x port k name (Some (kind.Output w r pins value)) v s t sound at is = absurd (cc)

-- ---- indexes

pub constant_index_typed : (kinds : List Kind) (n : Number) (w bits length : ℕ) → n ≡ record { width = w; signed = false; bits = bits }
    → w ≡ index_width length → 1 ≤ w → w ≤ 32 → length ≤ 2 ^ w → bits < length → Typed kinds (expression (e.Const n)) (index_width length) false
constant_index_typed kinds n w bits length is same least most enough below =
    let number : IsNumber (record { width = w; signed = false; bits = bits }) = record { least = least; most = omega arith; fits = omega arith } in
    subst (λ (v : ℕ). Typed kinds (expression (e.Const n)) v false) same
    (subst (λ (m : Number). Typed kinds (expression (e.Const m)) w false) (sym is)
    (subst (λ (x : Expression). Typed kinds x w false) (sym (read_Const (record { width = w; signed = false; bits = bits })))
    (constant (record { width = w; signed = false; bits = bits }) number)))

pub object_port_typed : (x port : Ident) (k : ℕ) (name : List ℕ) (v : Operand) (s t : State) → AreSound (kinds_of s.objects)
    → object_port x port k name s ≡ Yields v t → IsOperand (kinds_of s.objects) v
object_port_typed x port k name v s t sound is =
    port_typed (kinds_of s.objects) x port k name (slice_get (kinds_of s.objects) k) v s t sound refl is

pub no_object_port : (x port : Ident) (k : ℕ) (name : List ℕ) (e : FrontErr) (s : State) → slice_get s.objects k ≡ None
    → Says (record { rule = S6; place = x.place; detail = Name x.name }) e → Answers operand (object_port x port k name s) (Err e) s
no_object_port x port k name e s is says =
    subst (λ (found : Option Kind). Answers operand (kind_port x port k name found s) (Err e) s) (sym (no_object s.objects k is)) (says_answers operand _ e s says)

pub word_typed : (kinds : List Kind) (k : ℕ) (i : Expression) (r : Result Value FrontErr) (s : State) → AreSound kinds
    → is_memory (slice_get kinds k) ≡ true → Typed kinds i (index_width (kind_length (slice_get kinds k))) false
    → Answers operand (Yields (Of (memory_part k (slice_get kinds k) i)) s) r s → IfOk r (λ w. IsOperand kinds (operand w))
word_typed kinds k i r s sound memory t answers =
    answer_kept operand (Yields (Of (memory_part k (slice_get kinds k) i)) s) r s (IsOperand kinds) answers
    (λ v u. kept kinds (memory_part k (slice_get kinds k) i) v s u (memory_typed kinds k (slice_get kinds k) i sound refl memory t))
