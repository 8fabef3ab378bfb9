-- What holds over objects holds over more objects.
use Rattle.std.proofs.Common.{◌≡◌, ℕ, zero, suc, List, [], ◌∷◌, ◌++◌, Bool, true, false, Some, ◌⊎◌, inl, inr, refl, sym, ap, ◌∙◌, subst, append_assoc}
use Rattle.std.specs.Prelude.{slice_get}
use Rattle.std.proofs.lemmas.List.{append-nil}
use Rattle.hc_core.specs.Program.{Expression}
use Rattle.hc_core.specs.Typed.{kinds_of, Typed, constant, register, signal, input, element, ram_word, rom_word, negative, complement, is_zero, to_signed, to_unsigned, arithmetic, division, bitwise, comparison, shift, joining, taking, dropping, logic, slice, choice}
use Rattle.hc_core.specs.Sound.{IsKind, is_port, port_names}
use Rattle.hc_core.specs.Read.{expression}
use Rattle.hc_core.specs.declared.object.Kind.{Kind}
use Rattle.hc_core.specs.declared.object.Kind.TheVariants as kind
use Rattle.hc_core.specs.declared.object.Object.{Object}
use Rattle.hc_scope.specs.Sound.{AreSound, Grows, GrowsBy}

pub kept_kind : (kinds more : List Kind) (k : ℕ) (x : Kind) → slice_get kinds k ≡ Some x → slice_get (kinds ++ more) k ≡ Some x
kept_kind [] more k x is = absurd (cc)
kept_kind (first ∷ kinds) more zero x is = is
kept_kind (first ∷ kinds) more (suc k) x is = kept_kind kinds more k x is

pub longer_typed : (kinds more : List Kind) (e : Expression) (w : ℕ) (s : Bool) → Typed kinds e w s → Typed (kinds ++ more) e w s
longer_typed kinds more _ _ _ (constant n is) = constant n is
longer_typed kinds more _ _ _ (register k w s init is) = register k w s init (kept_kind kinds more k _ is)
longer_typed kinds more _ _ _ (signal k w s unset is) = signal k w s unset (kept_kind kinds more k _ is)
longer_typed kinds more _ _ _ (input k w s pins is) = input k w s pins (kept_kind kinds more k _ is)
longer_typed kinds more _ _ _ (element k w n s init i is t) = element k w n s init i (kept_kind kinds more k _ is) (longer_typed kinds more i _ _ t)
longer_typed kinds more _ _ _ (ram_word k w n s init i is t) = ram_word k w n s init i (kept_kind kinds more k _ is) (longer_typed kinds more i _ _ t)
longer_typed kinds more _ _ _ (rom_word k w n s init i is t) = rom_word k w n s init i (kept_kind kinds more k _ is) (longer_typed kinds more i _ _ t)
longer_typed kinds more _ _ _ (negative a w s t) = negative a w s (longer_typed kinds more a w s t)
longer_typed kinds more _ _ _ (complement a w s t) = complement a w s (longer_typed kinds more a w s t)
longer_typed kinds more _ _ _ (is_zero a v r t) = is_zero a v r (longer_typed kinds more a v r t)
longer_typed kinds more _ _ _ (to_signed a w r t) = to_signed a w r (longer_typed kinds more a w r t)
longer_typed kinds more _ _ _ (to_unsigned a w r t) = to_unsigned a w r (longer_typed kinds more a w r t)
longer_typed kinds more _ _ _ (arithmetic op a b w s is t u) = arithmetic op a b w s is (longer_typed kinds more a w s t) (longer_typed kinds more b w s u)
longer_typed kinds more _ _ _ (division op a b w is t u) = division op a b w is (longer_typed kinds more a _ _ t) (longer_typed kinds more b _ _ u)
longer_typed kinds more _ _ _ (bitwise op a b w s is t u) = bitwise op a b w s is (longer_typed kinds more a w s t) (longer_typed kinds more b w s u)
longer_typed kinds more _ _ _ (comparison op a b v r is t u) = comparison op a b v r is (longer_typed kinds more a v r t) (longer_typed kinds more b v r u)
longer_typed kinds more _ _ _ (shift op a b w v s is t u) = shift op a b w v s is (longer_typed kinds more a w s t) (longer_typed kinds more b v _ u)
longer_typed kinds more _ _ _ (joining op a b w v s r is t u most) = joining op a b w v s r is (longer_typed kinds more a w s t) (longer_typed kinds more b v r u) most
longer_typed kinds more _ _ _ (taking op a n w s is t amount least most) = taking op a n w s is (longer_typed kinds more a w s t) amount least most
longer_typed kinds more _ _ _ (dropping op a n w s is t amount most) = dropping op a n w s is (longer_typed kinds more a w s t) amount most
longer_typed kinds more _ _ _ (logic op a b w v s r is t u) = logic op a b w v s r is (longer_typed kinds more a w s t) (longer_typed kinds more b v r u)
longer_typed kinds more _ _ _ (slice a high low w s t least most) = slice a high low w s (longer_typed kinds more a w s t) least most
longer_typed kinds more _ _ _ (choice c a b v w r s x t u) = choice c a b v w r s (longer_typed kinds more c v r x) (longer_typed kinds more a w s t) (longer_typed kinds more b w s u)

longer_kind : (kinds more : List Kind) (x : Kind) → IsKind kinds x → IsKind (kinds ++ more) x
longer_kind kinds more (kind.Reg w s init) is = is
longer_kind kinds more (kind.Array w s n init) is = is
longer_kind kinds more (kind.Ram w s n init) is = is
longer_kind kinds more (kind.Rom w s n init) is = is
longer_kind kinds more (kind.Signal w s unset) is = is
longer_kind kinds more (kind.Chan w s queue) is = is
longer_kind kinds more (kind.Input w s pins) is = is
longer_kind kinds more (kind.Output w s pins value) is = record { port = is.port; typed = longer_typed kinds more (expression value) w s is.typed }

before_or_last : (kinds : List Kind) (x : Kind) (k : ℕ) (y : Kind) → slice_get (kinds ++ x ∷ []) k ≡ Some y → (slice_get kinds k ≡ Some y) ⊎ (x ≡ y)
before_or_last [] x zero y is = inr (cc)
before_or_last [] x (suc k) y is = absurd (cc)
before_or_last (first ∷ kinds) x zero y is = inl is
before_or_last (first ∷ kinds) x (suc k) y is = before_or_last kinds x k y is

sound_more : (kinds : List Kind) (x : Kind) → AreSound kinds → IsKind kinds x → AreSound (kinds ++ x ∷ [])
sound_more kinds x sound is k y found =
    elim (before_or_last kinds x k y found) [
      | inl before ↦ longer_kind kinds (x ∷ []) y (sound k y before)
      | inr same ↦ subst (λ (z : Kind). IsKind (kinds ++ x ∷ []) z) same (longer_kind kinds (x ∷ []) x is)
    ]

pub kinds_behind : (objects more : List Object) → kinds_of (objects ++ more) ≡ kinds_of objects ++ kinds_of more
kinds_behind [] more = refl
kinds_behind (first ∷ objects) more = ap (λ (kinds : List Kind). first.kind ∷ kinds) (kinds_behind objects more)

sound_by : (objects new : List Object) (x : Object) → new ≡ objects ++ x ∷ [] → AreSound (kinds_of objects) → IsKind (kinds_of objects) x.kind → AreSound (kinds_of new)
sound_by objects new x is sound kind =
    let kinds : kinds_of new ≡ kinds_of objects ++ x.kind ∷ [] = rw is (kinds_behind objects (x ∷ [])) in
    subst AreSound (sym kinds) (sound_more (kinds_of objects) x.kind sound kind)

-- ---- ports

before_port : (x : Object) (objects : List Object) (b : Bool) → is_port x.kind ≡ b → (more : List (List ℕ)) (rest : List Object)
    → port_names rest ≡ port_names objects ++ more → port_names (x ∷ rest) ≡ port_names (x ∷ objects) ++ more
before_port x objects true is more rest h = rw is (ap (λ (names : List (List ℕ)). x.name ∷ names) h)
before_port x objects false is more rest h = rw is h

port_behind : (objects : List Object) (x : Object) → is_port x.kind ≡ true → port_names (objects ++ x ∷ []) ≡ port_names objects ++ x.name ∷ []
port_behind [] x is = rw is refl
port_behind (first ∷ objects) x is = before_port first objects (is_port first.kind) refl (x.name ∷ []) (objects ++ x ∷ []) (port_behind objects x is)

no_port_behind : (objects : List Object) (x : Object) → is_port x.kind ≡ false → port_names (objects ++ x ∷ []) ≡ port_names objects ++ []
no_port_behind [] x is = rw is refl
no_port_behind (first ∷ objects) x is = before_port first objects (is_port first.kind) refl [] (objects ++ x ∷ []) (no_port_behind objects x is)

-- ---- more objects

-- one more object that keeps its rules, and is no port
pub grows_by : (objects new : List Object) (x : Object) → new ≡ objects ++ x ∷ [] → AreSound (kinds_of objects) → IsKind (kinds_of objects) x.kind
    → is_port x.kind ≡ false → Grows objects new
grows_by objects new x is sound kind no_port = record {
  more = x ∷ [];
  front = is;
  sound = sound_by objects new x is sound kind;
  ports = ap port_names is ∙ no_port_behind objects x no_port ∙ append-nil (port_names objects);
}

-- one more port that keeps its rules
pub grows_by_port : (objects new : List Object) (x : Object) → new ≡ objects ++ x ∷ [] → AreSound (kinds_of objects) → IsKind (kinds_of objects) x.kind
    → is_port x.kind ≡ true → GrowsBy x.name objects new
grows_by_port objects new x is sound kind port = record {
  more = x ∷ [];
  front = is;
  sound = sound_by objects new x is sound kind;
  ports = ap port_names is ∙ port_behind objects x port;
}

-- no more objects
pub grows_not : (objects new : List Object) → new ≡ objects → AreSound (kinds_of objects) → Grows objects new
grows_not objects new is sound = record {
  more = [];
  front = rw is (sym (append-nil objects));
  sound = subst (λ (o : List Object). AreSound (kinds_of o)) (sym is) sound;
  ports = ap port_names is;
}

-- objects behind objects behind others
pub grows_on : (old middle new : List Object) → Grows old middle → Grows middle new → Grows old new
grows_on old middle new first second = record {
  more = first.more ++ second.more;
  front = rw (second.front, first.front) (append_assoc old first.more second.more);
  sound = second.sound;
  ports = second.ports ∙ first.ports;
}

-- what has a type over the objects before has it over all
pub grown_typed : (old new : List Object) (e : Expression) (w : ℕ) (s : Bool) → Grows old new → Typed (kinds_of old) e w s → Typed (kinds_of new) e w s
grown_typed old new e w s grows typed =
    let kinds : kinds_of new ≡ kinds_of old ++ kinds_of grows.more = rw grows.front (kinds_behind old grows.more) in
    subst (λ (kinds : List Kind). Typed kinds e w s) (sym kinds) (longer_typed (kinds_of old) (kinds_of grows.more) e w s typed)
