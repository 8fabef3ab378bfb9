-- A register or an element of an array after an edge: what the one write that is on makes of it, or what it was.
use Rattle.std.proofs.Common.{◌≡◌, ◌<◌, ℕ, zero, suc, List, [], ◌∷◌, length, map, Bool, true, false, ◌&&◌, Some, refl, ap, sym, ◌∙◌, subst, inl, inr, arith}
use Rattle.std.specs.Prelude.{◌==◌, slice_get, slice_index, slice_index_or}
use Rattle.std.proofs.lemmas.Option.{same_Some, slice_get_within}
use Rattle.hc_num.specs.Number.{Number}
use Rattle.hc_num.specs.Index.{index_width}
use Rattle.hc_core.specs.Program.{Expression, Target, ToRegister, ToElement, ToWord, ToSignal}
use Rattle.hc_core.specs.Typed.{Typed, kind_width}
use Rattle.hc_core.specs.declared.object.Kind.{Kind}
use Rattle.hc_core.specs.declared.object.Kind.TheVariants as kind
use Rattle.hc_meaning.specs.Residual.{Assign}
use Rattle.hc_meaning.specs.Value.{World, words, number_of}
use Rattle.hc_meaning.specs.Clock.{Write as Change, after}
use Rattle.hc_net.specs.Bits.{number}
use Rattle.hc_bits.specs.Elements.{element_nets}
use Rattle.hc_store.specs.Takes.{Takes}
use Rattle.hc_store.specs.Arrays.{TakesEach}
use Rattle.hc_value.specs.Objects.{nets_of}
use Rattle.hc_value.specs.Reads.{Holds}
use Rattle.hc_value.specs.declared.objects.ObjectNets.{ObjectNets}
use Rattle.hc_control.specs.declared.uses.ObjectUses.{ObjectUses}
use Rattle.hc_control.specs.Built.{is_built_expression}
use Rattle.hc_control.specs.Right.{IsRight}
use Rattle.hc_control.specs.Uses.{Write, object_of, IsBuiltAction}
use Rattle.hc_control.proofs.ReadsNets.{number_held, register_read, element_read}
use Rattle.hc_build.proofs.MeaningStores.{IsInside}
use Rattle.hc_build.proofs.MeaningWrites.{IsBuiltWrite, Outcome, hits, is_on}

-- ---- targets by the kind of their object

not_built : {A : Type 0} → false ≡ true → A
not_built h = absurd cc

other_kind : {A : Type 0} (kinds : List Kind) (j k : ℕ) (x y : Kind) → j ≡ k → slice_get kinds j ≡ Some x → slice_get kinds k ≡ Some y → (x ≡ y → ⊥) → A
other_kind kinds j k x y same is at apart = absurd (apart (same_Some x y (sym is ∙ ap (slice_get kinds) same ∙ at)))

register_target : (kinds : List Kind) (t : Target) (e : Expression) (k m : ℕ) (s : Bool) (init : Number) → IsBuiltAction kinds (Assign t e) → object_of t ≡ k
    → slice_get kinds k ≡ Some (kind.Reg m s init) → t ≡ ToRegister k
register_target kinds (ToRegister j) e k m s init built same at = ap ToRegister same
register_target kinds (ToElement j i) e k m s init built same at = other_kind kinds j k _ (kind.Reg m s init) same built.0.target.2 at (λ apart. absurd cc)
register_target kinds (ToWord j i) e k m s init built same at = not_built built.1
register_target kinds (ToSignal j) e k m s init built same at = not_built built.1

-- an element of an array of n, with an index of its type that is built
pub record IsElement (kinds : List Kind) (k n : ℕ) (t : Target) : Type 0 where
  pub index : Expression
  pub is : t ≡ ToElement k index
  pub typed : Typed kinds index (index_width n) false
  pub built : is_built_expression index ≡ true

abbrev array_length : Kind → ℕ
array_length (kind.Array w s n init) = n
array_length (kind.Reg w s init) = 0
array_length (kind.Ram w s n init) = 0
array_length (kind.Rom w s n init) = 0
array_length (kind.Signal w s unset) = 0
array_length (kind.Chan w s queue) = 0
array_length (kind.Input w s pins) = 0
array_length (kind.Output w s pins value) = 0

element_target : (kinds : List Kind) (t : Target) (e : Expression) (k m n : ℕ) (s : Bool) (init : List Number) → IsBuiltAction kinds (Assign t e) → object_of t ≡ k
    → slice_get kinds k ≡ Some (kind.Array m s n init) → IsElement kinds k n t
element_target kinds (ToRegister j) e k m n s init built same at = other_kind kinds j k _ (kind.Array m s n init) same built.0.target.1 at (λ apart. absurd cc)
element_target kinds (ToElement j i) e k m n s init built same at =
    let size : built.0.target.0 ≡ n = ap array_length (same_Some _ (kind.Array m s n init) (sym built.0.target.2 ∙ ap (slice_get kinds) same ∙ at)) in
    record {
      index = i;
      is = ap (λ x. ToElement x i) same;
      typed = subst (λ x. Typed kinds i (index_width x) false) size built.0.target.3;
      built = built.1;
    }
element_target kinds (ToWord j i) e k m n s init built same at = not_built built.1
element_target kinds (ToSignal j) e k m n s init built same at = not_built built.1

-- ---- one clock

-- The nets of a clock say what a world is, and the store has its objects.
pub record IsNow (w : World) (at : ObjectNets) (v : ℕ → Bool) : Type 0 where
  pub right : IsRight w.kinds at w v
  pub objects : length w.store ≡ length w.kinds
  pub register : (k m : ℕ) (s : Bool) (init : Number) → slice_get w.kinds k ≡ Some (kind.Reg m s init) → length (words w.store k) ≡ 1

-- The uses of an object hold in a clock what its writes say, and the enables tell which actions are on.
pub record AreUsed (w : World) (at : ObjectNets) (v on : ℕ → Bool) (writes : List Write) (u : ObjectUses) : Type 0 where
  pub count : length u.enables ≡ length writes
  pub enables : (i : ℕ) (x : Write) → slice_get writes i ≡ Some x → v (slice_index u.enables i) ≡ on x.action
  pub value : (i : ℕ) (x : Write) → slice_get writes i ≡ Some x → Holds w.kinds at x.value (slice_index_or u.values i []) v
  pub index : (i k : ℕ) (x : Write) (j : Expression) → slice_get writes i ≡ Some x → x.target ≡ ToElement k j → Holds w.kinds at j (slice_index_or u.indexes i []) v

now_number : (w : World) (at : ObjectNets) (v : ℕ → Bool) → IsNow w at v → (e : Expression) (m : ℕ) (s : Bool) → Typed w.kinds e m s → is_built_expression e ≡ true → (nets : List ℕ)
    → Holds w.kinds at e nets v → number (map v nets) ≡ (number_of w e).bits
now_number w at v now e m s typed built nets holds = number_held w at v now.right.read now.right.zero now.right.one e m s typed built nets holds

-- the value of a write
write_number : (w : World) (at : ObjectNets) (v on : ℕ → Bool) (k : ℕ) (writes : List Write) (u : ObjectUses) → IsNow w at v → AreUsed w at v on writes u → (i : ℕ) (x : Write)
    → slice_get writes i ≡ Some x → IsBuiltWrite w.kinds k x → number (map v (slice_index_or u.values i [])) ≡ (number_of w x.value).bits
write_number w at v on k writes u now used i x there is =
    now_number w at v now x.value is.built.0.width is.built.0.signed is.built.0.value is.built.2 (slice_index_or u.values i []) (used.value i x there)

-- ---- what is taken

write_at : (writes : List Write) (i : ℕ) → i < length writes → (x : Write) × (slice_get writes i ≡ Some x)
write_at [] i low = absurd (omega (arith, low))
write_at (x ∷ writes) zero low = (x, refl)
write_at (x ∷ writes) (suc i) low = write_at writes i (omega (arith, low))

-- By the writes that are on the next bits are those of the element in the store after the clock.
pub record CanTake (w : World) (on : ℕ → Bool) (k e : ℕ) (writes : List Write) (v enabled : ℕ → Bool) (count : ℕ) (present : List ℕ) (values : List (List ℕ)) : Type 0 where
  pub inside : IsInside w.store k e
  pub size : count ≡ length writes
  pub is : (i : ℕ) (x : Write) → slice_get writes i ≡ Some x → enabled i ≡ is_on w on e x
  pub held : number (map v present) ≡ slice_index_or (words w.store k) e 0
  pub value : (i : ℕ) (x : Write) → slice_get writes i ≡ Some x → number (map v (slice_index_or values i [])) ≡ (number_of w x.value).bits

next_bits : (w : World) (on : ℕ → Bool) (k e : ℕ) (changes : List Change) (writes : List Write) (v enabled : ℕ → Bool) (count : ℕ) (present : List ℕ) (values : List (List ℕ)) (next : List ℕ)
    → CanTake w on k e writes v enabled count present values → Takes v count enabled present values next → Outcome w on k e changes writes
    → number (map v next) ≡ slice_index_or (words (after changes w.store) k) e 0
next_bits w on k e changes writes v enabled count present values next can takes (inl none) =
    let size = can.size in
    ap number (takes.kept (λ i low. let x = write_at writes i (omega (arith, low, size)) in can.is i x.0 x.1 ∙ none.off i x.0 x.1)) ∙ can.held ∙ sym (none.stays w.store can.inside)
next_bits w on k e changes writes v enabled count present values next can takes (inr one) =
    let size = can.size in
    let low = slice_get_within writes one.index one.write one.there in
    ap number (takes.taken one.index (omega (arith, low, size)) (can.is one.index one.write one.there ∙ one.is)
    (λ j below is. let x = write_at writes j (omega (arith, below, size)) in one.only j x.0 x.1 (sym (can.is j x.0 x.1) ∙ is)))
    ∙ can.value one.index one.write one.there ∙ sym (one.takes w.store can.inside)

-- a register is its own element 0
whole_hit : (a : Bool) → (a && (0 == 0)) ≡ a
whole_hit true = refl
whole_hit false = refl

-- a register after the edge
pub register_next : (w : World) (at : ObjectNets) (k m : ℕ) (s : Bool) (init : Number) (u : ObjectUses) (source : List ℕ) (v on : ℕ → Bool) (changes : List Change) (writes : List Write)
    → slice_get w.kinds k ≡ Some (kind.Reg m s init) → IsNow w at v → AreUsed w at v on writes u → ((i : ℕ) (x : Write) → slice_get writes i ≡ Some x → IsBuiltWrite w.kinds k x)
    → Takes v (length u.enables) (λ i. v (slice_index u.enables i)) (nets_of at k) u.values source → Outcome w on k 0 changes writes
    → number (map v source) ≡ slice_index_or (words (after changes w.store) k) 0 0
register_next w at k m s init u source v on changes writes is now used built takes so =
    next_bits w on k 0 changes writes v (λ i. v (slice_index u.enables i)) (length u.enables) (nets_of at k) u.values source (record {
      inside = inside;
      size = used.count;
      is = λ i x there.
          let target = register_target w.kinds x.target x.value k m s init (built i x there).built (built i x there).object is in
          used.enables i x there ∙ sym (whole_hit (on x.action)) ∙ ap (λ t. on x.action && hits w 0 t) (sym target);
      held = register_read w at v now.right.read k m s init is;
      value = λ i x there. write_number w at v on k writes u now used i x there (built i x there);
    }) takes so
  where
    inside : IsInside w.store k 0
    inside =
        let low = slice_get_within w.kinds k (kind.Reg m s init) is in
        let size = now.objects in
        let one = now.register k m s init is in
        record { object = omega (arith, low, size); element = omega (arith, one) }

-- an element of an array after the edge
pub element_next : (w : World) (at : ObjectNets) (k m n : ℕ) (s : Bool) (init : List Number) (u : ObjectUses) (source : List ℕ) (v on : ℕ → Bool) (changes : List Change) (writes : List Write)
    → slice_get w.kinds k ≡ Some (kind.Array m s n init) → IsNow w at v → AreUsed w at v on writes u → ((i : ℕ) (x : Write) → slice_get writes i ≡ Some x → IsBuiltWrite w.kinds k x)
    → TakesEach v n m u.enables u.indexes (nets_of at k) u.values source → (e : ℕ) → e < n → Outcome w on k e changes writes
    → number (map v (element_nets m source e)) ≡ slice_index_or (words (after changes w.store) k) e 0
element_next w at k m n s init u source v on changes writes is now used built each e low so =
    next_bits w on k e changes writes v (λ i. v (slice_index u.enables i) && (number (map v (slice_index_or u.indexes i [])) == e)) (length u.enables) (element_nets m (nets_of at k) e) u.values
    (element_nets m source e) (record {
      inside = inside;
      size = used.count;
      is = hit;
      held = subst (λ x. number (map v (element_nets x (nets_of at k) e)) ≡ slice_index_or (words w.store k) e 0) (ap kind_width is) (element_read w at v now.right.read k m n s init is e);
      value = λ i x there. write_number w at v on k writes u now used i x there (built i x there);
    }) (each e low) so
  where
    inside : IsInside w.store k e
    inside =
        let known = slice_get_within w.kinds k (kind.Array m s n init) is in
        let size = now.objects in
        let many = now.right.read.size k m n s init is in
        record { object = omega (arith, known, size); element = omega (arith, low, many) }

    hit : (i : ℕ) (x : Write) → slice_get writes i ≡ Some x → (v (slice_index u.enables i) && (number (map v (slice_index_or u.indexes i [])) == e)) ≡ is_on w on e x
    hit i x there =
        let target = element_target w.kinds x.target x.value k m n s init (built i x there).built (built i x there).object is in
        let index = now_number w at v now target.index (index_width n) false target.typed target.built (slice_index_or u.indexes i []) (used.index i k x target.index there target.is) in
        ap (λ b. b && (number (map v (slice_index_or u.indexes i [])) == e)) (used.enables i x there) ∙ ap (λ j. on x.action && (j == e)) index ∙ ap (λ t. on x.action && hits w e t) (sym target.is)
