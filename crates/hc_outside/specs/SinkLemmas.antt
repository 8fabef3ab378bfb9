-- Writes one after the other.
use Rattle.std.specs.Prelude.{◌≡◌, ◌<◌, ◌≤◌, ◌+◌, ◌++◌, ◌∷◌, ℕ, suc, Bool, List, [], Option, Some, None, Result, OnOk, OnErr, flat_map, length, take, drop, slice_index_or, refl}
use Rattle.std.proofs.Common.{sym, ◌∙◌, ap, append_assoc, add-one, arith, drop-cons}
use Rattle.std.proofs.lemmas.List.{append-nil, take-append-drop}
use Rattle.std.proofs.lemmas.Grind.{flat_map-append}
use Rattle.std.proofs.lemmas.Result.{on_ok_weaker, on_err_weaker}
use Rattle.std.proofs.Math.Seq.{take-suc}
use Rattle.std.specs.Option.{option_map}
use Rattle.hc_outside.specs.Count.{Moves, HasRisen}
use Rattle.hc_outside.specs.Sink.{SinkState, Wrote, WroteFront}

pub Moves-none : (sure : Bool) (n : ℕ) → Moves sure n n
Moves-none sure n = record { no_less = omega arith; stands = λ _. refl }

pub Moves-more : {sure sure' : Bool} {a b c : ℕ} → sure' ≡ sure → Moves sure a b → Moves sure' b c → Moves sure a c
Moves-more same first second = record {
  no_less = let x = first.no_less in let y = second.no_less in omega arith;
  stands = λ h. second.stands (same ∙ h) ∙ first.stands h;
}

-- a count that rises after others has risen since then
pub HasRisen-later : {a b c : ℕ} → a ≤ b → HasRisen b c → HasRisen a c
HasRisen-later before risen below = let x = risen below in omega arith

append_none : (text : Option (List ℕ)) → text ≡ option_map (λ t. t ++ []) text
append_none None = refl
append_none (Some t) = ap Some (sym (append-nil t))

append_more : (a b : List ℕ) (text : Option (List ℕ)) → option_map (λ t. t ++ b) (option_map (λ t. t ++ a) text) ≡ option_map (λ t. t ++ (a ++ b)) text
append_more a b None = refl
append_more a b (Some t) = ap Some (append_assoc t a b)

-- nothing was written
pub Wrote-none : (s : SinkState) → Wrote [] s s
Wrote-none s = record { text = append_none s.text; faults = Moves-none s.sure s.faults; ready = refl; sure = refl; rest = refl }

-- a and then b
pub Wrote-more : {a b : List ℕ} {x y z : SinkState} → Wrote a x y → Wrote b y z → Wrote (a ++ b) x z
Wrote-more {a} {b} {x} {y} {z} first second = record {
  text = second.text ∙ ap (option_map (λ t. t ++ b)) first.text ∙ append_more a b x.text;
  faults = Moves-more first.sure first.faults second.faults;
  ready = second.ready ∙ first.ready;
  sure = second.sure ∙ first.sure;
  rest = second.rest ∙ first.rest;
}

-- nothing is a front part of anything
pub WroteFront-none : (bytes : List ℕ) (s : SinkState) → WroteFront bytes s s
WroteFront-none bytes s = record { front = []; back = bytes; parts = refl; wrote = Wrote-none s }

-- all of it is a front part
pub WroteFront-whole : {bytes : List ℕ} {x y : SinkState} → Wrote bytes x y → WroteFront bytes x y
WroteFront-whole {bytes} h = record { front = bytes; back = []; parts = append-nil bytes; wrote = h }

-- a front part of a is one of what begins with a
pub WroteFront-first : {a : List ℕ} (b : List ℕ) → {x y : SinkState} → WroteFront a x y → WroteFront (a ++ b) x y
WroteFront-first b h = record {
  front = h.front;
  back = h.back ++ b;
  parts = sym (append_assoc h.front h.back b) ∙ ap (λ t. t ++ b) h.parts;
  wrote = h.wrote;
}

-- a, and then a front part of b
pub WroteFront-more : {a b : List ℕ} {x y z : SinkState} → Wrote a x y → WroteFront b y z → WroteFront (a ++ b) x z
WroteFront-more {a} first h = record {
  front = a ++ h.front;
  back = h.back;
  parts = append_assoc a h.front h.back ∙ ap (λ t. a ++ t) h.parts;
  wrote = Wrote-more first h.wrote;
}

-- all exits of two calls that write a and then b
pub ruleset writes = (Wrote-none, Wrote-more, WroteFront-none, WroteFront-whole, WroteFront-first, WroteFront-more)

-- The same for a last call whose answer is returned as it is.

pub Wrote-last : {T E : Type 0} (r : Result T E) (a b : List ℕ) (x y z : SinkState) → Wrote a x y → OnOk r (Wrote b y z) → OnOk r (Wrote (a ++ b) x z)
Wrote-last r a b x y z first last = on_ok_weaker r (λ h. Wrote-more first h) last

pub WroteFront-last : {T E : Type 0} (r : Result T E) (a b : List ℕ) (x y z : SinkState) → Wrote a x y → OnErr r (WroteFront b y z) → OnErr r (WroteFront (a ++ b) x z)
WroteFront-last r a b x y z first last = on_err_weaker r (λ h. WroteFront-more first h) last

-- The same for a loop that writes what f gives of each element.

pub flat_map-parts : {A : Type 0} (f : A → List ℕ) (xs : List A) (i : ℕ) (d : A) → i < length xs
    → flat_map f (take i xs) ++ (f (slice_index_or xs i d) ++ flat_map f (drop (suc i) xs)) ≡ flat_map f xs
flat_map-parts f xs i d within =
    let tail : flat_map f (drop i xs) ≡ f (slice_index_or xs i d) ++ flat_map f (drop (suc i) xs) = ap (flat_map f) (drop-cons xs i d within) in
    ap (λ t. flat_map f (take i xs) ++ t) (sym tail)
    ∙ sym (flat_map-append f (take i xs) (drop i xs))
    ∙ ap (flat_map f) (take-append-drop i xs)

pub Wrote-item : {A : Type 0} (f : A → List ℕ) (xs : List A) (i : ℕ) (d : A) {x y z : SinkState} → i < length xs
    → Wrote (flat_map f (take i xs)) x y → Wrote (f (slice_index_or xs i d)) y z → Wrote (flat_map f (take (i + 1) xs)) x z
Wrote-item f xs i d {x} {y} {z} within first next =
    let more : take (i + 1) xs ≡ take i xs ++ slice_index_or xs i d ∷ [] = rw (add-one i) (take-suc xs i d within) in
    let e : flat_map f (take (i + 1) xs) ≡ flat_map f (take i xs) ++ f (slice_index_or xs i d) =
    ap (flat_map f) more ∙ flat_map-append f (take i xs) (slice_index_or xs i d ∷ []) ∙ ap (λ t. flat_map f (take i xs) ++ t) (append-nil (f (slice_index_or xs i d))) in
    rw e (Wrote-more first next)

pub WroteFront-item : {A : Type 0} (f : A → List ℕ) (xs : List A) (i : ℕ) (d : A) {x y z : SinkState} → i < length xs
    → Wrote (flat_map f (take i xs)) x y → WroteFront (f (slice_index_or xs i d)) y z → WroteFront (flat_map f xs) x z
WroteFront-item f xs i d {x} {y} {z} within first next =
    rw (← flat_map-parts f xs i d within) (WroteFront-more first (WroteFront-first (flat_map f (drop (suc i) xs)) next))

-- for a loop that may leave at any element
pub WroteFront-items : {A : Type 0} (f : A → List ℕ) (xs : List A) (i : ℕ) {x y : SinkState} → Wrote (flat_map f (take i xs)) x y → WroteFront (flat_map f xs) x y
WroteFront-items f xs i {x} {y} first = record {
  front = flat_map f (take i xs);
  back = flat_map f (drop i xs);
  parts = sym (flat_map-append f (take i xs) (drop i xs)) ∙ ap (flat_map f) (take-append-drop i xs);
  wrote = first;
}
