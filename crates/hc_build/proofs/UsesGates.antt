-- The gates for the next bits of objects: no more than the objects and the actions that write them weigh.
use Rattle.std.proofs.Common.{◌≡◌, ◌≤◌, ℕ, zero, suc, ◌+◌, ◌*◌, List, [], ◌∷◌, length, get_or, Bool, true, false, Option, Some, None, refl, ap, sym, ◌∙◌, subst, inl, inr, arith}
use Rattle.std.specs.Prelude.{All, slice_get, slice_index, slice_index_or, if◌then◌else◌}
use Rattle.std.specs.List.{sum_by, range_with_len}
use Rattle.std.proofs.lemmas.Bool.{cases_eq, eq-eqb, ne_eqb}
use Rattle.std.proofs.lemmas.List.{length-map}
use Rattle.std.proofs.lemmas.List.Elements.{All-nil, All-cons, All-head, All-tail, All-append, All-map}
use Rattle.std.proofs.lemmas.List.Sums.{sum_by-cons, sum_by-append}
use Rattle.std.proofs.lemmas.Nat.{mul-le}
use Rattle.std.proofs.lemmas.Option.{get_or_from_slice_get, slice_get_within}
use Rattle.hc_num.specs.Index.{index_width}
use Rattle.hc_num.specs.Number.{Number}
use Rattle.hc_core.specs.Program.{Expression, Constant, Target, ToRegister, ToElement, ToWord, ToSignal}
use Rattle.hc_core.specs.Sound.{IsArray, IsTarget}
use Rattle.hc_core.specs.Typed.{kind_width}
use Rattle.hc_core.specs.Weigh.{AreSound}
use Rattle.hc_core.specs.Weight.{is_constant, kind_length, to_element_weight, to_word_weight}
use Rattle.hc_core.specs.declared.object.Kind.{Kind}
use Rattle.hc_core.specs.declared.object.Kind.TheVariants as kind
use Rattle.hc_meaning.specs.Residual.{Action, Assign, Delay, Send, Receive}
use Rattle.hc_net.specs.Bits.{bit}
use Rattle.hc_net.specs.Circuit.{Circuit, node_at, constant_at}
use Rattle.hc_net.specs.Made.{Adds}
use Rattle.hc_net.specs.declared.node.Node.{Node}
use Rattle.hc_store.specs.Takes.{hold_gates}
use Rattle.hc_store.specs.Arrays.{with_low, constant_number, write_gates}
use Rattle.hc_store.proofs.Constants.{number_same}
use Rattle.hc_value.specs.Moves.{constant_nets}
use Rattle.hc_value.specs.Objects.{AreNets}
use Rattle.hc_value.specs.declared.objects.ObjectNets.{ObjectNets}
use Rattle.hc_control.specs.Built.{is_built_target}
use Rattle.hc_control.specs.Right.{HasPlaces}
use Rattle.hc_control.specs.Uses.{AreThere, AreUses, IsBuiltAction, Write, action_gates, object_of, write_of, writes_from}
use Rattle.hc_control.specs.declared.uses.ObjectUses.{ObjectUses}
use Rattle.hc_build.specs.Uses.{action_weight, next_gates, all_next_gates, next_weight}

-- ---- constants

-- the net of a gate that gives a constant
abbrev IsKnown : List Node → ℕ → Type 0
IsKnown nodes k = (b : Bool) × (constant_at (node_at nodes k) ≡ Some b)

-- nets that all have constants have a number
known_number : (nodes : List Node) (xs : List ℕ) → All (IsKnown nodes) xs → (m : ℕ) × (constant_number nodes xs ≡ Some m)
known_number nodes [] all = (0, refl)
known_number nodes (x ∷ xs) all =
    let here = All-head (IsKnown nodes) x xs all in
    let rest = known_number nodes xs (All-tail (IsKnown nodes) x xs all) in
    ((if here.0 then 1 else 0) + 2 * rest.0, ap (λ c. with_low c (constant_number nodes xs)) here.1 ∙ ap (λ m. with_low (Some here.0) m) rest.1)

picked : (nodes : List Node) (b : Bool) (low high : ℕ) → IsKnown nodes low → IsKnown nodes high → IsKnown nodes (if b then high else low)
picked nodes true low high l h = h
picked nodes false low high l h = l

-- the nets of a constant have its number
constant_known : (nodes : List Node) (low high : ℕ) (n : Number) → IsKnown nodes low → IsKnown nodes high → (m : ℕ) × (constant_number nodes (constant_nets low high n) ≡ Some m)
constant_known nodes low high n l h =
    known_number nodes (constant_nets low high n)
    (All-map (IsKnown nodes) (λ i. if bit n.bits i then high else low) (range_with_len 0 n.width) (λ i d within. picked nodes _ low high l h))

-- ---- one write

-- what a target weighs without its index
abbrev target_own : List Kind → Target → ℕ
target_own kinds (ToRegister k) = 32 + 2 * kind_width (slice_get kinds k)
target_own kinds (ToElement k i) = 32 + to_element_weight (is_constant i) (kind_length (slice_get kinds k)) (kind_width (slice_get kinds k))
target_own kinds (ToWord k i) = 32 + to_word_weight (kind_length (slice_get kinds k)) (kind_width (slice_get kinds k))
target_own kinds (ToSignal k) = 32 + 2 * kind_width (slice_get kinds k)

abbrev write_own : List Kind → Write → ℕ
write_own kinds x = target_own kinds x.target

-- a write of an object, to a target that is there
record IsWrite (kinds : List Kind) (k : ℕ) (x : Write) : Type 0 where
  object : object_of x.target ≡ k
  width : ℕ
  signed : Bool
  typed : IsTarget kinds x.target width signed
  built : is_built_target x.target ≡ true

own_write : (kinds : List Kind) (k n : ℕ) (a : Action) → IsBuiltAction kinds a → All (IsWrite kinds k) (write_of k n a)
own_write kinds k n (Assign t e) is = elim (cases_eq (object_of t) k) [
  | inl same ↦
      let x : Write = record { action = n; target = t; value = e } in
      let here : write_of k n (Assign t e) ≡ x ∷ [] = ap (λ (b : Bool). if b then x ∷ [] else []) (eq-eqb (object_of t) k same) in
      subst (All (IsWrite kinds k)) (sym here)
      (All-cons (IsWrite kinds k) x [] (record { object = same; width = is.0.width; signed = is.0.signed; typed = is.0.target; built = is.1 }) (All-nil (IsWrite kinds k)))
  | inr other ↦
      let x : Write = record { action = n; target = t; value = e } in
      let none : write_of k n (Assign t e) ≡ [] = ap (λ (b : Bool). if b then x ∷ [] else []) (ne_eqb (object_of t) k other) in
      subst (All (IsWrite kinds k)) (sym none) (All-nil (IsWrite kinds k))
]
own_write kinds k n Delay is = All-nil (IsWrite kinds k)
own_write kinds k n (Send chan e) is = absurd is
own_write kinds k n (Receive chan t) is = absurd is

own_writes : (kinds : List Kind) (k n : ℕ) (actions : List Action) → All (IsBuiltAction kinds) actions → All (IsWrite kinds k) (writes_from k n actions)
own_writes kinds k n [] all = All-nil (IsWrite kinds k)
own_writes kinds k n (a ∷ rest) all =
    All-append (IsWrite kinds k) (write_of k n a) (writes_from k (n + 1) rest) (own_write kinds k n a (All-head (IsBuiltAction kinds) a rest all))
    (own_writes kinds k (n + 1) rest (All-tail (IsBuiltAction kinds) a rest all))

-- a write of a register
register_target : (kinds : List Kind) (k w : ℕ) (s : Bool) (init : Number) (t : Target) (v : ℕ) (r : Bool) → slice_get kinds k ≡ Some (kind.Reg w s init) → object_of t ≡ k
    → IsTarget kinds t v r → is_built_target t ≡ true → 2 * w + 1 ≤ target_own kinds t
register_target kinds k w s init (ToRegister j) v r is same typed built =
    let width : kind_width (slice_get kinds j) ≡ w = ap (λ i. kind_width (slice_get kinds i)) same ∙ ap kind_width is in
    omega (arith, width)
register_target kinds k w s init (ToElement j i) v r is same typed built =
    let both : Some (kind.Array v r typed.0 typed.1) ≡ Some (kind.Reg w s init) = sym typed.2 ∙ ap (slice_get kinds) same ∙ is in
    absurd cc
register_target kinds k w s init (ToWord j i) v r is same typed built = absurd cc
register_target kinds k w s init (ToSignal j) v r is same typed built = absurd cc

-- a write with an index that is no constant, and may have one by its nets
varying_gates : (n w a : ℕ) (o : Option ℕ) → 1 ≤ n → write_gates n w a o ≤ n * (a + 2 * w + 4) + a
varying_gates n w a None some = let h = mul-le n (a + 2 * w + 2) n (a + 2 * w + 4) (omega arith) (omega arith) in omega arith
varying_gates n w a (Some k) some = let h = mul-le 1 (a + 2 * w + 4) n (a + 2 * w + 4) some (omega arith) in omega arith

-- the gates of a write to an element are within the weight of its target, where the nets of a constant index are known
element_gates : (nodes : List Node) (bottom top n w : ℕ) (i : Expression) (index : List ℕ) → 1 ≤ n → length index ≡ index_width n → IsKnown nodes bottom → IsKnown nodes top
    → ((c : Number) → i ≡ Constant c → index ≡ constant_nets bottom top c)
    → write_gates n w (length index) (constant_number nodes index) ≤ 32 + to_element_weight (is_constant i) n w
element_gates nodes bottom top n w (Constant c) index some wide low high fixed =
    let known = constant_known nodes bottom top c low high in
    let is : constant_number nodes index ≡ Some known.0 = ap (λ l. constant_number nodes l) (fixed c refl) ∙ known.1 in
    let e : write_gates n w (length index) (constant_number nodes index) ≡ 2 * w + 1 = ap (λ o. write_gates n w (length index) o) is in
    omega arith
element_gates nodes bottom top n w _ index some wide low high fixed =
    let h = varying_gates n w (length index) (constant_number nodes index) some in
    let e : n * (length index + 2 * w + 4) + length index ≡ n * (index_width n + 2 * w + 4) + index_width n = ap (λ a. n * (a + 2 * w + 4) + a) wide in
    omega (arith, h, e)

-- a write of an array
array_target : (kinds : List Kind) (nodes : List Node) (bottom top k w n : ℕ) (s : Bool) (init : List Number) (t : Target) (v : ℕ) (r : Bool) (index : List ℕ)
    → slice_get kinds k ≡ Some (kind.Array w s n init) → object_of t ≡ k → IsTarget kinds t v r → is_built_target t ≡ true
    → 1 ≤ n → length index ≡ index_width n → IsKnown nodes bottom → IsKnown nodes top
    → ((c : Number) (j : ℕ) → t ≡ ToElement j (Constant c) → index ≡ constant_nets bottom top c)
    → write_gates n w (length index) (constant_number nodes index) ≤ target_own kinds t
array_target kinds nodes bottom top k w n s init (ToRegister j) v r index is same typed built some wide low high fixed =
    let both : Some (kind.Reg v r typed.0) ≡ Some (kind.Array w s n init) = sym typed.1 ∙ ap (slice_get kinds) same ∙ is in
    absurd cc
array_target kinds nodes bottom top k w n s init (ToElement j i) v r index is same typed built some wide low high fixed =
    let at : slice_get kinds j ≡ Some (kind.Array w s n init) = ap (slice_get kinds) same ∙ is in
    let h = element_gates nodes bottom top n w i index some wide low high (λ c e. fixed c j (ap (λ x. ToElement j x) e)) in
    let weight : to_element_weight (is_constant i) (kind_length (slice_get kinds j)) (kind_width (slice_get kinds j)) ≡ to_element_weight (is_constant i) n w =
    ap (λ o. to_element_weight (is_constant i) (kind_length o) (kind_width o)) at in
    omega (arith, h, weight)
array_target kinds nodes bottom top k w n s init (ToWord j i) v r index is same typed built some wide low high fixed = absurd cc
array_target kinds nodes bottom top k w n s init (ToSignal j) v r index is same typed built some wide low high fixed = absurd cc

-- ---- one object

-- elements of two lists of the same length, pair by pair
sum_pairs : {X Y : Type 0} (f : X → ℕ) (g : Y → ℕ) (xs : List X) (ys : List Y) → length xs ≡ length ys
    → ((i : ℕ) (x : X) (y : Y) → slice_get xs i ≡ Some x → slice_get ys i ≡ Some y → f x ≤ g y) → sum_by f xs ≤ sum_by g ys
sum_pairs f g [] ys size each = omega arith
sum_pairs f g (x ∷ xs) [] size each = absurd (omega (arith, size))
sum_pairs f g (x ∷ xs) (y ∷ ys) size each =
    let here = each 0 x y refl refl in
    let rest = sum_pairs f g xs ys (omega (arith, size)) (λ i a b is at. each (suc i) a b is at) in
    omega (arith, here, rest, sum_by-cons f x xs, sum_by-cons g y ys)

-- each of a list weighs this at least
sum_least : {X : Type 0} (f : X → ℕ) (c : ℕ) (xs : List X) → All (λ x. c ≤ f x) xs → length xs * c ≤ sum_by f xs
sum_least f c [] all = omega arith
sum_least {X} f c (x ∷ xs) all =
    let here = All-head (λ (y : X). c ≤ f y) x xs all in
    let rest = sum_least f c xs (All-tail (λ (y : X). c ≤ f y) x xs all) in
    let product : suc (length xs) * c ≡ c + length xs * c = grind arith in
    omega (arith, here, rest, product, sum_by-cons f x xs)

register_gates : (w m : ℕ) → hold_gates w m ≡ m * (2 * w + 1) + (2 * w + 1)
register_gates w m = grind arith

element_of : {X : Type 0} (P : X → Type 0) (xs : List X) (i : ℕ) (x : X) → All P xs → slice_get xs i ≡ Some x → P x
element_of P xs i x all at = subst P (get_or_from_slice_get xs i x x at) (all i x (slice_get_within xs i x at))

-- The next bits of an object take no more gates than it and its writes weigh.
object_few : (kinds : List Kind) (at : ObjectNets) (starts : List ℕ) (nodes : List Node) (k : ℕ) (x : Kind) (writes : List Write) (u : ObjectUses) → AreSound kinds
    → HasPlaces kinds nodes at → slice_get kinds k ≡ Some x → All (IsWrite kinds k) writes → AreUses kinds at starts nodes x writes u
    → next_gates nodes x u ≤ next_weight x + sum_by (write_own kinds) writes
object_few kinds at starts nodes k (kind.Reg w s init) writes u sound places is all uses =
    let count : length u.enables ≡ length writes = ap length uses.enables ∙ length-map writes (λ (x : Write). slice_index starts x.action) in
    let gates : hold_gates w (length u.enables) ≡ length writes * (2 * w + 1) + (2 * w + 1) = register_gates w (length u.enables) ∙ ap (λ m. m * (2 * w + 1) + (2 * w + 1)) count in
    let least = sum_least (write_own kinds) (2 * w + 1) writes (λ i d within. let o = all i d within in register_target kinds k w s init (get_or writes i d).target o.width o.signed is o.object o.typed o.built) in
    omega (arith, gates, least)
object_few kinds at starts nodes k (kind.Array w s n init) writes u sound places is all uses =
    let array : IsArray w s n init = sound k (kind.Array w s n init) is in
    let there = uses.there in
    let count : length u.enables ≡ length writes = ap length uses.enables ∙ length-map writes (λ (x : Write). slice_index starts x.action) in
    let size : length u.indexes ≡ length writes = there.index_count ∙ count in
    let pairs = sum_pairs (λ (index : List ℕ). write_gates n w (length index) (constant_number nodes index)) (write_own kinds) u.indexes writes size (λ i index y found of.
    let o = element_of (IsWrite kinds k) writes i y all of in
    let own : slice_index_or u.indexes i [] ≡ index = get_or_from_slice_get u.indexes i index [] found in
    let nets = element_of (AreNets (length nodes) (index_width n)) u.indexes i index there.indexes found in
    array_target kinds nodes at.zero at.one k w n s init y.target o.width o.signed index is o.object o.typed o.built array.least nets.count (false, places.zero) (true, places.one)
    (λ c j e. sym own ∙ uses.constant i y c j of e)) in
    let own = mul-le n (2 * w + 1) n (2 * w + 4) (omega arith) (omega arith) in
    omega (arith, pairs, own)
object_few kinds at starts nodes k (kind.Ram w s n init) writes u sound places is all uses = omega arith
object_few kinds at starts nodes k (kind.Rom w s n init) writes u sound places is all uses = omega arith
object_few kinds at starts nodes k (kind.Signal w s unset) writes u sound places is all uses = omega arith
object_few kinds at starts nodes k (kind.Chan w s queue) writes u sound places is all uses = omega arith
object_few kinds at starts nodes k (kind.Input w s pins) writes u sound places is all uses = omega arith
object_few kinds at starts nodes k (kind.Output w s pins value) writes u sound places is all uses = omega arith

-- ---- all objects

-- the sum of this over the places of a list
abbrev spread : {X : Type 0} → (ℕ → ℕ) → List X → ℕ
spread f [] = 0
spread f (x ∷ xs) = f 0 + spread (λ k. f (suc k)) xs

spread_none : {X : Type 0} (f : ℕ → ℕ) (xs : List X) → ((k : ℕ) → f k ≡ 0) → spread f xs ≡ 0
spread_none f [] none = refl
spread_none f (x ∷ xs) none = let here = none 0 in let rest = spread_none (λ k. f (suc k)) xs (λ k. none (suc k)) in omega arith

spread_both : {X : Type 0} (f g h : ℕ → ℕ) (xs : List X) → ((k : ℕ) → f k ≡ g k + h k) → spread f xs ≡ spread g xs + spread h xs
spread_both f g h [] sum = omega arith
spread_both f g h (x ∷ xs) sum =
    let here = sum 0 in
    let rest = spread_both (λ k. f (suc k)) (λ k. g (suc k)) (λ k. h (suc k)) xs (λ k. sum (suc k)) in
    omega arith

-- one place alone has something
spread_one : {X : Type 0} (f : ℕ → ℕ) (m c : ℕ) (xs : List X) → f m ≤ c → ((k : ℕ) → (k ≡ m → ⊥) → f k ≡ 0) → spread f xs ≤ c
spread_one f m c [] most others = omega arith
spread_one f zero c (x ∷ xs) most others =
    let rest = spread_none (λ k. f (suc k)) xs (λ k. others (suc k) (λ same. omega (arith, same))) in
    omega (arith, rest, most)
spread_one f (suc m) c (x ∷ xs) most others =
    let here = others 0 (λ same. omega (arith, same)) in
    let rest = spread_one (λ k. f (suc k)) m c xs most (λ k other. others (suc k) (λ same. other (omega (arith, same)))) in
    omega (arith, here, rest)

-- what an action's target weighs
abbrev action_own : List Kind → Action → ℕ
action_own kinds (Assign t e) = target_own kinds t
action_own kinds Delay = 0
action_own kinds (Send chan e) = 0
action_own kinds (Receive chan t) = 0

-- an action writes one object at most
action_spread : {X : Type 0} (kinds : List Kind) (n : ℕ) (a : Action) (xs : List X) → spread (λ k. sum_by (write_own kinds) (write_of k n a)) xs ≤ action_own kinds a
action_spread kinds n (Assign t e) xs =
    let x : Write = record { action = n; target = t; value = e } in
    let here : write_of (object_of t) n (Assign t e) ≡ x ∷ [] = ap (λ (b : Bool). if b then x ∷ [] else []) (eq-eqb (object_of t) (object_of t) refl) in
    let own : sum_by (write_own kinds) (write_of (object_of t) n (Assign t e)) ≡ target_own kinds t + sum_by (write_own kinds) [] = ap (sum_by (write_own kinds)) here ∙ sum_by-cons (write_own kinds) x [] in
    spread_one (λ k. sum_by (write_own kinds) (write_of k n (Assign t e))) (object_of t) (target_own kinds t) xs (omega (arith, own))
    (λ k other. ap (λ (b : Bool). sum_by (write_own kinds) (if b then x ∷ [] else [])) (ne_eqb (object_of t) k (λ same. other (sym same))))
action_spread kinds n Delay xs = let none = spread_none (λ k. 0) xs (λ k. refl) in omega (arith, none)
action_spread kinds n (Send chan e) xs = let none = spread_none (λ k. 0) xs (λ k. refl) in omega (arith, none)
action_spread kinds n (Receive chan t) xs = let none = spread_none (λ k. 0) xs (λ k. refl) in omega (arith, none)

actions_spread : {X : Type 0} (kinds : List Kind) (n : ℕ) (actions : List Action) (xs : List X) → spread (λ k. sum_by (write_own kinds) (writes_from k n actions)) xs ≤ sum_by (action_own kinds) actions
actions_spread kinds n [] xs = let none = spread_none (λ k. 0) xs (λ k. refl) in omega (arith, none)
actions_spread kinds n (a ∷ rest) xs =
    let here = action_spread kinds n a xs in
    let others = actions_spread kinds (n + 1) rest xs in
    let both = spread_both (λ k. sum_by (write_own kinds) (writes_from k n (a ∷ rest))) (λ k. sum_by (write_own kinds) (write_of k n a)) (λ k. sum_by (write_own kinds) (writes_from k (n + 1) rest)) xs
    (λ k. sum_by-append (write_own kinds) (write_of k n a) (writes_from k (n + 1) rest)) in
    omega (arith, here, others, both, sum_by-cons (action_own kinds) a rest)

-- the gates for values and indexes with what a target weighs without its index
own_light : (kinds : List Kind) (a : Action) → action_gates kinds a + action_own kinds a ≤ action_weight kinds a
own_light kinds (Assign (ToRegister k) e) = omega arith
own_light kinds (Assign (ToElement k i) e) = omega arith
own_light kinds (Assign (ToWord k i) e) = omega arith
own_light kinds (Assign (ToSignal k) e) = omega arith
own_light kinds Delay = omega arith
own_light kinds (Send chan e) = omega arith
own_light kinds (Receive chan t) = omega arith

all_own_light : (kinds : List Kind) (actions : List Action) → sum_by (action_gates kinds) actions + sum_by (action_own kinds) actions ≤ sum_by (action_weight kinds) actions
all_own_light kinds [] = omega arith
all_own_light kinds (a ∷ rest) =
    let here = own_light kinds a in
    let others = all_own_light kinds rest in
    omega (arith, here, others, sum_by-cons (action_gates kinds) a rest, sum_by-cons (action_own kinds) a rest, sum_by-cons (action_weight kinds) a rest)

each_few : (nodes : List Node) (f : ℕ → ℕ) (some : List Kind) (uses : List ObjectUses)
    → ((k : ℕ) (x : Kind) (u : ObjectUses) → slice_get some k ≡ Some x → slice_get uses k ≡ Some u → next_gates nodes x u ≤ next_weight x + f k)
    → all_next_gates nodes some uses ≤ sum_by next_weight some + spread f some
each_few nodes f [] uses each = omega arith
each_few nodes f (x ∷ some) [] each = omega arith
each_few nodes f (x ∷ some) (u ∷ uses) each =
    let here = each 0 x u refl refl in
    let rest = each_few nodes (λ k. f (suc k)) some uses (λ k y v is at. each (suc k) y v is at) in
    omega (arith, here, rest, sum_by-cons next_weight x some)

-- The next bits of all objects, with the values and the indexes of the actions, take no more gates than objects and actions weigh.
pub few : (kinds : List Kind) (at : ObjectNets) (starts : List ℕ) (nodes : List Node) (actions : List Action) (uses : List ObjectUses) → AreSound kinds → HasPlaces kinds nodes at
    → All (IsBuiltAction kinds) actions
    → ((k : ℕ) (x : Kind) (u : ObjectUses) → slice_get kinds k ≡ Some x → slice_get uses k ≡ Some u → AreUses kinds at starts nodes x (writes_from k 0 actions) u)
    → all_next_gates nodes kinds uses + sum_by (action_gates kinds) actions ≤ sum_by next_weight kinds + sum_by (action_weight kinds) actions
few kinds at starts nodes actions uses sound places built each =
    let next = each_few nodes (λ k. sum_by (write_own kinds) (writes_from k 0 actions)) kinds uses
    (λ k x u is found. object_few kinds at starts nodes k x (writes_from k 0 actions) u sound places is (own_writes kinds k 0 actions built) (each k x u is found)) in
    let all = actions_spread kinds 0 actions kinds in
    let light = all_own_light kinds actions in
    omega (arith, next, all, light)

-- ---- where gates are added

-- the same of each element gives the same sum
sum_same : {X : Type 0} (f g : X → ℕ) (xs : List X) → All (λ x. f x ≡ g x) xs → sum_by f xs ≡ sum_by g xs
sum_same f g [] all = refl
sum_same {X} f g (x ∷ xs) all =
    let here = All-head (λ (y : X). f y ≡ g y) x xs all in
    let rest = sum_same f g xs (All-tail (λ (y : X). f y ≡ g y) x xs all) in
    sum_by-cons f x xs ∙ ap (λ a. a + sum_by f xs) here ∙ ap (λ a. g x + a) rest ∙ sym (sum_by-cons g x xs)

pub next_kept : {most : ℕ} {old new : Circuit} (x : Kind) (u : ObjectUses) → Adds most old new → AreThere x old.nodes u → next_gates new.nodes x u ≡ next_gates old.nodes x u
next_kept (kind.Reg w s init) u adds there = refl
next_kept {old = old} {new = new} (kind.Array w s n init) u adds there =
    ap (λ a. n * (2 * w + 1) + a)
    (sum_same (λ l. write_gates n w (length l) (constant_number new.nodes l)) (λ l. write_gates n w (length l) (constant_number old.nodes l)) u.indexes
    (λ i d within. ap (λ o. write_gates n w (length (get_or u.indexes i d)) o) (number_same (get_or u.indexes i d) adds (there.indexes i d within).there)))
next_kept (kind.Ram w s n init) u adds there = refl
next_kept (kind.Rom w s n init) u adds there = refl
next_kept (kind.Signal w s unset) u adds there = refl
next_kept (kind.Chan w s queue) u adds there = refl
next_kept (kind.Input w s pins) u adds there = refl
next_kept (kind.Output w s pins value) u adds there = refl

-- each object has its uses among these nodes
abbrev pub AllThere : List Kind → List Node → List ObjectUses → Type 0
AllThere kinds nodes uses = (k : ℕ) (x : Kind) (u : ObjectUses) → slice_get kinds k ≡ Some x → slice_get uses k ≡ Some u → AreThere x nodes u
