-- How many input bits, flip-flops and gates there are among nodes.
use Rattle.std.proofs.Common.{◌≡◌, ◌<◌, ◌≤◌, ℕ, zero, suc, ◌+◌, List, [], ◌∷◌, ◌++◌, length, take, drop, Option, Some, None, get_or, refl, ap, ap₂, inl, inr, sym, ◌∙◌, subst, arith, length-append, Bool}
use Rattle.std.specs.Prelude.{slice_get, map, unwrap_or}
use Rattle.std.proofs.lemmas.List.{take_more, take-append-drop, get_or_default, length_push, get_or_append_left, get_or_push}
use Rattle.std.proofs.lemmas.Bool.{cases_lt}
use Rattle.hc_net.specs.Circuit.{node_at, input_bits_of, flops_of, gates_of}
use Rattle.hc_net.specs.Place.{base_of, flops_with, place_at, place_from, first_place}
use Rattle.hc_net.specs.declared.net.FlopName.{FlopName}
use Rattle.hc_net.specs.declared.net.Flop.{Flop as FlopData}
use Rattle.hc_net.specs.declared.node.Node.{Node}
use Rattle.hc_net.specs.declared.node.Node.TheVariants.{Input, Flop, Wire, Gate, Ram}
use Rattle.hc_net.proofs.Lists.{input_bits_of-append, flops_of-append}

-- one node more
pub inputs_more : (nodes : List Node) (i : ℕ) → i < length nodes → length (input_bits_of (take (i + 1) nodes)) ≡ length (input_bits_of (take i nodes)) + length (input_bits_of (node_at nodes i ∷ []))
inputs_more nodes i within =
    ap (λ l. length (input_bits_of l)) (take_more nodes i (Wire 0 None) within)
    ∙ ap length (input_bits_of-append (take i nodes) (node_at nodes i ∷ []))
    ∙ length-append (input_bits_of (take i nodes)) (input_bits_of (node_at nodes i ∷ []))

pub flops_more : (nodes : List Node) (i : ℕ) → i < length nodes → length (flops_of (take (i + 1) nodes)) ≡ length (flops_of (take i nodes)) + length (flops_of (node_at nodes i ∷ []))
flops_more nodes i within =
    ap (λ l. length (flops_of l)) (take_more nodes i (Wire 0 None) within)
    ∙ ap length (flops_of-append (take i nodes) (node_at nodes i ∷ []))
    ∙ length-append (flops_of (take i nodes)) (flops_of (node_at nodes i ∷ []))

-- those of a front are among all
pub inputs_front : (nodes : List Node) (i : ℕ) → length (input_bits_of (take i nodes)) ≤ length (input_bits_of nodes)
inputs_front nodes i =
    let split = ap (λ l. length (input_bits_of l)) (sym (take-append-drop i nodes)) ∙ ap length (input_bits_of-append (take i nodes) (drop i nodes)) ∙ length-append (input_bits_of (take i nodes)) (input_bits_of (drop i nodes)) in
    omega arith

pub flops_front : (nodes : List Node) (i : ℕ) → length (flops_of (take i nodes)) ≤ length (flops_of nodes)
flops_front nodes i =
    let split = ap (λ l. length (flops_of l)) (sym (take-append-drop i nodes)) ∙ ap length (flops_of-append (take i nodes) (drop i nodes)) ∙ length-append (flops_of (take i nodes)) (flops_of (drop i nodes)) in
    omega arith

-- all of them are nodes
pub counts_le : (nodes : List Node) → base_of nodes + gates_of nodes ≤ length nodes
counts_le [] = omega arith
counts_le (Input p i ∷ nodes) = omega (arith, counts_le nodes)
counts_le (Flop name init d ∷ nodes) = omega (arith, counts_le nodes)
counts_le (Wire rank from ∷ nodes) = omega (arith, counts_le nodes)
counts_le (Gate g a b ∷ nodes) = omega (arith, counts_le nodes)
counts_le (Ram rank first ram ∷ nodes) = omega (arith, counts_le nodes)

-- the node of a number is the one in its place among its kind
pub input_there : (nodes : List Node) (k p i : ℕ) → node_at nodes k ≡ Input p i → slice_get (input_bits_of nodes) (length (input_bits_of (take k nodes))) ≡ Some (p, i)
input_there [] k p i e = absurd cc
input_there (n ∷ nodes) zero p i e = rw e refl
input_there (Input q j ∷ nodes) (suc k) p i e = input_there nodes k p i e
input_there (Flop name init d ∷ nodes) (suc k) p i e = input_there nodes k p i e
input_there (Wire rank from ∷ nodes) (suc k) p i e = input_there nodes k p i e
input_there (Gate g a b ∷ nodes) (suc k) p i e = input_there nodes k p i e
input_there (Ram rank first ram ∷ nodes) (suc k) p i e = input_there nodes k p i e

pub flop_there : (f : ℕ → ℕ) (nodes : List Node) (k : ℕ) (name : FlopName) (init : Bool) (d : ℕ) → node_at nodes k ≡ Flop name init (Some d) → slice_get (flops_with f nodes) (length (flops_of (take k nodes))) ≡ Some (record { name = name; init = init; d = f d })
flop_there f [] k name init d e = absurd cc
flop_there f (n ∷ nodes) zero name init d e = rw e refl
flop_there f (Input q j ∷ nodes) (suc k) name init d e = flop_there f nodes k name init d e
flop_there f (Flop m j x ∷ nodes) (suc k) name init d e = flop_there f nodes k name init d e
flop_there f (Wire rank from ∷ nodes) (suc k) name init d e = flop_there f nodes k name init d e
flop_there f (Gate g a b ∷ nodes) (suc k) name init d e = flop_there f nodes k name init d e
flop_there f (Ram rank first ram ∷ nodes) (suc k) name init d e = flop_there f nodes k name init d e

pub flops_with_are : (f : ℕ → ℕ) (nodes : List Node) → map (λ (x : FlopData). (x.name, x.init)) (flops_with f nodes) ≡ flops_of nodes
flops_with_are f [] = refl
flops_with_are f (Input q j ∷ nodes) = flops_with_are f nodes
flops_with_are f (Flop m j x ∷ nodes) = ap (λ l. (m, j) ∷ l) (flops_with_are f nodes)
flops_with_are f (Wire rank from ∷ nodes) = flops_with_are f nodes
flops_with_are f (Gate g a b ∷ nodes) = flops_with_are f nodes
flops_with_are f (Ram rank first ram ∷ nodes) = flops_with_are f nodes

-- the steps of the loops, with the node read at any default
pub count_step : (nodes : List Node) (i count n : ℕ) (d : Node) → i < length nodes → n ≡ length (input_bits_of (get_or nodes i d ∷ [])) → count ≡ length (input_bits_of (take i nodes)) → count + n ≡ length (input_bits_of (take (i + 1) nodes))
count_step nodes i count n d within is so_far =
    let at = ap (λ (x : Node). length (input_bits_of (x ∷ []))) (get_or_default nodes i d (Wire 0 None) within) in
    omega (arith, inputs_more nodes i within)

pub flop_step : (nodes : List Node) (i base flop n : ℕ) (d : Node) → i < length nodes → n ≡ length (flops_of (get_or nodes i d ∷ [])) → flop ≡ base + length (flops_of (take i nodes)) → flop + n ≡ base + length (flops_of (take (i + 1) nodes))
flop_step nodes i base flop n d within is so_far =
    let at = ap (λ (x : Node). length (flops_of (x ∷ []))) (get_or_default nodes i d (Wire 0 None) within) in
    omega (arith, flops_more nodes i within)

pub first_places_step : (nodes : List Node) (places more : List (Option ℕ)) (place : Option ℕ) (i input flop : ℕ) (d : Node) → i < length nodes → length places ≡ i → ((k : ℕ) → k < i → place_at places k ≡ first_place nodes k (node_at nodes k)) → input ≡ length (input_bits_of (take i nodes)) → flop ≡ length (input_bits_of nodes) + length (flops_of (take i nodes)) → place ≡ place_from input flop (get_or nodes i d) → more ≡ places ++ place ∷ [] → (length more ≡ i + 1) × ((k : ℕ) → k < i + 1 → place_at more k ≡ first_place nodes k (node_at nodes k))
first_places_step nodes places more place i input flop d within size each input_is flop_is is to =
    let here : place ≡ first_place nodes i (node_at nodes i) = is ∙ ap (place_from input flop) (get_or_default nodes i d _ within) ∙ ap₂ (λ x y. place_from x y (node_at nodes i)) input_is flop_is in
    let longer = length_push places place in
    subst (λ (l : List (Option ℕ)). (length l ≡ i + 1) × ((k : ℕ) → k < i + 1 → place_at l k ≡ first_place nodes k (node_at nodes k))) (sym to) (
      omega arith,
      λ k below. elim (cases_lt k i) [
        | inl low ↦ get_or_append_left places (place ∷ []) None k (omega arith) ∙ each k low
        | inr high ↦
            let at : k ≡ i = omega arith in
            get_or_push places place None k (omega arith) ∙ here ∙ ap (λ (m : ℕ). first_place nodes m (node_at nodes m)) (sym at)
      ],
    )

flops_with-append : (f : ℕ → ℕ) (xs ys : List Node) → flops_with f (xs ++ ys) ≡ flops_with f xs ++ flops_with f ys
flops_with-append f [] ys = refl
flops_with-append f (Input p i ∷ xs) ys = flops_with-append f xs ys
flops_with-append f (Flop name init d ∷ xs) ys = ap (λ l. record { name = name; init = init; d = f (unwrap_or d 0) } ∷ l) (flops_with-append f xs ys)
flops_with-append f (Wire rank from ∷ xs) ys = flops_with-append f xs ys
flops_with-append f (Gate g a b ∷ xs) ys = flops_with-append f xs ys
flops_with-append f (Ram rank first ram ∷ xs) ys = flops_with-append f xs ys

pub flops_step : (f : ℕ → ℕ) (nodes : List Node) (i : ℕ) (d : Node) (old new : List FlopData) → i < length nodes → old ≡ flops_with f (take i nodes) → new ≡ old ++ flops_with f (get_or nodes i d ∷ []) → new ≡ flops_with f (take (i + 1) nodes)
flops_step f nodes i d old new within so_far to =
    to ∙ ap (λ l. l ++ flops_with f (get_or nodes i d ∷ [])) so_far ∙ sym (ap (flops_with f) (take_more nodes i d within) ∙ flops_with-append f (take i nodes) (get_or nodes i d ∷ []))
