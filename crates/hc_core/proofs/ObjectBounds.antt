-- The weight of an object is at most 2^25 for each of its parts, and the objects of a sound core can be weighed.
use Rattle.std.proofs.Common.{◌≡◌, ℕ, suc, ◌+◌, ◌*◌, ◌/◌, ◌^◌, ◌<◌, ◌≤◌, List, [], ◌∷◌, Bool, Some, length, refl, subst, arith}
use Rattle.std.specs.List.{sum_by}
use Rattle.std.proofs.lemmas.Nat.{mul-le}
use Rattle.std.proofs.lemmas.List.Sums.{sum_by-cons}
use Rattle.hc_core.specs.Read.{expression, statement}
use Rattle.hc_core.specs.Typed.{kinds_of, kind_width}
use Rattle.hc_core.specs.Parts.{kind_parts}
use Rattle.hc_core.specs.Sound.{IsKind, IsSound}
use Rattle.hc_core.specs.Weight.{kind_weight, kind_flops, weight_of, flops_of}
use Rattle.hc_core.specs.Weigh.{AreSound, CanWeigh, CanWeighStatement, CanWeighKind, CanWeighObjects}
use Rattle.hc_core.specs.declared.expr.Expr.{Expr}
use Rattle.hc_core.specs.declared.object.Kind.{Kind}
use Rattle.hc_core.specs.declared.object.Kind.TheVariants as kind
use Rattle.hc_core.specs.declared.object.Object.{Object}
use Rattle.hc_core.specs.declared.object.Core.{Core}
use Rattle.hc_core.proofs.Bounds.{of_type, light}
use Rattle.hc_core.proofs.StatementBounds.{statement_light, few_flops}
use Rattle.hc_core.proofs.Listing.{is_empty}

-- an object has at most 128 bits
width_most : (kinds : List Kind) (x : Kind) → IsKind kinds x → kind_width (Some x) ≤ 128
width_most kinds (kind.Reg w s init) h = (of_type w s init h).most
width_most kinds (kind.Array w s n init) h = h.width.most
width_most kinds (kind.Ram w s n init) h = h.width.most
width_most kinds (kind.Rom w s n init) h = h.width.most
width_most kinds (kind.Signal w s unset) h = (of_type w s unset h).most
width_most kinds (kind.Chan w s queue) h = h.width.most
width_most kinds (kind.Input w s pins) h = h.width.most
width_most kinds (kind.Output w s pins value) h = h.port.width.most

pub kind_narrow : (kinds : List Kind) (x : Kind) → CanWeighKind kinds x → kind_width (Some x) ≤ 128
kind_narrow kinds x can = width_most kinds x can.is

pub output_can : (kinds : List Kind) (x : Kind) (w : ℕ) (s : Bool) (pins : List (List ℕ)) (value : Expr) → x ≡ kind.Output w s pins value → CanWeighKind kinds x → CanWeigh kinds (expression value)
output_can kinds x w s pins value is can =
    let c = subst (λ (y : Kind). CanWeighKind kinds y) is can in
    record { sound = c.sound; typed = (w, s, c.is.typed); few = let f = c.few in omega arith }

part_of : (a b : ℕ) → (a * b) / 8 ≤ a * b
part_of a b = omega arith

pub kind_light : (kinds : List Kind) → AreSound kinds → (x : Kind) → IsKind kinds x → kind_weight kinds x ≤ 2 ^ 25 * kind_parts x
kind_light kinds sound (kind.Reg w s init) h = let m = (of_type w s init h).most in omega arith
kind_light kinds sound (kind.Array w s n init) h =
    let m = h.width.most in
    let p = mul-le n (2 * w + 4) 4096 260 h.most (omega arith) in
    omega arith
kind_light kinds sound (kind.Ram w s n init) h = let m = h.width.most in let b = h.bits in let p = part_of n w in omega arith
kind_light kinds sound (kind.Rom w s n init) h = let m = h.width.most in let b = h.bits in let p = part_of n w in omega arith
kind_light kinds sound (kind.Signal w s unset) h = let m = (of_type w s unset h).most in omega arith
kind_light kinds sound (kind.Chan w s queue) h = let m = h.width.most in omega arith
kind_light kinds sound (kind.Input w s pins) h = let m = h.width.most in omega arith
kind_light kinds sound (kind.Output w s pins value) h =
    let m = h.port.width.most in
    let rest = light kinds sound (expression value) w s h.typed in
    omega arith

few_bits : (kinds : List Kind) (x : Kind) → IsKind kinds x → kind_flops x ≤ 2 ^ 25 * kind_parts x
few_bits kinds (kind.Reg w s init) h = let m = (of_type w s init h).most in omega arith
few_bits kinds (kind.Array w s n init) h = let p = mul-le n w 4096 128 h.most h.width.most in omega arith
few_bits kinds (kind.Ram w s n init) h = omega arith
few_bits kinds (kind.Rom w s n init) h = omega arith
few_bits kinds (kind.Signal w s unset) h = omega arith
few_bits kinds (kind.Chan w s queue) h = omega arith
few_bits kinds (kind.Input w s pins) h = omega arith
few_bits kinds (kind.Output w s pins value) h = omega arith

-- ---- the objects of a list

are_behind : (kinds rest : List Kind) (x : Kind) → CanWeighObjects kinds (x ∷ rest) → CanWeighObjects kinds rest
are_behind kinds rest x can = record {
  sound = can.sound;
  are = λ k kind is. can.are (suc k) kind is;
  few = let f = can.few in let e = sum_by-cons kind_parts x rest in omega arith;
}

first_can : (kinds rest : List Kind) (x : Kind) → CanWeighObjects kinds (x ∷ rest) → CanWeighKind kinds x
first_can kinds rest x can = record {
  sound = can.sound;
  is = can.are 0 x refl;
  few = let f = can.few in let e = sum_by-cons kind_parts x rest in omega arith;
}

objects_light : (kinds rest : List Kind) → CanWeighObjects kinds rest → sum_by (kind_weight kinds) rest ≤ 2 ^ 25 * sum_by kind_parts rest
objects_light kinds [] can = omega arith
objects_light kinds (x ∷ rest) can =
    let own = kind_light kinds can.sound x (can.are 0 x refl) in
    let others = objects_light kinds rest (are_behind kinds rest x can) in
    let e = sum_by-cons kind_parts x rest in
    let d = sum_by-cons (kind_weight kinds) x rest in
    omega arith

objects_few : (kinds rest : List Kind) → CanWeighObjects kinds rest → sum_by kind_flops rest ≤ 2 ^ 25 * sum_by kind_parts rest
objects_few kinds [] can = omega arith
objects_few kinds (x ∷ rest) can =
    let own = few_bits kinds x (can.are 0 x refl) in
    let others = objects_few kinds rest (are_behind kinds rest x can) in
    let e = sum_by-cons kind_parts x rest in
    let d = sum_by-cons kind_flops x rest in
    omega arith

-- what the loop over the objects keeps
pub record ObjectsListed (kinds all rest : List Kind) (weight flops : ℕ) : Type 0 where
  pub can : CanWeighObjects kinds rest
  pub weight_is : weight + sum_by (kind_weight kinds) rest ≡ sum_by (kind_weight kinds) all
  pub flops_is : flops + sum_by kind_flops rest ≡ sum_by kind_flops all
  pub light : sum_by (kind_weight kinds) all < 2 ^ 57
  pub few : sum_by kind_flops all < 2 ^ 57

pub objects_start : (kinds : List Kind) → CanWeighObjects kinds kinds → ObjectsListed kinds kinds kinds 0 0
objects_start kinds can = record {
  can = can;
  weight_is = omega arith;
  flops_is = omega arith;
  light = let h = objects_light kinds kinds can in let f = can.few in omega arith;
  few = let h = objects_few kinds kinds can in let f = can.few in omega arith;
}

pub object_can : (kinds all : List Kind) (rest behind : List Object) (first : Object) (w f : ℕ) → rest ≡ first ∷ behind
    → ObjectsListed kinds all (kinds_of rest) w f → CanWeighKind kinds first.kind
object_can kinds all rest behind first w f is h =
    first_can kinds (kinds_of behind) first.kind (subst (λ (l : List Object). CanWeighObjects kinds (kinds_of l)) is h.can)

pub objects_next : (kinds all : List Kind) (rest behind : List Object) (first : Object) (w f nw nf : ℕ) → rest ≡ first ∷ behind
    → ObjectsListed kinds all (kinds_of rest) w f → nw ≡ kind_weight kinds first.kind → nf ≡ kind_flops first.kind
    → ObjectsListed kinds all (kinds_of behind) (w + nw) (f + nf)
objects_next kinds all rest behind first w f nw nf is h weight flops =
    let moved : ObjectsListed kinds all (first.kind ∷ kinds_of behind) w f = subst (λ (l : List Object). ObjectsListed kinds all (kinds_of l) w f) is h in
    let d = sum_by-cons (kind_weight kinds) first.kind (kinds_of behind) in
    let b = sum_by-cons kind_flops first.kind (kinds_of behind) in
    record {
      can = are_behind kinds (kinds_of behind) first.kind moved.can;
      weight_is = let e = moved.weight_is in omega arith;
      flops_is = let e = moved.flops_is in omega arith;
      light = moved.light;
      few = moved.few;
    }

pub objects_end : (kinds all : List Kind) (rest : List Object) (w f : ℕ) → length rest < 1 → ObjectsListed kinds all (kinds_of rest) w f
    → (w ≡ sum_by (kind_weight kinds) all) × (f ≡ sum_by kind_flops all)
objects_end kinds all rest w f h now =
    let last = subst (λ (l : List Object). ObjectsListed kinds all (kinds_of l) w f) (is_empty rest h) now in
    (let e = last.weight_is in omega arith, let e = last.flops_is in omega arith)

-- ---- the parts of a sound core

pub core_objects : (core : Core) → IsSound core → CanWeighObjects (kinds_of core.objects) (kinds_of core.objects)
core_objects core sound = record { sound = sound.kinds; are = sound.kinds; few = let f = sound.few in omega arith }

pub core_main : (core : Core) → IsSound core → CanWeighStatement (kinds_of core.objects) (statement core.main)
core_main core sound = record { sound = sound.kinds; typed = sound.main; few = let f = sound.few in omega arith }

pub core_light : (core : Core) → IsSound core → weight_of core < 2 ^ 58
core_light core sound =
    let one = objects_light (kinds_of core.objects) (kinds_of core.objects) (core_objects core sound) in
    let two = statement_light (kinds_of core.objects) sound.kinds (statement core.main) sound.main in
    let f = sound.few in
    omega arith

pub core_few : (core : Core) → IsSound core → flops_of core < 2 ^ 58
core_few core sound =
    let one = objects_few (kinds_of core.objects) (kinds_of core.objects) (core_objects core sound) in
    let two = few_flops (statement core.main) in
    let f = sound.few in
    omega arith
