-- The number of nets that all have constants.
use Rattle.std.proofs.Common.{◌≡◌, ◌<◌, ◌≤◌, ℕ, zero, suc, ◌+◌, ◌-◌, ◌*◌, ◌^◌, List, [], ◌∷◌, ◌++◌, length, map, get_or, drop, Bool, true, false, Option, Some, None, refl, ap, sym, ◌∙◌, subst, arith}
use Rattle.std.specs.Prelude.{All, if◌then◌else◌}
use Rattle.std.proofs.lemmas.List.{drop_more, drop_all, get_or_append_left}
use Rattle.std.proofs.lemmas.List.Elements.{All-tail}
use Rattle.std.proofs.Math.Nat.{pow-le-pow_right, pow-suc}
use Rattle.hc_net.specs.Bits.{number}
use Rattle.hc_net.specs.Run.{Trace}
use Rattle.hc_net.specs.Circuit.{Circuit, History, Explains, Does, node_at, constant_at}
use Rattle.hc_net.specs.Made.{Adds}
use Rattle.hc_net.specs.declared.node.Node.{Node}
use Rattle.hc_net.specs.declared.node.Node.TheVariants.{Input, Flop, Wire, Gate, Ram}
use Rattle.hc_net.specs.declared.gate.GateKind.TheVariants as kind
use Rattle.hc_store.specs.Arrays.{with_low, constant_number}

-- ---- more nodes

number_stays : (old more : List Node) (index : List ℕ) → All (λ k. k < length old) index → constant_number (old ++ more) index ≡ constant_number old index
number_stays old more [] all = refl
number_stays old more (k ∷ ks) all =
    ap (λ n. with_low (constant_at n) (constant_number (old ++ more) ks)) (get_or_append_left old more (Wire 0 None) k (all 0 0 (omega arith)))
    ∙ ap (λ n. with_low (constant_at (node_at old k)) n) (number_stays old more ks (All-tail (λ j. j < length old) k ks all))

pub number_same : {most : ℕ} {old new : Circuit} (index : List ℕ) → Adds most old new → All (λ k. k < length old.nodes) index
    → constant_number new.nodes index ≡ constant_number old.nodes index
number_same {old = old} index a all = ap (λ l. constant_number l index) a.nodes ∙ number_stays old.nodes a.gates index all

-- ---- its bits

does_constant : (trace : Trace) (h : History) (k : ℕ) (node : Node) (b : Bool) → Does trace h k node → constant_at node ≡ Some b → (t : ℕ) → h t k ≡ b
does_constant trace h k (Input p i) b does is t = absurd cc
does_constant trace h k (Flop name init d) b does is t = absurd cc
does_constant trace h k (Wire rank from) b does is t = absurd cc
does_constant trace h k (Gate kind.Zero x y) b does is t = does t ∙ (let e : false ≡ b = cc in e)
does_constant trace h k (Gate kind.One x y) b does is t = does t ∙ (let e : true ≡ b = cc in e)
does_constant trace h k (Gate kind.Not x y) b does is t = absurd cc
does_constant trace h k (Gate kind.And x y) b does is t = absurd cc
does_constant trace h k (Gate kind.Or x y) b does is t = absurd cc
does_constant trace h k (Gate kind.Xor x y) b does is t = absurd cc
does_constant trace h k (Ram rank first ram) b does is t = absurd cc

record LowAndHigh (low : Option Bool) (high : Option ℕ) (n : ℕ) : Type 0 where
  pub bit : Bool
  pub rest : ℕ
  pub low_is : low ≡ Some bit
  pub high_is : high ≡ Some rest
  pub whole : n ≡ (if bit then 1 else 0) + 2 * rest

low_and_high : (low : Option Bool) (high : Option ℕ) (n : ℕ) → with_low low high ≡ Some n → LowAndHigh low high n
low_and_high None high n is = absurd cc
low_and_high (Some b) None n is = absurd cc
low_and_high (Some b) (Some m) n is = record {
  bit = b;
  rest = m;
  low_is = refl;
  high_is = refl;
  whole = let e : (if b then 1 else 0) + 2 * m ≡ n = cc in sym e;
}

pub number_bits : (nodes : List Node) (trace : Trace) (h : History) (index : List ℕ) (n : ℕ) → Explains nodes trace h → constant_number nodes index ≡ Some n
    → (t : ℕ) → number (map (h t) index) ≡ n
number_bits nodes trace h [] n e is t = let same : 0 ≡ n = cc in same
number_bits nodes trace h (k ∷ ks) n e is t =
    let parts = low_and_high (constant_at (node_at nodes k)) (constant_number nodes ks) n is in
    let low : h t k ≡ parts.bit = does_constant trace h k (node_at nodes k) parts.bit (e.each k) parts.low_is t in
    let high : number (map (h t) ks) ≡ parts.rest = number_bits nodes trace h ks parts.rest e parts.high_is t in
    ap (λ b. (if b then 1 else 0) + 2 * number (map (h t) ks)) low ∙ ap (λ m. (if parts.bit then 1 else 0) + 2 * m) high ∙ sym parts.whole

-- ---- from the highest bit down

-- the nets from the next one on
next_nets : (index : List ℕ) (i net : ℕ) → i < length index → net ≡ get_or index (length index - 1 - i) 0 → drop (length index - (i + 1)) index ≡ net ∷ drop (length index - i) index
next_nets index i net within is =
    let k = length index - 1 - i in
    let at : length index - (i + 1) ≡ k = omega arith in
    let after : k + 1 ≡ length index - i = omega arith in
    ap (λ j. drop j index) at ∙ drop_more index k 0 (omega arith) ∙ ap (λ l. l ∷ drop (k + 1) index) (sym is) ∙ ap (λ j. net ∷ drop j index) after

pub constant_none : (nodes : List Node) (index : List ℕ) → constant_number nodes (drop (length index - 0) index) ≡ Some 0
constant_none nodes index = ap (λ l. constant_number nodes l) (drop_all (length index - 0) index (omega arith))

pub constant_more : (nodes : List Node) (index : List ℕ) (i net n : ℕ) (b : Bool) → i < length index → net ≡ get_or index (length index - 1 - i) 0
    → Some b ≡ constant_at (node_at nodes net) → constant_number nodes (drop (length index - i) index) ≡ Some n
    → constant_number nodes (drop (length index - (i + 1)) index) ≡ Some ((if b then 1 else 0) + 2 * n)
constant_more nodes index i net n b within is low high =
    ap (λ l. constant_number nodes l) (next_nets index i net within is)
    ∙ ap (λ c. with_low c (constant_number nodes (drop (length index - i) index))) (sym low) ∙ ap (λ m. with_low (Some b) m) high

low_none : (low : Option Bool) → with_low low None ≡ None
low_none None = refl
low_none (Some b) = refl

none_above : (nodes : List Node) (index : List ℕ) (k : ℕ) → constant_number nodes (drop k index) ≡ None → constant_number nodes index ≡ None
none_above nodes index zero is = is
none_above nodes [] (suc k) is = is
none_above nodes (x ∷ xs) (suc k) is = ap (λ m. with_low (constant_at (node_at nodes x)) m) (none_above nodes xs k is) ∙ low_none (constant_at (node_at nodes x))

pub constant_missing : (nodes : List Node) (index : List ℕ) (i net : ℕ) → i < length index → net ≡ get_or index (length index - 1 - i) 0
    → None ≡ constant_at (node_at nodes net) → None ≡ constant_number nodes index
constant_missing nodes index i net within is low =
    sym (none_above nodes index (length index - (i + 1))
    (ap (λ l. constant_number nodes l) (next_nets index i net within is)
    ∙ ap (λ c. with_low c (constant_number nodes (drop (length index - i) index))) (sym low)))

pub constant_all : (nodes : List Node) (index : List ℕ) (i n : ℕ) → i ≡ length index → constant_number nodes (drop (length index - i) index) ≡ Some n
    → Some n ≡ constant_number nodes index
constant_all nodes index i n at is =
    let none : length index - i ≡ 0 = omega arith in
    sym (subst (λ k. constant_number nodes (drop k index) ≡ Some n) none is)

-- numbers of few bits
pub few_bits : (n i : ℕ) → n < 2 ^ i → i ≤ 32 → n < 2 ^ 32
few_bits n i small few = let most : 2 ^ i ≤ 2 ^ 32 = pow-le-pow_right {n = 2} (omega arith) few in omega arith

pub bits_more : (n i : ℕ) (b : Bool) → n < 2 ^ i → (if b then 1 else 0) + 2 * n < 2 ^ (i + 1)
bits_more n i b small =
    let twice : 2 ^ (i + 1) ≡ 2 * 2 ^ i = let s : i + 1 ≡ suc i = omega arith in ap (λ k. 2 ^ k) s ∙ pow-suc 2 i ∙ omega arith in
    let digit = at_most_one b in
    omega (arith, twice, digit)
  where
    at_most_one : (b : Bool) → (if b then 1 else 0) ≤ 1
    at_most_one true = omega arith
    at_most_one false = omega arith
