-- How many gates a list of nodes has, and which flip-flops.
use Rattle.std.proofs.Common.{◌≡◌, ◌≤◌, ℕ, zero, suc, ◌+◌, List, [], ◌∷◌, ◌++◌, length, set, false, Option, refl, ap, sym, ◌∙◌, arith, append_assoc}
use Rattle.std.specs.Prelude.{All}
use Rattle.std.proofs.lemmas.List.{append-nil}
use Rattle.std.proofs.lemmas.List.Elements.{All-head, All-tail}
use Rattle.std.proofs.lemmas.List.FromFn.{length-map-range_with_len, map-range_with_len_more}
use Rattle.hc_net.specs.Circuit.{flops_of, gates_of, node_at}
use Rattle.hc_net.specs.Made.{IsGate}
use Rattle.hc_net.specs.declared.net.FlopName.TheVariants.{Token}
use Rattle.hc_net.specs.declared.node.Node.{Node}
use Rattle.hc_net.specs.declared.node.Node.TheVariants.{Input, Flop, Wire, Gate, Ram}
use Rattle.hc_token.specs.Control.{IsPart, tokens_from}

-- ---- nodes behind nodes

pub gates_append : (xs ys : List Node) → gates_of (xs ++ ys) ≡ gates_of xs + gates_of ys
gates_append [] ys = omega arith
gates_append (Input p i ∷ xs) ys = gates_append xs ys
gates_append (Flop name init d ∷ xs) ys = gates_append xs ys
gates_append (Wire rank from ∷ xs) ys = gates_append xs ys
gates_append (Gate g a b ∷ xs) ys = omega (arith, gates_append xs ys)
gates_append (Ram rank first ram ∷ xs) ys = gates_append xs ys

pub flops_append : (xs ys : List Node) → flops_of (xs ++ ys) ≡ flops_of xs ++ flops_of ys
flops_append [] ys = refl
flops_append (Input p i ∷ xs) ys = flops_append xs ys
flops_append (Flop name init d ∷ xs) ys = ap (λ l. (name, init) ∷ l) (flops_append xs ys)
flops_append (Wire rank from ∷ xs) ys = flops_append xs ys
flops_append (Gate g a b ∷ xs) ys = flops_append xs ys
flops_append (Ram rank first ram ∷ xs) ys = flops_append xs ys

-- ---- a placeholder in its place, whatever drives it

pub gates_driven : (list : List Node) (i rank : ℕ) (old new : Option ℕ) → node_at list i ≡ Wire rank old → gates_of (set list i (Wire rank new)) ≡ gates_of list
gates_driven [] i rank old new is = refl
gates_driven (n ∷ list) zero rank old new is =
    let none : gates_of list ≡ 0 + gates_of list = omega arith in
    none ∙ sym (gates_append (n ∷ []) list ∙ ap (λ (x : Node). gates_of (x ∷ []) + gates_of list) is)
gates_driven (n ∷ list) (suc i) rank old new is =
    gates_append (n ∷ []) (set list i (Wire rank new)) ∙ ap (λ k. gates_of (n ∷ []) + k) (gates_driven list i rank old new is) ∙ sym (gates_append (n ∷ []) list)

pub flops_driven : (list : List Node) (i rank : ℕ) (old new : Option ℕ) → node_at list i ≡ Wire rank old → flops_of (set list i (Wire rank new)) ≡ flops_of list
flops_driven [] i rank old new is = refl
flops_driven (n ∷ list) zero rank old new is = sym (flops_append (n ∷ []) list ∙ ap (λ (x : Node). flops_of (x ∷ []) ++ flops_of list) is)
flops_driven (n ∷ list) (suc i) rank old new is =
    flops_append (n ∷ []) (set list i (Wire rank new)) ∙ ap (λ l. flops_of (n ∷ []) ++ l) (flops_driven list i rank old new is) ∙ sym (flops_append (n ∷ []) list)

-- ---- gates, and gates with flip-flops

pub gates_most : (nodes : List Node) → gates_of nodes ≤ length nodes
gates_most [] = omega arith
gates_most (Input p i ∷ nodes) = omega (arith, gates_most nodes)
gates_most (Flop name init d ∷ nodes) = omega (arith, gates_most nodes)
gates_most (Wire rank from ∷ nodes) = omega (arith, gates_most nodes)
gates_most (Gate k a b ∷ nodes) = omega (arith, gates_most nodes)
gates_most (Ram rank first ram ∷ nodes) = omega (arith, gates_most nodes)

pub no_flops : (gates : List Node) → All IsGate gates → flops_of gates ≡ []
no_flops [] all = refl
no_flops (Input p i ∷ gates) all = absurd (All-head IsGate (Input p i) gates all)
no_flops (Flop name init d ∷ gates) all = absurd (All-head IsGate (Flop name init d) gates all)
no_flops (Wire rank from ∷ gates) all = absurd (All-head IsGate (Wire rank from) gates all)
no_flops (Gate k a b ∷ gates) all = no_flops gates (All-tail IsGate (Gate k a b) gates all)
no_flops (Ram rank first ram ∷ gates) all = absurd (All-head IsGate (Ram rank first ram) gates all)

-- gates and flip-flops are all that there is
pub part_size : (nodes : List Node) → All IsPart nodes → length nodes ≡ gates_of nodes + length (flops_of nodes)
part_size [] all = refl
part_size (Input p i ∷ nodes) all = absurd (All-head IsPart (Input p i) nodes all)
part_size (Flop name init d ∷ nodes) all = omega (arith, part_size nodes (All-tail IsPart (Flop name init d) nodes all))
part_size (Wire rank from ∷ nodes) all = absurd (All-head IsPart (Wire rank from) nodes all)
part_size (Gate k a b ∷ nodes) all = omega (arith, part_size nodes (All-tail IsPart (Gate k a b) nodes all))
part_size (Ram rank first ram ∷ nodes) all = absurd (All-head IsPart (Ram rank first ram) nodes all)

-- ---- tokens

pub tokens_size : (token count : ℕ) → length (tokens_from token count) ≡ count
tokens_size token count = length-map-range_with_len (λ i. (Token (token + i), false)) 0 count

tokens_more : (token count : ℕ) → tokens_from token (suc count) ≡ tokens_from token count ++ (Token (token + count), false) ∷ []
tokens_more token count =
    let e : suc count ≡ count + 1 = omega arith in
    ap (tokens_from token) e ∙ map-range_with_len_more (λ i. (Token (token + i), false)) 0 count count (omega arith)

-- tokens behind others
pub tokens_append : (token m n : ℕ) → tokens_from token (m + n) ≡ tokens_from token m ++ tokens_from (token + m) n
tokens_append token m zero = let e : m + 0 ≡ m = omega arith in ap (tokens_from token) e ∙ sym (append-nil (tokens_from token m))
tokens_append token m (suc n) =
    let e : m + suc n ≡ suc (m + n) = omega arith in
    let place : token + (m + n) ≡ (token + m) + n = omega arith in
    ap (tokens_from token) e ∙ tokens_more token (m + n) ∙ ap (λ l. l ++ (Token (token + (m + n)), false) ∷ []) (tokens_append token m n)
    ∙ append_assoc (tokens_from token m) (tokens_from (token + m) n) ((Token (token + (m + n)), false) ∷ [])
    ∙ ap (λ k. tokens_from token m ++ (tokens_from (token + m) n ++ (Token k, false) ∷ [])) place
    ∙ ap (λ l. tokens_from token m ++ l) (sym (tokens_more (token + m) n))

-- a token before others
pub tokens_before : (token count : ℕ) → (Token token, false) ∷ tokens_from (token + 1) count ≡ tokens_from token (1 + count)
tokens_before token count =
    let e : token ≡ token + 0 = omega arith in
    ap (λ n. (Token n, false) ∷ tokens_from (token + 1) count) e ∙ sym (tokens_append token 1 count)
