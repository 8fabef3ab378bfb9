-- The flip-flops of objects and tokens: their names differ, and how many there are. The gates, of which there are few.
use Rattle.std.proofs.Common.{◌≡◌, ◌≢◌, ◌<◌, ◌≤◌, ℕ, zero, suc, ◌+◌, ◌*◌, ◌⊎◌, List, [], ◌∷◌, ◌++◌, length, map, Bool, true, false, Some, None, refl, sym, ap, ◌∙◌, subst, inl, inr, arith, append_assoc, length-append}
use Rattle.std.specs.Prelude.{slice_get, replicate, All, if◌then◌else◌}
use Rattle.std.specs.List.{range_with_len, sum_by}
use Rattle.std.proofs.lemmas.List.Elements.{All-head, All-tail}
use Rattle.std.proofs.lemmas.List.FromFn.{length-map-range_with_len}
use Rattle.std.proofs.lemmas.List.Sums.{sum_by-cons}
use Rattle.hc_core.specs.Weight.{kind_flops}
use Rattle.hc_core.specs.declared.object.Kind.{Kind}
use Rattle.hc_core.specs.declared.object.Kind.TheVariants as kind
use Rattle.hc_meaning.specs.Value.{padded, bits_of, is_input}
use Rattle.hc_net.specs.Bits.{bit}
use Rattle.hc_net.specs.Circuit.{IsUnfed, flops_of, gates_of, input_nodes}
use Rattle.hc_net.specs.declared.net.FlopName.{FlopName}
use Rattle.hc_net.specs.declared.net.FlopName.TheVariants.{Bit, Token}
use Rattle.hc_net.specs.declared.node.Node.{Node}
use Rattle.hc_net.specs.declared.node.Node.TheVariants.{Input, Flop, Wire, Gate, Ram}
use Rattle.hc_token.specs.Control.{tokens_from}
use Rattle.hc_token.specs.Counting.{flops_append, gates_append}
use Rattle.hc_build.specs.Objects.{output_wire, word_flops, words_flops, object_nodes, nodes_from}
use Rattle.hc_build.specs.Sources.{bare}
use Rattle.hc_build.proofs.Placing.{length-words, length-padded}
use Rattle.hc_build.proofs.StructureNodes.{words_unfed}

-- ---- lists of nodes

-- what a flip-flop or a placeholder reads is no matter
pub flops_of-bare : (nodes : List Node) → flops_of (map bare nodes) ≡ flops_of nodes
flops_of-bare [] = refl
flops_of-bare (Input p i ∷ a) = flops_of-bare a
flops_of-bare (Flop name init d ∷ a) = ap (λ l. (name, init) ∷ l) (flops_of-bare a)
flops_of-bare (Wire rank from ∷ a) = flops_of-bare a
flops_of-bare (Gate g x y ∷ a) = flops_of-bare a
flops_of-bare (Ram rank first ram ∷ a) = flops_of-bare a

pub gates_of-bare : (nodes : List Node) → gates_of (map bare nodes) ≡ gates_of nodes
gates_of-bare [] = refl
gates_of-bare (Input p i ∷ a) = gates_of-bare a
gates_of-bare (Flop name init d ∷ a) = gates_of-bare a
gates_of-bare (Wire rank from ∷ a) = gates_of-bare a
gates_of-bare (Gate g x y ∷ a) = ap (λ n. 1 + n) (gates_of-bare a)
gates_of-bare (Ram rank first ram ∷ a) = gates_of-bare a

-- flip-flops alone
unfed_count : (nodes : List Node) → All IsUnfed nodes → length (flops_of nodes) ≡ length nodes
unfed_count [] only = refl
unfed_count (Input p i ∷ a) only = absurd (All-head IsUnfed (Input p i) a only)
unfed_count (Flop name init None ∷ a) only = ap suc (unfed_count a (All-tail IsUnfed (Flop name init None) a only))
unfed_count (Flop name init (Some d) ∷ a) only = absurd (All-head IsUnfed (Flop name init (Some d)) a only)
unfed_count (Wire rank from ∷ a) only = absurd (All-head IsUnfed (Wire rank from) a only)
unfed_count (Gate g x y ∷ a) only = absurd (All-head IsUnfed (Gate g x y) a only)
unfed_count (Ram rank first ram ∷ a) only = absurd (All-head IsUnfed (Ram rank first ram) a only)

unfed_gates : (nodes : List Node) → All IsUnfed nodes → gates_of nodes ≡ 0
unfed_gates [] only = refl
unfed_gates (Input p i ∷ a) only = absurd (All-head IsUnfed (Input p i) a only)
unfed_gates (Flop name init None ∷ a) only = unfed_gates a (All-tail IsUnfed (Flop name init None) a only)
unfed_gates (Flop name init (Some d) ∷ a) only = absurd (All-head IsUnfed (Flop name init (Some d)) a only)
unfed_gates (Wire rank from ∷ a) only = absurd (All-head IsUnfed (Wire rank from) a only)
unfed_gates (Gate g x y ∷ a) only = absurd (All-head IsUnfed (Gate g x y) a only)
unfed_gates (Ram rank first ram ∷ a) only = absurd (All-head IsUnfed (Ram rank first ram) a only)

-- inputs and placeholders
inputs_flops : (p : ℕ) (xs : List ℕ) → flops_of (map (λ i. Input p i) xs) ≡ []
inputs_flops p [] = refl
inputs_flops p (x ∷ xs) = inputs_flops p xs

inputs_gates : (p : ℕ) (xs : List ℕ) → gates_of (map (λ i. Input p i) xs) ≡ 0
inputs_gates p [] = refl
inputs_gates p (x ∷ xs) = inputs_gates p xs

wires_flops : (w : ℕ) → flops_of (replicate w output_wire) ≡ []
wires_flops zero = refl
wires_flops (suc w) = wires_flops w

wires_gates : (w : ℕ) → gates_of (replicate w output_wire) ≡ 0
wires_gates zero = refl
wires_gates (suc w) = wires_gates w

-- ---- how many there are

object_flops : (k inputs : ℕ) (x : Kind) → length (flops_of (object_nodes k inputs x)) ≡ kind_flops x
object_flops k inputs (kind.Reg w s init) =
    unfed_count (words_flops k 0 w (init.bits ∷ [])) (words_unfed k 0 w (init.bits ∷ [])) ∙ length-words k 0 w (init.bits ∷ []) ∙ (let one : 1 * w ≡ w = omega arith in one)
object_flops k inputs (kind.Array w s n init) =
    unfed_count (words_flops k 0 w (padded n (bits_of init))) (words_unfed k 0 w (padded n (bits_of init)))
    ∙ length-words k 0 w (padded n (bits_of init))
    ∙ ap (λ m. m * w) (length-padded n (bits_of init))
object_flops k inputs (kind.Ram w s n init) = refl
object_flops k inputs (kind.Rom w s n init) = refl
object_flops k inputs (kind.Signal w s unset) = refl
object_flops k inputs (kind.Chan w s queue) = refl
object_flops k inputs (kind.Input w s pins) = ap length (inputs_flops inputs (range_with_len 0 w))
object_flops k inputs (kind.Output w s pins value) = ap length (wires_flops w)

object_gates : (k inputs : ℕ) (x : Kind) → gates_of (object_nodes k inputs x) ≡ 0
object_gates k inputs (kind.Reg w s init) = unfed_gates (words_flops k 0 w (init.bits ∷ [])) (words_unfed k 0 w (init.bits ∷ []))
object_gates k inputs (kind.Array w s n init) = unfed_gates (words_flops k 0 w (padded n (bits_of init))) (words_unfed k 0 w (padded n (bits_of init)))
object_gates k inputs (kind.Ram w s n init) = refl
object_gates k inputs (kind.Rom w s n init) = refl
object_gates k inputs (kind.Signal w s unset) = refl
object_gates k inputs (kind.Chan w s queue) = refl
object_gates k inputs (kind.Input w s pins) = inputs_gates inputs (range_with_len 0 w)
object_gates k inputs (kind.Output w s pins value) = wires_gates w

pub objects_flops : (k inputs : ℕ) (kinds : List Kind) → length (flops_of (nodes_from k inputs kinds)) ≡ sum_by kind_flops kinds
objects_flops k inputs [] = refl
objects_flops k inputs (x ∷ kinds) =
    let next : ℕ = inputs + (if is_input x then 1 else 0) in
    let own : List Node = object_nodes k inputs x in
    let others : List Node = nodes_from (k + 1) next kinds in
    ap length (flops_append own others)
    ∙ length-append (flops_of own) (flops_of others)
    ∙ ap (λ n. n + length (flops_of others)) (object_flops k inputs x)
    ∙ ap (λ n. kind_flops x + n) (objects_flops (k + 1) next kinds)
    ∙ sym (sum_by-cons kind_flops x kinds)

pub objects_gates : (k inputs : ℕ) (kinds : List Kind) → gates_of (nodes_from k inputs kinds) ≡ 0
objects_gates k inputs [] = refl
objects_gates k inputs (x ∷ kinds) =
    let next : ℕ = inputs + (if is_input x then 1 else 0) in
    gates_append (object_nodes k inputs x) (nodes_from (k + 1) next kinds)
    ∙ ap (λ n. n + gates_of (nodes_from (k + 1) next kinds)) (object_gates k inputs x)
    ∙ ap (λ n. 0 + n) (objects_gates (k + 1) next kinds)

pub tokens_many : (token count : ℕ) → length (tokens_from token count) ≡ count
tokens_many token count = length-map-range_with_len (λ i. (Token (token + i), false)) 0 count

-- ---- names that differ

-- P holds of the name of each of a list, and each name differs from the later ones
abbrev EachName : (FlopName → Type 0) → List (FlopName × Bool) → Type 0
EachName P [] = Unit {0}
EachName P (f ∷ fs) = P f.0 × EachName P fs

abbrev Distinct : List (FlopName × Bool) → Type 0
Distinct [] = Unit {0}
Distinct (f ∷ fs) = EachName (λ n. f.0 ≢ n) fs × Distinct fs

-- the names of the flip-flops among nodes
abbrev Names : (FlopName → Type 0) → List Node → Type 0
Names P nodes = Distinct (flops_of nodes) × EachName P (flops_of nodes)

each_weaker : (P Q : FlopName → Type 0) → ((n : FlopName) → P n → Q n) → (fs : List (FlopName × Bool)) → EachName P fs → EachName Q fs
each_weaker P Q weaker [] each = tt
each_weaker P Q weaker (f ∷ fs) each = (weaker f.0 each.0, each_weaker P Q weaker fs each.1)

each_at : (P : FlopName → Type 0) (fs : List (FlopName × Bool)) (i : ℕ) (f : FlopName × Bool) → EachName P fs → slice_get fs i ≡ Some f → P f.0
each_at P [] i f each at = absurd cc
each_at P (x ∷ fs) zero f each at = let same : x ≡ f = cc in subst (λ (y : FlopName × Bool). P y.0) same each.0
each_at P (x ∷ fs) (suc i) f each at = each_at P fs i f each.1 at

distinct_at : (fs : List (FlopName × Bool)) (i j : ℕ) (f g : FlopName × Bool) → i < j → Distinct fs → slice_get fs i ≡ Some f → slice_get fs j ≡ Some g → f.0 ≢ g.0
distinct_at [] i j f g lower d at_i at_j = absurd cc
distinct_at (x ∷ fs) i zero f g lower d at_i at_j = absurd (omega arith)
distinct_at (x ∷ fs) zero (suc j) f g lower d at_i at_j =
    let same : x ≡ f = cc in
    subst (λ (y : FlopName × Bool). y.0 ≢ g.0) same (each_at (λ n. x.0 ≢ n) fs j g d.0 at_j)
distinct_at (x ∷ fs) (suc i) (suc j) f g lower d at_i at_j = distinct_at fs i j f g (omega arith) d.1 at_i at_j

-- a token that isn't before token a
abbrev FromToken : ℕ → FlopName → Type 0
FromToken a (Bit k i) = ⊥
FromToken a (Token t) = a ≤ t

-- a token, or a bit that isn't before bit a of object k
abbrev FromBit : ℕ → ℕ → FlopName → Type 0
FromBit k a (Bit object i) = (k < object) ⊎ ((k ≡ object) × (a ≤ i))
FromBit k a (Token t) = Unit {0}

token_later : (a : ℕ) (n : FlopName) → FromToken (a + 1) n → FromToken a n
token_later a (Bit k i) from = from
token_later a (Token t) from = omega arith

token_other : (a : ℕ) (n : FlopName) → FromToken (a + 1) n → Token a ≢ n
token_other a (Bit k i) from = λ same. absurd from
token_other a (Token t) from = λ same. let e : a ≡ t = cc in omega arith

bit_of_token : (k a : ℕ) (n : FlopName) → FromToken 0 n → FromBit k a n
bit_of_token k a (Bit object i) from = absurd from
bit_of_token k a (Token t) from = tt

bit_of_later : (k a : ℕ) (n : FlopName) → FromBit (k + 1) 0 n → FromBit k a n
bit_of_later k a (Bit object i) (inl high) = inl (omega arith)
bit_of_later k a (Bit object i) (inr same) = inl (omega arith)
bit_of_later k a (Token t) from = tt

bit_later : (k a b : ℕ) (n : FlopName) → a ≤ b → FromBit k b n → FromBit k a n
bit_later k a b (Bit object i) le (inl high) = inl high
bit_later k a b (Bit object i) le (inr same) = inr (same.0, omega (arith, same.1))
bit_later k a b (Token t) le from = tt

bit_other : (k a b : ℕ) (n : FlopName) → a < b → FromBit k b n → Bit k a ≢ n
bit_other k a b (Bit object i) lt (inl high) = λ same. let e : k ≡ object = cc in omega arith
bit_other k a b (Bit object i) lt (inr from) = λ same. let e : a ≡ i = cc in omega (arith, from.1)
bit_other k a b (Token t) lt from = λ same. absurd cc

-- tokens in a row
row_distinct : (token a m : ℕ) → Distinct (map (λ i. (Token (token + i), false)) (range_with_len a m)) × EachName (FromToken (token + a)) (map (λ i. (Token (token + i), false)) (range_with_len a m))
row_distinct token a zero = (tt, tt)
row_distinct token a (suc m) =
    let rest : List (FlopName × Bool) = map (λ i. (Token (token + i), false)) (range_with_len (a + 1) m) in
    let next : token + (a + 1) ≡ token + a + 1 = omega arith in
    let ih = row_distinct token (a + 1) m in
    let later : EachName (FromToken (token + a + 1)) rest = subst (λ n. EachName (FromToken n) rest) next ih.1 in
    ((each_weaker (FromToken (token + a + 1)) (λ n. Token (token + a) ≢ n) (token_other (token + a)) rest later, ih.0), (omega arith, each_weaker (FromToken (token + a + 1)) (FromToken (token + a)) (token_later (token + a)) rest later))

-- the first token, and those behind it
tokens_distinct : (count : ℕ) (nodes : List Node) → flops_of nodes ≡ (Token 0, true) ∷ tokens_from 1 count → Names (FromToken 0) nodes
tokens_distinct count nodes are =
    let rest : List (FlopName × Bool) = tokens_from 1 count in
    let row = row_distinct 1 0 count in
    subst (λ (l : List (FlopName × Bool)). Distinct l × EachName (FromToken 0) l) (sym are)
    ((each_weaker (FromToken (0 + 1)) (λ n. Token 0 ≢ n) (token_other 0) rest row.1, row.0), (omega arith, each_weaker (FromToken (0 + 1)) (FromToken 0) (token_later 0) rest row.1))

bits_distinct : (k from bits a n : ℕ) (more : List Node) → Names (FromBit k (from + (a + n))) more
    → Names (FromBit k (from + a)) (map (λ i. Flop (Bit k (from + i)) (bit bits i) None) (range_with_len a n) ++ more)
bits_distinct k from bits a zero more later = (later.0, each_weaker (FromBit k (from + (a + 0))) (FromBit k (from + a)) (λ m. bit_later k (from + a) (from + (a + 0)) m (omega arith)) (flops_of more) later.1)
bits_distinct k from bits a (suc n) more later =
    let end : from + (a + suc n) ≡ from + (a + 1 + n) = omega arith in
    let ih = bits_distinct k from bits (a + 1) n more (subst (λ b. Names (FromBit k b) more) end later) in
    let rest : List (FlopName × Bool) = flops_of (map (λ i. Flop (Bit k (from + i)) (bit bits i) None) (range_with_len (a + 1) n) ++ more) in (
      (each_weaker (FromBit k (from + (a + 1))) (λ m. Bit k (from + a) ≢ m) (λ m. bit_other k (from + a) (from + (a + 1)) m (omega arith)) rest ih.1, ih.0),
      (inr (refl, omega arith), each_weaker (FromBit k (from + (a + 1))) (FromBit k (from + a)) (λ m. bit_later k (from + a) (from + (a + 1)) m (omega arith)) rest ih.1),
    )

words_distinct : (k from w : ℕ) (numbers : List ℕ) (more : List Node) → Names (FromBit (k + 1) 0) more → Names (FromBit k from) (words_flops k from w numbers ++ more)
words_distinct k from w [] more later = (later.0, each_weaker (FromBit (k + 1) 0) (FromBit k from) (bit_of_later k from) (flops_of more) later.1)
words_distinct k from w (bits ∷ rest) more later =
    let others : List Node = words_flops k (from + w) w rest ++ more in
    let ih = words_distinct k (from + w) w rest more later in
    let start : from + w ≡ from + (0 + w) = omega arith in
    let none : from + 0 ≡ from = omega arith in
    let all = bits_distinct k from bits 0 w others (subst (λ b. Names (FromBit k b) others) start ih) in
    subst (λ (l : List Node). Names (FromBit k from) l) (sym (append_assoc (word_flops k from w bits) (words_flops k (from + w) w rest) more))
    (subst (λ b. Names (FromBit k b) (word_flops k from w bits ++ others)) none all)

-- nodes without flip-flops in front change nothing
none_distinct : (k : ℕ) (own more : List Node) → flops_of own ≡ [] → Names (FromBit (k + 1) 0) more → Names (FromBit k 0) (own ++ more)
none_distinct k own more none later =
    let same : flops_of (own ++ more) ≡ flops_of more = flops_append own more ∙ ap (λ l. l ++ flops_of more) none in
    subst (λ (l : List (FlopName × Bool)). Distinct l × EachName (FromBit k 0) l) (sym same) (later.0, each_weaker (FromBit (k + 1) 0) (FromBit k 0) (bit_of_later k 0) (flops_of more) later.1)

object_distinct : (k inputs : ℕ) (x : Kind) (more : List Node) → Names (FromBit (k + 1) 0) more → Names (FromBit k 0) (object_nodes k inputs x ++ more)
object_distinct k inputs (kind.Reg w s init) more later = words_distinct k 0 w (init.bits ∷ []) more later
object_distinct k inputs (kind.Array w s n init) more later = words_distinct k 0 w (padded n (bits_of init)) more later
object_distinct k inputs (kind.Ram w s n init) more later = none_distinct k [] more refl later
object_distinct k inputs (kind.Rom w s n init) more later = none_distinct k [] more refl later
object_distinct k inputs (kind.Signal w s unset) more later = none_distinct k [] more refl later
object_distinct k inputs (kind.Chan w s queue) more later = none_distinct k [] more refl later
object_distinct k inputs (kind.Input w s pins) more later = none_distinct k (input_nodes inputs w) more (inputs_flops inputs (range_with_len 0 w)) later
object_distinct k inputs (kind.Output w s pins value) more later = none_distinct k (replicate w output_wire) more (wires_flops w) later

objects_distinct : (k inputs : ℕ) (kinds : List Kind) (more : List Node) → Names (FromToken 0) more → Names (FromBit k 0) (nodes_from k inputs kinds ++ more)
objects_distinct k inputs [] more later = (later.0, each_weaker (FromToken 0) (FromBit k 0) (bit_of_token k 0) (flops_of more) later.1)
objects_distinct k inputs (x ∷ kinds) more later =
    let next : ℕ = inputs + (if is_input x then 1 else 0) in
    let others : List Node = nodes_from (k + 1) next kinds in
    subst (λ (l : List Node). Names (FromBit k 0) l) (sym (append_assoc (object_nodes k inputs x) others more))
    (object_distinct k inputs x (others ++ more) (objects_distinct (k + 1) next kinds more later))

-- the flip-flops of objects, and of the tokens behind them
pub distinct_names : (kinds : List Kind) (count : ℕ) (more : List Node) → flops_of more ≡ (Token 0, true) ∷ tokens_from 1 count
    → (i j : ℕ) (f g : FlopName × Bool) → i < j → slice_get (flops_of (nodes_from 0 0 kinds ++ more)) i ≡ Some f → slice_get (flops_of (nodes_from 0 0 kinds ++ more)) j ≡ Some g → f.0 ≢ g.0
distinct_names kinds count more tokens i j f g lower at_i at_j = distinct_at _ i j f g lower (objects_distinct 0 0 kinds more (tokens_distinct count more tokens)).0 at_i at_j
