-- Whether some use is enabled and has a bit, from gates.
use Rattle.std.proofs.Common.{◌≡◌, ◌<◌, ◌≤◌, ℕ, ◌+◌, ◌*◌, List, [], ◌∷◌, ◌++◌, length, map, get_or, Bool, true, false, not, ◌&&◌, ◌||◌, refl, ap, sym, ◌∙◌, subst, arith}
use Rattle.std.specs.Prelude.{All, bit_and, ◌==◌, if◌then◌else◌}
use Rattle.std.specs.List.{range_with_len}
use Rattle.std.proofs.lemmas.List.{length-map}
use Rattle.std.proofs.lemmas.List.Elements.{All-append, All-nil, All-cons, All-tail}
use Rattle.hc_num.specs.Number.{Number}
use Rattle.hc_num.specs.Compare.{truth as one_bit}
use Rattle.hc_num.specs.Bits.{conjunction}
use Rattle.hc_net.specs.Bits.{number}
use Rattle.hc_net.specs.Circuit.{Circuit}
use Rattle.hc_net.specs.Gate.{gate_bit}
use Rattle.hc_net.specs.Made.{Over, Makes}
use Rattle.hc_net.specs.MadeLemmas.{Over-left, Over-over, Over-self, Makes-last, Makes-holds}
use Rattle.hc_net.specs.declared.gate.GateKind.TheVariants as kind
use Rattle.hc_net.specs.declared.node.Node.{Node}
use Rattle.hc_bits.specs.Carry.{each}
use Rattle.hc_bits.specs.Held.{held}
use Rattle.hc_bits.proofs.Bitwise.{number-each, and_bitwise}
use Rattle.hc_bits.proofs.EachBit.{bits_more}
use Rattle.hc_bits.proofs.Joined.{any, any_number}
use Rattle.hc_bits.proofs.Parts.{Over-right, Over-at, Makes-over}
use Rattle.hc_ram.specs.Enabled.{AreLists, all_nets, any_enabled, column_nets}

-- ---- by the number of the bits

any_both : (v : ℕ → Bool) (enables : List ℕ) (values : List (List ℕ)) (i : ℕ) → length values ≡ length enables
    → any (each (gate_bit kind.And) (map v enables) (map v (column_nets values i))) ≡ any_enabled v enables values i
any_both v [] values i same = refl
any_both v (e ∷ enables) [] i same = absurd (omega (arith, same))
any_both v (e ∷ enables) (x ∷ values) i same = ap (λ b. (v e && v (get_or x i 0)) || b) (any_both v enables values i (omega (arith, same)))

enabled_number : (v : ℕ → Bool) (enables : List ℕ) (values : List (List ℕ)) (i : ℕ) → length values ≡ length enables
    → not (bit_and (number (map v enables)) (number (map v (column_nets values i))) == 0) ≡ any_enabled v enables values i
enabled_number v enables values i same =
    let column = column_nets values i in
    let width : length (map v column) ≡ length (map v enables) = length-map column v ∙ length-map values (λ value. get_or value i 0) ∙ same ∙ sym (length-map enables v) in
    ap (λ n. not (n == 0)) (sym (number-each bit_and (gate_bit kind.And) and_bitwise (map v enables) (map v column) width))
    ∙ sym (any_number (each (gate_bit kind.And) (map v enables) (map v column))) ∙ any_both v enables values i same

-- ---- a column

-- bit i of each value is one of the values' nets
column_over : {nodes : List Node} (values : List (List ℕ)) (i : ℕ) → All (λ value. i < length value) values → All (Over nodes (all_nets values)) (column_nets values i)
column_over {nodes} [] i all = All-nil (Over nodes [])
column_over {nodes} (x ∷ rest) i all =
    let wide = x ++ all_nets rest in
    All-cons (Over nodes wide) (get_or x i 0) (column_nets rest i)
    (Over-over (Over-left x (all_nets rest)) (Over-at x i (all 0 [] (omega arith))))
    (λ j d within. Over-over (Over-right x (all_nets rest)) (column_over rest i (All-tail (λ (value : List ℕ). i < length value) x rest all) j d within))

column_within : (n i : ℕ) (values : List (List ℕ)) → All (λ value. i < length value) values → All (All (λ k. k < n)) values → All (λ k. k < n) (column_nets values i)
column_within n i [] within all = All-nil (λ k. k < n)
column_within n i (x ∷ rest) within all =
    All-cons (λ k. k < n) (get_or x i 0) (column_nets rest i) (all 0 [] (omega arith) i 0 (within 0 [] (omega arith)))
    (column_within n i rest (All-tail (λ (value : List ℕ). i < length value) x rest within) (All-tail (λ (value : List ℕ). All (λ k. k < n) value) x rest all))

pub column_there : (n i : ℕ) (bits : List ℕ) (values : List (List ℕ)) → bits ≡ column_nets values i → All (λ value. i < length value) values → All (All (λ k. k < n)) values → All (λ k. k < n) bits
column_there n i bits values is within all = subst (λ (l : List ℕ). All (λ k. k < n) l) (sym is) (column_within n i values within all)

pub column_width : (i : ℕ) (bits enables : List ℕ) (values : List (List ℕ)) → bits ≡ column_nets values i → length values ≡ length enables → length bits ≡ length enables
column_width i bits enables values is same = ap (λ (l : List ℕ). length l) is ∙ length-map values (λ value. get_or value i 0) ∙ same

-- ---- one bit

single : (l : List ℕ) → length l ≡ 1 → l ≡ get_or l 0 0 ∷ []
single [] size = absurd (omega (arith, size))
single (x ∷ []) size = refl
single (x ∷ y ∷ l) size = absurd (omega (arith, size))

digit_of : (b t : Bool) → (if b then 1 else 0) + 2 * 0 ≡ (if t then 1 else 0) → b ≡ t
digit_of true true is = refl
digit_of true false is = absurd (omega (arith, is))
digit_of false true is = absurd (omega (arith, is))
digit_of false false is = refl

bit_held : (v : ℕ → Bool) (k : ℕ) (t : Bool) → held false v (k ∷ []) ≡ one_bit t → v k ≡ t
bit_held v k t is = digit_of (v k) t (ap (λ (n : Number). n.bits) is)

pub bit_made : (enables bits both some : List ℕ) (values : List (List ℕ)) (i k : ℕ) (old mid new : Circuit)
    → length values ≡ length enables → bits ≡ column_nets values i → All (λ value. i < length value) values
    → length both ≡ length enables → length some ≡ 1 → k ≡ get_or some 0 0
    → Makes (length enables) (enables ++ bits) old mid both (λ v. (s : Bool) → held s v both ≡ conjunction (held s v enables) (held s v bits))
    → Makes (length both) both mid new some (λ v. (s : Bool) → held false v some ≡ one_bit (not ((held s v both).bits == 0)))
    → Makes (2 * length enables) (enables ++ all_nets values) old new (k ∷ []) (λ v. v k ≡ any_enabled v enables values i)
bit_made enables bits both some values i k old mid new same is within width one at a b =
    let args = enables ++ all_nets values in
    let column = column_nets values i in
    let alone : some ≡ k ∷ [] = single some one ∙ ap (λ n. n ∷ []) (sym at) in
    let first = subst (λ (l : List ℕ). Makes (length enables) (enables ++ l) old mid both (λ v. (s : Bool) → held s v both ≡ conjunction (held s v enables) (held s v l))) is a in
    let over : All (Over old.nodes args) (enables ++ column) = All-append (Over old.nodes args) enables column (Over-left enables (all_nets values))
    (λ j d at. Over-over (Over-right enables (all_nets values)) (column_over values i within j d at)) in
    let wide = Makes-over first over in
    subst (λ (l : List ℕ). Makes (2 * length enables) args old new l (λ v. v k ≡ any_enabled v enables values i)) alone
    (Makes-holds (Makes-last wide b wide.reach) (omega arith)
    (λ v holds.
    let turned : held false v (k ∷ []) ≡ one_bit (not (number (map v both) == 0)) = ap (λ l. held false v l) (sym alone) ∙ holds.1 false in
    let number_is : number (map v both) ≡ _ = ap (λ (n : Number). n.bits) (holds.0 false) in
    bit_held v k (not (number (map v both) == 0)) turned ∙ ap (λ n. not (n == 0)) number_is ∙ enabled_number v enables values i same))

-- ---- bit by bit

pub lists_within : (n width i : ℕ) (values : List (List ℕ)) → i < width → AreLists n width values → All (λ value. i < length value) values
lists_within n width i values low all j d at = let size = (all j d at).width in omega arith

pub lists_there : (m n width : ℕ) (values : List (List ℕ)) → m ≤ n → AreLists m width values → All (All (λ k. k < n)) values
lists_there m n width values le all j d at k e within = let there = (all j d at).there k e within in omega arith

pub enabled_more : (enables bits more : List ℕ) (values : List (List ℕ)) (i bit : ℕ) (old mid new : Circuit) → more ≡ bits ++ bit ∷ []
    → Makes (i * (2 * length enables)) (enables ++ all_nets values) old mid bits (λ v. map v bits ≡ map (any_enabled v enables values) (range_with_len 0 i))
    → Makes (2 * length enables) (enables ++ all_nets values) mid new (bit ∷ []) (λ v. v bit ≡ any_enabled v enables values i)
    → Makes ((i + 1) * (2 * length enables)) (enables ++ all_nets values) old new more (λ v. map v more ≡ map (any_enabled v enables values) (range_with_len 0 (i + 1)))
enabled_more enables bits more values i bit old mid new pushed made one =
    subst (λ (z : List ℕ). Makes ((i + 1) * (2 * length enables)) (enables ++ all_nets values) old new z (λ v. map v z ≡ map (any_enabled v enables values) (range_with_len 0 (i + 1)))) (sym pushed)
    (bits_more (λ v k. any_enabled v enables values k) i ((i + 1) * (2 * length enables)) made one (Over-self (enables ++ all_nets values)) (omega arith))
