-- The words of a RAM among its bits.
use mir.Val.{bool_byte}
use Rattle.std.proofs.Common.{◌≡◌, ◌<◌, ◌≤◌, ℕ, zero, suc, ◌+◌, ◌-◌, ◌*◌, List, [], ◌∷◌, ◌++◌, length, drop, take, get_or, replicate, Bool, true, false, refl, ap, ap₂, sym, ◌∙◌, arith, append_assoc}
use Rattle.std.specs.Prelude.{map}
use Rattle.std.specs.List.{range_with_len}
use Rattle.std.proofs.lemmas.List.{drop_more, drop-drop, get_or_past}
use Rattle.std.proofs.lemmas.Nat.{mul-le}
use Rattle.hc_net.specs.Bits.{number}
use Rattle.hc_net.specs.Ram.{address, read_bits}
use Rattle.hc_netsim.specs.Held.{Held}
use Rattle.hc_netsim.proofs.Passes.{part_size}

-- the higher bits make no more than all
pub higher_bits : (bits : List Bool) (k : ℕ) → number (drop k bits) ≤ number bits
higher_bits bits zero = omega arith
higher_bits [] (suc k) = omega arith
higher_bits (true ∷ bits) (suc k) = let h = higher_bits bits k in omega (arith, h)
higher_bits (false ∷ bits) (suc k) = let h = higher_bits bits k in omega (arith, h)

drop_map : (v : ℕ → Bool) (nets : List ℕ) (k : ℕ) → drop k (map v nets) ≡ map v (drop k nets)
drop_map v nets zero = refl
drop_map v [] (suc k) = refl
drop_map v (net ∷ nets) (suc k) = drop_map v nets k

pub outside_stays : (v : ℕ → Bool) (nets : List ℕ) (k n words : ℕ) → n ≡ number (map v (drop k nets)) → words ≤ n → words ≤ number (map v nets)
outside_stays v nets k n words is out =
    let h = higher_bits (map v nets) k in
    let same : number (drop k (map v nets)) ≡ number (map v (drop k nets)) = ap number (drop_map v nets k) in
    omega (arith, h, same)

-- a word lies within the bits
pub word_within : (i words width : ℕ) → i < words → i * width + width ≤ words * width
word_within i words width inside = let p = mul-le (i + 1) width words width (omega arith) (omega arith) in omega (arith, p)

pub word_is : (bits : List Bool) (k a n : ℕ) → k + a + n ≤ length bits → take n (drop (k + a) bits) ≡ map (λ b. get_or bits (k + b) false) (range_with_len a n)
word_is bits k a zero within = refl
word_is bits k a (suc n) within =
    ap (take (suc n)) (drop_more bits (k + a) false (omega arith))
    ∙ ap (λ rest. get_or bits (k + a) false ∷ rest) (ap (λ j. take n (drop j bits)) (let e : k + a + 1 ≡ k + (a + 1) = omega arith in e) ∙ word_is bits k (a + 1) n (omega arith))

-- outside there is 0
pub none_outside : (bits : List Bool) (k a n : ℕ) → length bits ≤ k → replicate n false ≡ map (λ b. get_or bits (k + b) false) (range_with_len a n)
none_outside bits k a zero past = refl
none_outside bits k a (suc n) past =
    ap (λ b. b ∷ replicate n false) (sym (get_or_past bits (k + a) false (omega arith)))
    ∙ ap (λ rest. get_or bits (k + a) false ∷ rest) (none_outside bits k (a + 1) n past)

pub read_outside : (m : Held) (v : ℕ → Bool) (n : ℕ) → length m.bits ≡ m.ram.words * m.ram.width → m.ram.words ≤ address m.ram v → n ≡ m.ram.width → replicate n false ≡ read_bits m.ram m.bits v
read_outside m v n size past is =
    let p = mul-le m.ram.words m.ram.width (address m.ram v) m.ram.width past (omega arith) in
    ap (λ k. replicate k false) is ∙ none_outside m.bits (address m.ram v * m.ram.width) 0 m.ram.width (omega arith)

pub put_outside : (m : Held) (v : ℕ → Bool) (net : ℕ) (values zeros : List Bool) → length m.bits ≡ m.ram.words * m.ram.width → m.ram.words ≤ address m.ram v
    → zeros ≡ replicate (length (take (net + m.ram.width - net) (drop net values))) false → net + m.ram.width ≤ length values
    → take net values ++ (zeros ++ drop (net + m.ram.width - net) (drop net values)) ≡ (take net values ++ read_bits m.ram m.bits v) ++ drop (net + m.ram.width) values
put_outside m v net values zeros size past are within =
    let width : net + m.ram.width - net ≡ m.ram.width = omega arith in
    let behind : drop (net + m.ram.width - net) (drop net values) ≡ drop (net + m.ram.width) values = ap (λ n. drop n (drop net values)) width ∙ drop-drop m.ram.width net values in
    let word : zeros ≡ read_bits m.ram m.bits v = are ∙ read_outside m v (length (take (net + m.ram.width - net) (drop net values))) size past (part_size values net m.ram.width (net + m.ram.width - net) width within) in
    ap₂ (λ z rest. take net values ++ (z ++ rest)) word behind ∙ sym (append_assoc (take net values) (read_bits m.ram m.bits v) (drop (net + m.ram.width) values))

pub words_few : (words width : ℕ) → 1 ≤ width → words * width ≤ 65536 → words ≤ 65536
words_few words width some few = let p = mul-le words 1 words width (omega arith) some in omega arith

-- one more bit of an index, from the highest on
one_more : (b : Bool) (bits : List Bool) → 2 * number bits + bool_byte b ≡ number (b ∷ bits)
one_more true bits = omega arith
one_more false bits = omega arith

pub index_more : (v : ℕ → Bool) (nets : List ℕ) (k n b : ℕ) → 0 < k → k ≤ length nets → n ≡ number (map v (drop k nets)) → b ≡ bool_byte (v (get_or nets (k - 1) 0)) → 2 * n + b ≡ number (map v (drop (k - 1) nets))
index_more v nets k n b some within is bit =
    let same : k - 1 + 1 ≡ k = omega arith in
    ap (λ m. 2 * m + b) (is ∙ sym (ap (λ j. number (map v (drop j nets))) same))
    ∙ ap (λ m. 2 * number (map v (drop (k - 1 + 1) nets)) + m) bit
    ∙ one_more (v (get_or nets (k - 1) 0)) (map v (drop (k - 1 + 1) nets))
    ∙ sym (ap (λ l. number (map v l)) (drop_more nets (k - 1) 0 (omega arith)))
