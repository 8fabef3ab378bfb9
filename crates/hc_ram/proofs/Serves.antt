-- The bits of the one use that is on.
use Rattle.std.proofs.Common.{◌≡◌, ◌<◌, ℕ, zero, suc, ◌+◌, List, [], ◌∷◌, ◌++◌, length, map, drop, get_or, Bool, true, false, ◌&&◌, ◌||◌, Option, Some, None, refl, ap, sym, ◌∙◌, arith}
use Rattle.std.specs.Prelude.{All}
use Rattle.std.specs.List.{range_with_len}
use Rattle.std.proofs.lemmas.List.{take_at, drop_at, drop-drop, get_or_at}
use Rattle.std.proofs.lemmas.List.Elements.{All-tail, All-from_get_or}
use Rattle.std.proofs.lemmas.List.FromFn.{get_or-map-range_with_len}
use Rattle.hc_net.specs.Circuit.{constant_at, node_at}
use Rattle.hc_net.specs.declared.node.Node.{Node}
use Rattle.hc_net.specs.declared.ram.RamWires.{RamWires}
use Rattle.hc_bits.proofs.EachBit.{bits_of, map_same}
use Rattle.hc_ram.specs.Enabled.{AreLists, any_enabled}
use Rattle.hc_ram.specs.Ports.{IsOnly, ServesOne}
use Rattle.hc_ram.specs.Sources.{may_write, kept, writing, write_words, as_pins}
use Rattle.hc_ram.proofs.Writing.{All-writing, words_length}

-- ---- no use is on

pub none_enabled : (v : ℕ → Bool) (es : List ℕ) (xs : List (List ℕ)) (c : ℕ) → All (λ e. v e ≡ false) es → any_enabled v es xs c ≡ false
none_enabled v [] xs c off = refl
none_enabled v (e ∷ es) [] c off = refl
none_enabled v (e ∷ es) (x ∷ xs) c off =
    let first : v e ≡ false = off 0 e (omega arith) in
    ap (λ b. (b && v (get_or x c 0)) || any_enabled v es xs c) first ∙ none_enabled v es xs c (All-tail (λ k. v k ≡ false) e es off)

-- ---- one use is on

is_off : (b : Bool) → (b ≡ true → ⊥) → b ≡ false
is_off true never = absurd (never refl)
is_off false never = refl

or_false : (b : Bool) → (b || false) ≡ b
or_false true = refl
or_false false = refl

others_off : (v : ℕ → Bool) (e : ℕ) (es : List ℕ) → IsOnly v (e ∷ es) 0 → All (λ k. v k ≡ false) es
others_off v e es one =
    All-from_get_or (λ k. v k ≡ false) es 0 (λ i within. is_off (v (get_or es i 0)) (λ is. let same = one.only (suc i) (omega (arith, within)) is in omega (arith, same)))

first_off : (v : ℕ → Bool) (e : ℕ) (es : List ℕ) (i : ℕ) → IsOnly v (e ∷ es) (suc i) → v e ≡ false
first_off v e es i one = is_off (v e) (λ is. let same = one.only 0 (omega arith) is in omega (arith, same))

behind : (v : ℕ → Bool) (e : ℕ) (es : List ℕ) (i : ℕ) → IsOnly v (e ∷ es) (suc i) → IsOnly v es i
behind v e es i one = record {
  within = let within = one.within in omega arith;
  holds = one.holds;
  only = λ j within is. let same = one.only (suc j) (omega (arith, within)) is in omega (arith, same);
}

on_kept : (v : ℕ → Bool) (may : Bool) (e : ℕ) (x es : List ℕ) (xs : List (List ℕ)) (c : ℕ) → v e ≡ true → any_enabled v es xs c ≡ false
    → any_enabled v (kept may e es) (kept may x xs) c ≡ (may && v (get_or x c 0))
on_kept v true e x es xs c on off =
    let bit = v (get_or x c 0) in
    ap (λ b. (b && bit) || any_enabled v es xs c) on ∙ ap (λ b. bit || b) off ∙ or_false bit
on_kept v false e x es xs c on off = off

off_kept : (v : ℕ → Bool) (may : Bool) (e : ℕ) (x es : List ℕ) (xs : List (List ℕ)) (c : ℕ) → v e ≡ false
    → any_enabled v (kept may e es) (kept may x xs) c ≡ any_enabled v es xs c
off_kept v true e x es xs c off = ap (λ b. (b && v (get_or x c 0)) || any_enabled v es xs c) off
off_kept v false e x es xs c off = refl

-- its bits, among all uses
one_enabled : (v : ℕ → Bool) (es : List ℕ) (xs : List (List ℕ)) (i c : ℕ) → length xs ≡ length es → IsOnly v es i → any_enabled v es xs c ≡ v (get_or (get_or xs i []) c 0)
one_enabled v [] xs i c same one = absurd (let within = one.within in omega arith)
one_enabled v (e ∷ es) [] i c same one = absurd (omega (arith, same))
one_enabled v (e ∷ es) (x ∷ xs) zero c same one = on_kept v true e x es xs c one.holds (none_enabled v es xs c (others_off v e es one))
one_enabled v (e ∷ es) (x ∷ xs) (suc i) c same one = off_kept v true e x es xs c (first_off v e es i one) ∙ one_enabled v es xs i c (omega (arith, same)) (behind v e es i one)

-- and among those that may write
one_writing : (v : ℕ → Bool) (nodes : List Node) (ks es : List ℕ) (xs : List (List ℕ)) (i c : ℕ) → length ks ≡ length es → length xs ≡ length es → IsOnly v es i
    → any_enabled v (writing nodes ks es) (writing nodes ks xs) c ≡ (may_write (constant_at (node_at nodes (get_or ks i 0))) && v (get_or (get_or xs i []) c 0))
one_writing v nodes ks [] xs i c same also one = absurd (let within = one.within in omega arith)
one_writing v nodes [] (e ∷ es) xs i c same also one = absurd (omega (arith, same))
one_writing v nodes (k ∷ ks) (e ∷ es) [] i c same also one = absurd (omega (arith, also))
one_writing v nodes (k ∷ ks) (e ∷ es) (x ∷ xs) zero c same also one =
    let off = All-writing (λ n. v n ≡ false) nodes ks es (others_off v e es one) in
    on_kept v (may_write (constant_at (node_at nodes k))) e x (writing nodes ks es) (writing nodes ks xs) c one.holds (none_enabled v (writing nodes ks es) (writing nodes ks xs) c off)
one_writing v nodes (k ∷ ks) (e ∷ es) (x ∷ xs) (suc i) c same also one =
    off_kept v (may_write (constant_at (node_at nodes k))) e x (writing nodes ks es) (writing nodes ks xs) c (first_off v e es i one)
    ∙ one_writing v nodes ks es xs i c (omega (arith, same)) (omega (arith, also)) (behind v e es i one)

words_at : (ks : List ℕ) (xs : List (List ℕ)) (i : ℕ) → length xs ≡ length ks → i < length ks → get_or (write_words ks xs) i [] ≡ get_or ks i 0 ∷ get_or xs i []
words_at [] xs i same within = absurd (omega (arith, within))
words_at (k ∷ ks) [] i same within = absurd (omega (arith, same))
words_at (k ∷ ks) (x ∷ xs) zero same within = refl
words_at (k ∷ ks) (x ∷ xs) (suc i) same within = words_at ks xs i (omega (arith, same)) (omega (arith, within))

-- ---- its nets

-- nets that have the bits of a value, bit by bit
row_bits : (v f : ℕ → Bool) (bits : List Bool) (n : ℕ) (value : List ℕ) → bits ≡ map f (range_with_len 0 n) → length value ≡ n → ((c : ℕ) → f c ≡ v (get_or value c 0))
    → bits ≡ map v value
row_bits v f bits n value is width same =
    is ∙ map_same f (λ c. v (get_or value c 0)) same (range_with_len 0 n)
    ∙ ap (λ m. map (λ c. v (get_or value c 0)) (range_with_len 0 m)) (sym width) ∙ sym (bits_of v value)

first_bit : (v f : ℕ → Bool) (k n : ℕ) (ds : List ℕ) → map v (k ∷ ds) ≡ map f (range_with_len 0 (n + 1)) → v k ≡ f 0
first_bit v f k n ds is = ap (λ l. get_or l 0 true) is ∙ get_or-map-range_with_len f 0 (n + 1) 0 0 true (omega arith) (omega arith)

-- the write net and the data, by whether the use may write
record ServesWord (v : ℕ → Bool) (k x : ℕ) (ds value : List ℕ) : Type 0 where
  write : v k ≡ v x
  written : v x ≡ true → map v ds ≡ map v value

word_serves : (v f : ℕ → Bool) (c : Option Bool) (k x n : ℕ) (ds value : List ℕ) → (c ≡ Some false → v x ≡ false) → length value ≡ n
    → map v (k ∷ ds) ≡ map f (range_with_len 0 (n + 1)) → ((j : ℕ) → f j ≡ (may_write c && v (get_or (x ∷ value) j 0))) → ServesWord v k x ds value
word_serves v f None k x n ds value off width is each =
    let same : map v (k ∷ ds) ≡ map v (x ∷ value) = row_bits v f (map v (k ∷ ds)) (n + 1) (x ∷ value) is (omega (arith, width)) each in
    record { write = ap (λ l. get_or l 0 true) same; written = λ on. ap (λ l. drop 1 l) same }
word_serves v f (Some true) k x n ds value off width is each =
    let same : map v (k ∷ ds) ≡ map v (x ∷ value) = row_bits v f (map v (k ∷ ds)) (n + 1) (x ∷ value) is (omega (arith, width)) each in
    record { write = ap (λ l. get_or l 0 true) same; written = λ on. ap (λ l. drop 1 l) same }
word_serves v f (Some false) k x n ds value off width is each =
    let never : v x ≡ false = off refl in
    record { write = first_bit v f k n ds is ∙ each 0 ∙ sym never; written = λ on. absurd (cc) }

-- ---- as pins

pub serves_as : (v : ℕ → Bool) (ram other : RamWires) (enables : List ℕ) (indexes : List (List ℕ)) (writes : List ℕ) (values : List (List ℕ))
    → map v ram.addr ≡ map v other.addr → v ram.we ≡ v other.we → map v ram.d ≡ map v other.d
    → ServesOne v other enables indexes writes values → ServesOne v ram enables indexes writes values
serves_as v ram other enables indexes writes values addr we d serves = record {
  idle = λ off. we ∙ serves.idle off;
  index = λ i one. addr ∙ serves.index i one;
  write = λ i one. we ∙ serves.write i one;
  value = λ i one on. d ∙ serves.value i one on;
}

pins_serve : (v : ℕ → Bool) (nodes : List Node) (n a w k : ℕ) (enables writes address ds : List ℕ) (indexes values : List (List ℕ))
    → ((j : ℕ) → constant_at (node_at nodes j) ≡ Some false → v j ≡ false)
    → length indexes ≡ length enables → length writes ≡ length enables → length values ≡ length enables
    → AreLists n a indexes → AreLists n w values
    → map v address ≡ map (any_enabled v enables indexes) (range_with_len 0 a)
    → map v (k ∷ ds) ≡ map (any_enabled v (writing nodes writes enables) (writing nodes writes (write_words writes values))) (range_with_len 0 (w + 1))
    → ServesOne v (record { q = []; addr = address; we = k; d = ds }) enables indexes writes values
pins_serve v nodes n a w k enables writes address ds indexes values constant of_index of_write of_value index_lists value_lists address_is word_is =
    let ons = writing nodes writes enables in
    let words = writing nodes writes (write_words writes values) in
    let word : (i : ℕ) → IsOnly v enables i → ServesWord v k (get_or writes i 0) ds (get_or values i []) = λ i one.
    let within : i < length enables = one.within in
    word_serves v (any_enabled v ons words) (constant_at (node_at nodes (get_or writes i 0))) k (get_or writes i 0) w ds (get_or values i [])
    (constant (get_or writes i 0)) ((value_lists i [] (omega arith)).width) word_is
    (λ c. one_writing v nodes writes enables (write_words writes values) i c of_write (words_length writes values (omega arith) ∙ of_write) one
    ∙ ap (λ x. may_write (constant_at (node_at nodes (get_or writes i 0))) && v (get_or x c 0)) (words_at writes values i (omega arith) (omega arith))) in
    record {
      idle = λ off.
          first_bit v (any_enabled v ons words) k w ds word_is
          ∙ none_enabled v ons words 0 (All-writing (λ e. v e ≡ false) nodes writes enables (All-from_get_or (λ e. v e ≡ false) enables 0 off));
      index = λ i one.
          let within : i < length enables = one.within in
          row_bits v (any_enabled v enables indexes) (map v address) a (get_or indexes i []) address_is ((index_lists i [] (omega arith)).width)
          (λ c. one_enabled v enables indexes i c of_index one);
      write = λ i one. (word i one).write;
      value = λ i one on. (word i one).written on;
    }

-- the sources in a row
pub row_serves : (v : ℕ → Bool) (nodes : List Node) (n a w : ℕ) (enables writes address word : List ℕ) (indexes values : List (List ℕ))
    → ((j : ℕ) → constant_at (node_at nodes j) ≡ Some false → v j ≡ false)
    → length indexes ≡ length enables → length writes ≡ length enables → length values ≡ length enables
    → AreLists n a indexes → AreLists n w values → length address ≡ a → length word ≡ w + 1
    → map v address ≡ map (any_enabled v enables indexes) (range_with_len 0 a)
    → map v word ≡ map (any_enabled v (writing nodes writes enables) (writing nodes writes (write_words writes values))) (range_with_len 0 (w + 1))
    → ServesOne v (as_pins a (address ++ word)) enables indexes writes values
row_serves v nodes n a w enables writes address [] indexes values constant of_index of_write of_value index_lists value_lists width size address_is word_is = absurd (omega (arith, size))
row_serves v nodes n a w enables writes address (k ∷ ds) indexes values constant of_index of_write of_value index_lists value_lists width size address_is word_is =
    let sources = address ++ k ∷ ds in
    serves_as v (as_pins a sources) (record { q = []; addr = address; we = k; d = ds }) enables indexes writes values
    (ap (λ (l : List ℕ). map v l) (take_at address (k ∷ ds) a width))
    (ap v (get_or_at address k ds 0 a width))
    (ap (λ (l : List ℕ). map v l) (sym (drop-drop 1 a sources) ∙ ap (λ (l : List ℕ). drop 1 l) (drop_at address (k ∷ ds) a width)))
    (pins_serve v nodes n a w k enables writes address ds indexes values constant of_index of_write of_value index_lists value_lists address_is word_is)
