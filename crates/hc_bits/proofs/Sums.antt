-- Adders and their like: a row of gates, the carries, and the digits as one circuit.
use Rattle.std.proofs.Common.{◌≡◌, ℕ, ◌+◌, ◌-◌, ◌*◌, ◌%◌, ◌^◌, ◌<◌, ◌≤◌, Bool, false, List, [], ◌∷◌, ◌++◌, length, map, take, refl, ap, sym, subst, ◌∙◌, arith}
use Rattle.std.specs.Prelude.{All, ◌&&◌}
use Rattle.std.proofs.lemmas.List.{length-map, take-map, length-take}
use Rattle.std.proofs.lemmas.List.Elements.{All-nil, All-append, All-take}
use Rattle.hc_net.specs.Bits.{number}
use Rattle.hc_net.specs.Circuit.{Circuit}
use Rattle.hc_net.specs.Gate.{differ}
use Rattle.hc_net.specs.Made.{Over, Makes}
use Rattle.hc_net.specs.MadeLemmas.{Makes-none, Makes-then, Makes-last, Makes-holds, Over-left, Over-self}
use Rattle.hc_num.specs.Number.{Number}
use Rattle.hc_num.specs.Arithmetic.{sum, difference, negation}
use Rattle.hc_bits.specs.Held.{held}
use Rattle.hc_bits.specs.Carry.{each, carries, digits}
use Rattle.hc_bits.proofs.Carries.{turned, sum_carries, borrows, sum_digits, difference_digits, negation_digits, digits-small, negation-small, sum_is, difference_is, negation_is}
use Rattle.hc_bits.proofs.Parts.{Over-right, Makes-wider}

pub borrows_made : (old m1 m2 new : Circuit) (s y g p c : List ℕ) → length g ≡ length s
    → Makes (length s) (s ++ y) old m1 g (λ v. map v g ≡ each ◌&&◌ (map v s) (map v y))
    → Makes (length s) s m1 m2 p (λ v. (gs : List Bool) → carries false gs (map v p) ≡ carries false gs (turned (map v s)))
    → Makes (2 * length g) (g ++ p) m2 new c (λ v. map v c ≡ carries false (map v g) (map v p))
    → Makes (4 * length s) (s ++ y) old new c (λ v. map v c ≡ carries false (each ◌&&◌ (map v s) (map v y)) (turned (map v s)))
borrows_made old m1 m2 new s y g p c width a b d =
    let both = Makes-then a b (Over-left s y) in
    Makes-holds (Makes-last both d both.reach) (omega arith) (λ v h. h.1 ∙ ap (λ l. carries false l (map v p)) h.0.0 ∙ h.0.1 (each ◌&&◌ (map v s) (map v y)))

-- each place's own bit, the carries over nets of the first ones, and the digits
three_made : {a b d : ℕ} {args mid_args s c z : List ℕ} {old m1 m2 new : Circuit} {first second third : (ℕ → Bool) → Type 0}
    → Makes a args old m1 s first → Makes b mid_args m1 m2 c second → Makes d (s ++ c) m2 new z third → All (Over m1.nodes args) mid_args
    → Makes ((a + b) + d) args old new z (λ v. (first v × second v) × third v)
three_made p q r over = let both = Makes-then p q over in Makes-last both r both.reach

abbrev number_of : ℕ → Bool → ℕ → Number
number_of w signed n = record { width = w; signed = signed; bits = n }

-- the sum, where the digits are those of the carries
sum_held : (v : ℕ → Bool) (x y z : List ℕ) → length y ≡ length x → length z ≡ length x
    → map v z ≡ each differ (each differ (map v x) (map v y)) (false ∷ sum_carries false (map v x) (map v y))
    → (s : Bool) → held s v z ≡ sum (held s v x) (held s v y)
sum_held v x y z h w is s =
    let bits = sum_is (map v x) (map v y) (map v z) (length-map y v ∙ h ∙ sym (length-map x v)) (length-map z v ∙ w ∙ sym (length-map x v)) is in
    let at = bits ∙ ap (λ n. (number (map v x) + number (map v y)) % 2 ^ n) (length-map x v) in
    ap (λ n. number_of n s (number (map v z))) w ∙ ap (number_of (length x) s) at

difference_held : (v : ℕ → Bool) (x y z : List ℕ) → length y ≡ length x → length z ≡ length x
    → map v z ≡ each differ (each differ (map v x) (map v y)) (false ∷ borrows false (map v x) (map v y))
    → (s : Bool) → held s v z ≡ difference (held s v x) (held s v y)
difference_held v x y z h w is s =
    let bits = difference_is (map v x) (map v y) (map v z) (length-map y v ∙ h ∙ sym (length-map x v)) (length-map z v ∙ w ∙ sym (length-map x v)) is in
    let at = bits ∙ ap (λ n. (number (map v x) + (2 ^ n - number (map v y))) % 2 ^ n) (length-map x v) in
    ap (λ n. number_of n s (number (map v z))) w ∙ ap (number_of (length x) s) at

negation_held : (v : ℕ → Bool) (x z : List ℕ) → length z ≡ length x
    → map v z ≡ each differ (map v x) (false ∷ carries false (map v x) [])
    → (s : Bool) → held s v z ≡ negation (held s v x)
negation_held v x z w is s =
    let bits = negation_is (map v x) (map v z) (length-map z v ∙ w ∙ sym (length-map x v)) is in
    let at = bits ∙ ap (λ n. (2 ^ n - number (map v x)) % 2 ^ n) (length-map x v) in
    ap (λ n. number_of n s (number (map v z))) w ∙ ap (number_of (length x) s) at

-- ---- add

pub add_small : (old new : Circuit) (x y z : List ℕ) → length y ≡ length x → length z ≡ length x → length x ≤ 1
    → Makes (length x) (x ++ y) old new z (λ v. map v z ≡ each differ (map v x) (map v y))
    → Makes (8 * length x) (x ++ y) old new z (λ v. (s : Bool) → held s v z ≡ sum (held s v x) (held s v y))
add_small old new x y z h w small m =
    Makes-holds m (omega arith) (λ v is. sum_held v x y z h w
    (is ∙ digits-small (map v x) (map v y) (sum_carries false (map v x) (map v y)) (length-map y v ∙ h ∙ sym (length-map x v)) (omega (arith, length-map x v))))

pub add_made : (old m1 m2 new : Circuit) (x y s low c z : List ℕ) (n : ℕ) → length y ≡ length x → length x ≡ n + 1 → low ≡ take n x
    → length s ≡ length x → length c ≡ length low → length z ≡ length s
    → Makes (length x) (x ++ y) old m1 s (λ v. map v s ≡ each differ (map v x) (map v y))
    → Makes (6 * length low) (s ++ (low ++ y)) m1 m2 c (λ v. map v c ≡ carries false (each ◌&&◌ (map v low) (map v y)) (map v s))
    → Makes (length c) (s ++ c) m2 new z (λ v. map v z ≡ digits (map v s) (map v c))
    → Makes (8 * length x) (x ++ y) old new z (λ v. (s : Bool) → held s v z ≡ sum (held s v x) (held s v y))
add_made old m1 m2 new x y s low c z n h w low_is sw cw zw p q r =
    let args = x ++ y in
    let lw : length low ≤ length x = omega (arith, ap length low_is, length-take n x) in
    let low_over = subst (All (Over m1.nodes args)) (sym low_is) (All-take (Over m1.nodes args) n x (Over-left x y)) in
    let over = All-append (Over m1.nodes args) s (low ++ y) p.reach (All-append (Over m1.nodes args) low y low_over (Over-right x y)) in
    Makes-holds (three_made p q r over) (omega arith) (λ v e. sum_held v x y z h (zw ∙ sw)
    (sum_digits (map v x) (map v y) (map v s) (map v c) (map v z) n (length-map y v ∙ h ∙ sym (length-map x v)) (length-map x v ∙ w) e.0.0
    (e.0.1 ∙ ap (λ l. carries false (each ◌&&◌ l (map v y)) (map v s)) (ap (map v) low_is ∙ sym (take-map v n x))) e.1))

-- ---- sub

pub sub_small : (old new : Circuit) (x y z : List ℕ) → length y ≡ length x → length z ≡ length x → length x ≤ 1
    → Makes (length x) (x ++ y) old new z (λ v. map v z ≡ each differ (map v x) (map v y))
    → Makes (8 * length x) (x ++ y) old new z (λ v. (s : Bool) → held s v z ≡ difference (held s v x) (held s v y))
sub_small old new x y z h w small m =
    Makes-holds m (omega arith) (λ v is. difference_held v x y z h w
    (is ∙ digits-small (map v x) (map v y) (borrows false (map v x) (map v y)) (length-map y v ∙ h ∙ sym (length-map x v)) (omega (arith, length-map x v))))

pub sub_made : (old m1 m2 new : Circuit) (x y s low c z : List ℕ) (n : ℕ) → length y ≡ length x → length x ≡ n + 1 → low ≡ take n s
    → length s ≡ length x → length c ≡ length low → length z ≡ length s
    → Makes (length x) (x ++ y) old m1 s (λ v. map v s ≡ each differ (map v x) (map v y))
    → Makes (4 * length low) (low ++ y) m1 m2 c (λ v. map v c ≡ carries false (each ◌&&◌ (map v low) (map v y)) (turned (map v low)))
    → Makes (length c) (s ++ c) m2 new z (λ v. map v z ≡ digits (map v s) (map v c))
    → Makes (8 * length x) (x ++ y) old new z (λ v. (s : Bool) → held s v z ≡ difference (held s v x) (held s v y))
sub_made old m1 m2 new x y s low c z n h w low_is sw cw zw p q r =
    let args = x ++ y in
    let lw : length low ≤ length x = omega (arith, ap length low_is, length-take n s) in
    let low_over = subst (All (Over m1.nodes args)) (sym low_is) (All-take (Over m1.nodes args) n s p.reach) in
    let over = All-append (Over m1.nodes args) low y low_over (Over-right x y) in
    Makes-holds (three_made p q r over) (omega arith) (λ v e. difference_held v x y z h (zw ∙ sw)
    (difference_digits (map v x) (map v y) (map v s) (map v c) (map v z) n (length-map y v ∙ h ∙ sym (length-map x v)) (length-map x v ∙ w) e.0.0
    (e.0.1 ∙ ap (λ l. carries false (each ◌&&◌ l (map v y)) (turned l)) (ap (map v) low_is ∙ sym (take-map v n s))) e.1))

-- ---- negate

pub negate_small : (c : Circuit) (x z : List ℕ) → All (λ k. k < length c.nodes) x → z ≡ x → length x ≤ 1
    → Makes (8 * length x) x c c z (λ v. (s : Bool) → held s v z ≡ negation (held s v x))
negate_small c x z there is small =
    subst (λ (l : List ℕ). Makes (8 * length x) x c c l (λ v. (s : Bool) → held s v l ≡ negation (held s v x))) (sym is)
    (Makes-holds (Makes-none c x x there (Over-self x)) (omega arith)
    (λ v h. negation_held v x x refl (negation-small (map v x) (carries false (map v x) []) (omega (arith, length-map x v)))))

pub negate_made : (old mid new : Circuit) (x low c z : List ℕ) (n : ℕ) → length x ≡ n + 1 → low ≡ take n x → length c ≡ length low → length z ≡ length x
    → Makes (5 * length low) (low ++ []) old mid c (λ v. map v c ≡ carries false (map v low) [])
    → Makes (length c) (x ++ c) mid new z (λ v. map v z ≡ digits (map v x) (map v c))
    → Makes (8 * length x) x old new z (λ v. (s : Bool) → held s v z ≡ negation (held s v x))
negate_made old mid new x low c z n w low_is cw zw p q =
    let lw : length low ≤ length x = omega (arith, ap length low_is, length-take n x) in
    let low_over = subst (All (Over mid.nodes x)) (sym low_is) (All-take (Over mid.nodes x) n x (Over-self x)) in
    let wide = Makes-wider {wide = x} p (All-append (Over mid.nodes x) low [] low_over (All-nil (Over mid.nodes x))) in
    Makes-holds (Makes-last wide q (All-append (Over mid.nodes x) x c (Over-self x) wide.reach)) (omega arith) (λ v e. negation_held v x z zw
    (negation_digits (map v x) (map v c) (map v z) n (length-map x v ∙ w) (e.0 ∙ ap (λ l. carries false l []) (ap (map v) low_is ∙ sym (take-map v n x))) e.1))
