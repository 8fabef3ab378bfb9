-- The nets that tell which labels a selector's number is among.
use Rattle.std.proofs.Common.{◌≡◌, ◌<◌, ◌≤◌, ℕ, zero, suc, ◌+◌, ◌-◌, ◌*◌, ◌/◌, ◌%◌, ◌^◌, List, [], ◌∷◌, ◌++◌, length, map, drop, get_or, Bool, true, false, ◌==◌, ◌&&◌, ◌||◌, refl, ap, sym, ◌∙◌, subst, inl, inr, arith, add-one, append_assoc, if◌then◌else◌}
use Rattle.std.specs.Prelude.{All}
use Rattle.std.specs.List.{range_with_len}
use Rattle.std.proofs.Math.Nat.{mod-eq_of_lt, div-one, mod-one}
use Rattle.std.proofs.lemmas.Nat.{mod-pow-add, shr-shr, mod_below}
use Rattle.std.proofs.lemmas.Bool.{eq-eqb, ne_eqb}
use Rattle.std.proofs.lemmas.Bool.Decides.{eqb_tells}
use Rattle.std.proofs.lemmas.List.{append-nil, drop_more, drop_all, map_push}
use Rattle.std.proofs.lemmas.List.Elements.{All-nil}
use Rattle.hc_num.specs.Number.{Number}
use Rattle.hc_core.specs.declared.stmt.Arm.{Arm}
use Rattle.hc_core.specs.Program.{Arms, no_arm, arm}
use Rattle.hc_core.specs.Read.{statement as read, arms as read_arms}
use Rattle.hc_core.proofs.Read as reading
use Rattle.hc_core.specs.Typed.{IsNumber}
use Rattle.hc_net.specs.Bits.{bit, number}
use Rattle.hc_net.specs.Circuit.{Circuit}
use Rattle.hc_net.specs.Made.{Over, argument, Makes}
use Rattle.hc_net.specs.MadeLemmas.{Over-self, Adds-room, Makes-none, Makes-then, Makes-last, Makes-holds}
use Rattle.hc_token.specs.Circuits.{every}
use Rattle.hc_token.proofs.Parts.{All-one, Over-at, Over-right, Makes-over, bits_more}
use Rattle.hc_bits.proofs.EachBit.{bits_of}
use Rattle.hc_control.proofs.Choosing.{or_assoc}
use Rattle.hc_control.proofs.Steps.{or_false}
use Rattle.hc_control.specs.Selecting.{same_bit, is_among, among_each, label_count, AreLabels}

-- ---- one number

of_test : (m : ℕ) → m < 2 → (if m == 1 then 1 else 0) ≡ m
of_test zero h = refl
of_test (suc zero) h = refl
of_test (suc (suc m)) h = absurd (omega arith)

one_bit : (n i : ℕ) → (if bit n i then 1 else 0) ≡ (n / 2 ^ i) % 2
one_bit n i = of_test ((n / 2 ^ i) % 2) (mod_below (n / 2 ^ i) 2 (omega arith))

halves : (m k : ℕ) → m % 2 ^ suc k ≡ m % 2 + 2 * (m / 2 % 2 ^ k)
halves m k =
    let e = mod-pow-add m k 1 in
    let one : k + 1 ≡ suc k = add-one k in
    rw one at e ∙ (let f : (m / 2 % 2 ^ k) * 2 + m % 2 ≡ m % 2 + 2 * (m / 2 % 2 ^ k) = omega arith in f)

-- so many bits of a number make it up
number_bits : (n i w : ℕ) → number (map (bit n) (range_with_len i w)) ≡ (n / 2 ^ i) % 2 ^ w
number_bits n i zero = sym (mod-one (n / 2 ^ i))
number_bits n i (suc w) =
    let first = one_bit n i in
    let rest = number_bits n (i + 1) w in
    let down : n / 2 ^ (i + 1) ≡ n / 2 ^ i / 2 = sym (shr-shr n i 1) in
    ap (λ r. (if bit n i then 1 else 0) + 2 * r) (rest ∙ ap (λ m. m % 2 ^ w) down)
    ∙ ap (λ f. f + 2 * (n / 2 ^ i / 2 % 2 ^ w)) first
    ∙ sym (halves (n / 2 ^ i) w)

-- two numbers are equal where their lowest bits are and what stands above
same_low : (x b : Bool) (m n : ℕ) → (same_bit x b && (m == n)) ≡ ((if x then 1 else 0) + 2 * m == (if b then 1 else 0) + 2 * n)
same_low true true m n = elim (eqb_tells m n) [
  | inl is ↦ is.0 ∙ sym (eq-eqb (1 + 2 * m) (1 + 2 * n) (ap (λ k. 1 + 2 * k) is.1))
  | inr is ↦ is.0 ∙ sym (ne_eqb (1 + 2 * m) (1 + 2 * n) (λ e. is.1 (omega (arith, e))))
]
same_low true false m n = sym (ne_eqb (1 + 2 * m) (0 + 2 * n) (λ e. omega (arith, e)))
same_low false true m n = sym (ne_eqb (0 + 2 * m) (1 + 2 * n) (λ e. omega (arith, e)))
same_low false false m n = elim (eqb_tells m n) [
  | inl is ↦ is.0 ∙ sym (eq-eqb (0 + 2 * m) (0 + 2 * n) (ap (λ k. 0 + 2 * k) is.1))
  | inr is ↦ is.0 ∙ sym (ne_eqb (0 + 2 * m) (0 + 2 * n) (λ e. is.1 (omega (arith, e))))
]

-- and so where all their bits are
same_bits : (p q : ℕ → Bool) (a w : ℕ) → every (map (λ i. same_bit (p i) (q i)) (range_with_len a w)) ≡ (number (map p (range_with_len a w)) == number (map q (range_with_len a w)))
same_bits p q a zero = refl
same_bits p q a (suc w) =
    ap (λ c. same_bit (p a) (q a) && c) (same_bits p q (a + 1) w)
    ∙ same_low (p a) (q a) (number (map p (range_with_len (a + 1) w))) (number (map q (range_with_len (a + 1) w)))

-- the bits of nets are those of a number
pub bits_are : (v : ℕ → Bool) (xs : List ℕ) (n : ℕ) → n < 2 ^ length xs
    → every (map (λ i. same_bit (v (get_or xs i 0)) (bit n i)) (range_with_len 0 (length xs))) ≡ (number (map v xs) == n)
bits_are v xs n fits =
    same_bits (λ i. v (get_or xs i 0)) (bit n) 0 (length xs)
    ∙ ap (λ l. number l == number (map (bit n) (range_with_len 0 (length xs)))) (sym (bits_of v xs))
    ∙ ap (λ k. number (map v xs) == k) (number_bits n 0 (length xs) ∙ ap (λ m. m % 2 ^ length xs) (div-one n) ∙ mod-eq_of_lt fits)

-- one bit more
pub same_more : (xs xs' bits more : List ℕ) (n i net : ℕ) (b : Bool) (old mid new : Circuit) → i < length xs → xs' ≡ xs → more ≡ bits ++ net ∷ [] → b ≡ bit n i
    → Makes i xs old mid bits (λ v. map v bits ≡ map (λ k. same_bit (v (get_or xs k 0)) (bit n k)) (range_with_len 0 i))
    → Makes 1 (get_or xs' i 0 ∷ []) mid new (net ∷ []) (λ v. v net ≡ same_bit (v (get_or xs' i 0)) b)
    → Makes (i + 1) xs old new more (λ v. map v more ≡ map (λ k. same_bit (v (get_or xs k 0)) (bit n k)) (range_with_len 0 (i + 1)))
same_more xs xs' bits more n i net b old mid new within same pushed is made one =
    subst (λ (z : List ℕ). Makes (i + 1) xs old new z (λ v. map v z ≡ map (λ k. same_bit (v (get_or xs k 0)) (bit n k)) (range_with_len 0 (i + 1)))) (sym pushed)
    (bits_more (λ v k. same_bit (v (get_or xs k 0)) (bit n k)) i (i + 1) made
    (subst (λ (c : Bool). Makes 1 (get_or xs i 0 ∷ []) mid new (net ∷ []) (λ v. v net ≡ same_bit (v (get_or xs i 0)) c)) is
    (subst (λ (l : List ℕ). Makes 1 (get_or l i 0 ∷ []) mid new (net ∷ []) (λ v. v net ≡ same_bit (v (get_or l i 0)) b)) same one))
    (All-one (Over mid.nodes xs) (get_or xs i 0) (Over-at xs i within))
    (omega arith))

pub same_all : (xs bits : List ℕ) (n i z : ℕ) (old mid new : Circuit) → i ≡ length xs → length bits ≡ i → 1 ≤ length xs → n < 2 ^ length xs
    → Makes i xs old mid bits (λ v. map v bits ≡ map (λ k. same_bit (v (get_or xs k 0)) (bit n k)) (range_with_len 0 i))
    → Makes (length bits - 1) bits mid new (z ∷ []) (λ v. v z ≡ every (map v bits))
    → Makes (2 * length xs) xs old new (z ∷ []) (λ v. v z ≡ (number (map v xs) == n))
same_all xs bits n i z old mid new whole size some fits made joined =
    Makes-holds (Makes-last made joined made.reach) (omega (arith, whole, size, some))
    (λ v both. both.1 ∙ ap every both.0 ∙ ap (λ w. every (map (λ k. same_bit (v (get_or xs k 0)) (bit n k)) (range_with_len 0 w))) whole ∙ bits_are v xs n fits)

-- ---- one of several numbers

-- a net for the numbers before some of a list
pub record Found (base : ℕ) (xs : List ℕ) (all : List Number) (i : ℕ) (old new : Circuit) (net : ℕ) : Type 0 where
  pub made : Makes ((2 * length xs + 1) * i) (base ∷ xs) old new (net ∷ [])
      (λ v. v base ≡ false → (v net || is_among (number (map v xs)) (drop i all)) ≡ is_among (number (map v xs)) all)

pub found_none : (base : ℕ) (xs : List ℕ) (all : List Number) (c : Circuit) → base < length c.nodes → Found base xs all 0 c c base
found_none base xs all c there = record {
  made = Makes-holds (Makes-none c (base ∷ xs) (base ∷ []) (All-one (λ k. k < length c.nodes) base there) (All-one (Over c.nodes (base ∷ xs)) base (argument base 0 (omega arith) refl)))
      (omega arith) (λ v none low. ap (λ x. x || is_among (number (map v xs)) all) low);
}

eq_sym : (m n : ℕ) → (m == n) ≡ (n == m)
eq_sym m n = elim (eqb_tells m n) [
  | inl is ↦ is.0 ∙ sym (eq-eqb n m (sym is.1))
  | inr is ↦ is.0 ∙ sym (ne_eqb n m (λ e. is.1 (sym e)))
]

one_more : (w i : ℕ) → w * i + w ≡ w * (i + 1)
one_more w i = omega arith

sums : (w a b : ℕ) → w * a + w * b ≡ w * (a + b)
sums w a b = omega arith

pub found_more : (base : ℕ) (xs : List ℕ) (all vs : List Number) (i net one z : ℕ) (n : Number) (old mid next new : Circuit) → vs ≡ all → i < length all → n ≡ get_or vs i n
    → Found base xs all i old mid net
    → Makes (2 * length xs) xs mid next (one ∷ []) (λ v. v one ≡ (number (map v xs) == n.bits))
    → Makes 1 (net ∷ one ∷ []) next new (z ∷ []) (λ v. v z ≡ (v net || v one))
    → Found base xs all (i + 1) old new z
found_more base xs all vs i net one z n old mid next new same within at found tested joined =
    let m : Number = get_or all i n in
    let is : n ≡ m = at ∙ ap (λ l. get_or l i n) same in
    let both = Makes-then found.made (Makes-over tested (Over-right (base ∷ []) xs)) (Over-self (base ∷ xs)) in
    let here : drop i all ≡ m ∷ drop (i + 1) all = drop_more all i n within in
    record {
      made = Makes-holds (Makes-last both joined both.reach) (let e = one_more (2 * length xs + 1) i in omega arith)
          (λ v holds low.
          ap (λ x. x || is_among (number (map v xs)) (drop (i + 1) all)) (holds.1 ∙ ap (λ x. v net || x) (holds.0.1 ∙ ap (λ (k : Number). number (map v xs) == k.bits) is ∙ eq_sym (number (map v xs)) m.bits))
          ∙ or_assoc (v net) (m.bits == number (map v xs)) (is_among (number (map v xs)) (drop (i + 1) all))
          ∙ ap (λ l. v net || is_among (number (map v xs)) l) (sym here)
          ∙ holds.0.0 low);
    }

-- one of the nets themselves in place of a gate
pub no_gate : (args : List ℕ) (i : ℕ) (c : Circuit) (so : (ℕ → Bool) → Type 0) → i < length args → get_or args i 0 < length c.nodes → ((v : ℕ → Bool) → so v)
    → Makes 1 args c c (get_or args i 0 ∷ []) so
no_gate args i c so within there follows =
    Makes-holds (Makes-none c args (get_or args i 0 ∷ []) (All-one (λ k. k < length c.nodes) (get_or args i 0) there) (All-one (Over c.nodes args) (get_or args i 0) (Over-at args i within)))
    (omega arith) (λ v none. follows v)

pub found_all : (base : ℕ) (xs : List ℕ) (all : List Number) (i net : ℕ) (old new : Circuit) → length all ≤ i → i ≤ length all → Found base xs all i old new net
    → Makes ((2 * length xs + 1) * length all) (base ∷ xs) old new (net ∷ []) (λ v. v base ≡ false → v net ≡ is_among (number (map v xs)) all)
found_all base xs all i net old new most least found =
    let same : i ≡ length all = omega arith in
    subst (λ (k : ℕ). Makes ((2 * length xs + 1) * k) (base ∷ xs) old new (net ∷ []) (λ v. v base ≡ false → v net ≡ is_among (number (map v xs)) all)) same
    (Makes-holds found.made (omega arith)
    (λ v holds low.
    sym (or_false (v net)) ∙ ap (λ l. v net || is_among (number (map v xs)) l) (sym (drop_all i all most)) ∙ holds low))

-- ---- each arm

-- nets for the arms before these
pub record Labelled (base : ℕ) (xs : List ℕ) (all rest : Arms) (old new : Circuit) (nets : List ℕ) : Type 0 where
  pub many : ℕ
  pub made : Makes ((2 * length xs + 1) * many) (base ∷ xs) old new nets
      (λ v. v base ≡ false → map v nets ++ among_each (number (map v xs)) rest ≡ among_each (number (map v xs)) all)
  pub count : many + label_count rest ≡ label_count all
  pub labels : AreLabels (length xs) rest

pub labelled_none : (base : ℕ) (xs : List ℕ) (all : Arms) (c : Circuit) → AreLabels (length xs) all → Labelled base xs all all c c []
labelled_none base xs all c labels = record {
  many = 0;
  made = Makes-holds (Makes-none c (base ∷ xs) [] (All-nil (λ k. k < length c.nodes)) (All-nil (Over c.nodes (base ∷ xs)))) (omega arith) (λ v none low. refl);
  count = omega arith;
  labels = labels;
}

pub labelled_more : (base : ℕ) (xs : List ℕ) (all rest behind : Arms) (values : List Number) (other : Bool) (body : _) (net : ℕ) (nets more : List ℕ) (old mid new : Circuit)
    → rest ≡ arm values other body behind → more ≡ nets ++ net ∷ []
    → Labelled base xs all rest old mid nets
    → Makes ((2 * length xs + 1) * length values) (base ∷ xs) mid new (net ∷ []) (λ v. v base ≡ false → v net ≡ is_among (number (map v xs)) values)
    → Labelled base xs all behind old new more
labelled_more base xs all rest behind values other body net nets more old mid new form pushed done one =
    let here = subst (λ (r : Arms). Labelled base xs all r old mid nets) form done in
    record {
      many = here.many + length values;
      made = subst (λ (z : List ℕ). Makes ((2 * length xs + 1) * (here.many + length values)) (base ∷ xs) old new z
          (λ v. v base ≡ false → map v z ++ among_each (number (map v xs)) behind ≡ among_each (number (map v xs)) all)) (sym pushed)
          (Makes-holds (Makes-then here.made one (Over-self (base ∷ xs))) (let e = sums (2 * length xs + 1) here.many (length values) in omega arith)
          (λ v both low.
          ap (λ l. l ++ among_each (number (map v xs)) behind) (map_push v nets net)
          ∙ append_assoc (map v nets) (v net ∷ []) (among_each (number (map v xs)) behind)
          ∙ ap (λ b. map v nets ++ b ∷ among_each (number (map v xs)) behind) (both.1 low)
          ∙ both.0 low));
      count = let count = here.count in omega arith;
      labels = here.labels.1;
    }

-- the labels of the next arm, and room for its net
pub next_labels : (base : ℕ) (xs : List ℕ) (all rest behind : Arms) (values : List Number) (other : Bool) (body : _) (nets : List ℕ) (old mid : Circuit)
    → rest ≡ arm values other body behind → Labelled base xs all rest old mid nets → All (λ n. IsNumber n × (n.width ≡ length xs)) values
next_labels base xs all rest behind values other body nets old mid form done =
    (subst (λ (r : Arms). Labelled base xs all r old mid nets) form done).labels.0

pub next_room : (base most : ℕ) (xs : List ℕ) (all rest behind : Arms) (values : List Number) (other : Bool) (body : _) (nets : List ℕ) (old mid : Circuit)
    → rest ≡ arm values other body behind → Labelled base xs all rest old mid nets → length old.nodes + (2 * length xs + 1) * label_count all < most
    → length mid.nodes + (2 * length xs + 1) * length values < most
next_room base most xs all rest behind values other body nets old mid form done room =
    let here = subst (λ (r : Arms). Labelled base xs all r old mid nets) form done in
    let grown = Adds-room here.made.adds in
    let sum : (2 * length xs + 1) * here.many + (2 * length xs + 1) * (length values + label_count behind) ≡ (2 * length xs + 1) * label_count all =
    sums (2 * length xs + 1) here.many (length values + label_count behind) ∙ ap (λ k. (2 * length xs + 1) * k) here.count in
    let part = part_of (2 * length xs + 1) (length values) (label_count behind) in
    omega arith
  where
    part_of : (w a b : ℕ) → w * a ≤ w * (a + b)
    part_of w a b = omega (arith, sums w a b)

pub labelled_all : (base : ℕ) (xs : List ℕ) (all rest : Arms) (nets : List ℕ) (old new : Circuit) → rest ≡ no_arm → Labelled base xs all rest old new nets
    → Makes ((2 * length xs + 1) * label_count all) (base ∷ xs) old new nets (λ v. v base ≡ false → map v nets ≡ among_each (number (map v xs)) all)
labelled_all base xs all rest nets old new form done =
    let here = subst (λ (r : Arms). Labelled base xs all r old new nets) form done in
    let count : here.many ≡ label_count all = let c = here.count in omega arith in
    subst (λ (k : ℕ). Makes ((2 * length xs + 1) * k) (base ∷ xs) old new nets (λ v. v base ≡ false → map v nets ≡ among_each (number (map v xs)) all)) count
    (Makes-holds here.made (omega arith) (λ v holds low. sym (append-nil (map v nets)) ∙ holds low))

-- ---- arms by their index

pub arms_at : (all : List Arm) (i : ℕ) (d : Arm) → i < length all
    → read_arms (drop i all) ≡ arm (get_or all i d).values (get_or all i d).other (read (get_or all i d).body) (read_arms (drop (i + 1) all))
arms_at all i d within = ap read_arms (drop_more all i d within) ∙ reading.read_arms (get_or all i d) (drop (i + 1) all)

pub arms_past : (all : List Arm) (i : ℕ) → length all ≤ i → read_arms (drop i all) ≡ no_arm
arms_past all i past = ap read_arms (drop_all i all past) ∙ reading.read_no_arm
