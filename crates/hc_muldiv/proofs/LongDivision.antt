-- The circuit of a long division, step by step.
use Rattle.std.proofs.Common.{◌≡◌, ◌<◌, ◌≤◌, ℕ, ◌+◌, ◌-◌, ◌*◌, ◌^◌, List, [], ◌∷◌, ◌++◌, length, drop, get_or, Bool, false, if◌then◌else◌, refl, ap, sym, ◌∙◌, subst, arith}
use Rattle.std.specs.Prelude.{All, replicate}
use Rattle.std.proofs.lemmas.List.{length-drop, length-replicate, length_push, drop_more, drop_all}
use Rattle.std.proofs.lemmas.List.Elements.{All-cons, All-head, All-tail, All-nil, All-append, All-replicate, All-same}
use Rattle.hc_num.specs.Arithmetic as num
use Rattle.hc_net.specs.Circuit.{Circuit, with_node}
use Rattle.hc_net.specs.Made.{Over, Makes}
use Rattle.hc_net.specs.MadeLemmas.{Makes-then, Makes-as, Makes-gate, Adds-room, Adds-there, Over-left}
use Rattle.hc_net.specs.declared.node.Node.TheVariants.{Gate}
use Rattle.hc_net.specs.declared.gate.GateKind.TheVariants as kind
use Rattle.hc_bits.specs.Held.{held}
use Rattle.hc_muldiv.specs.Division.{Steps, Divides, MakesStep, MakesDivision}
use Rattle.hc_muldiv.specs.Value.{value}
use Rattle.hc_muldiv.proofs.Circuits.{All-left, All-right, Over-right}
use Rattle.hc_muldiv.proofs.Held.{held_is}
use Rattle.hc_muldiv.proofs.Quotients.{Divides-none, Divides-more, near_divisor, quotient_is, remainder_is, step_gates, steps_room, division_gates}
use Rattle.hc_muldiv.proofs.Values.{at_most_one, value_fits, value_topped, value_zeros}

-- ---- numbers

-- the quotient and the rest of the highest i bits of x
abbrev DividesHighest : (i : ℕ) (x y quotient rest : List ℕ) → (ℕ → Bool) → Type 0
DividesHighest i x y quotient rest v = Divides i (value v (drop (length x - i) x)) (value v y) (value v quotient) (value v rest)

none_divided : (v : ℕ → Bool) (x y : List ℕ) (top : ℕ) → v top ≡ false → DividesHighest 0 x y [] (replicate (length x) top) v
none_divided v x y top is =
    let none : drop (length x - 0) x ≡ [] = drop_all (length x - 0) x (omega arith) in
    let d = value v y in
    subst (λ n. Divides 0 n d 0 (value v (replicate (length x) top))) (sym (ap (λ (l : List ℕ). value v l) none))
    (subst (λ n. Divides 0 0 d 0 n) (sym (value_zeros v (length x) top is)) (Divides-none d))

-- the bits of x from the next one on
next_bits : (x : List ℕ) (i net : ℕ) → i < length x → net ≡ get_or x (length x - 1 - i) 0 → drop (length x - (i + 1)) x ≡ net ∷ drop (length x - i) x
next_bits x i net within is =
    let k = length x - 1 - i in
    let at : length x - (i + 1) ≡ k = omega arith in
    let after : k + 1 ≡ length x - i = omega arith in
    ap (λ j. drop j x) at ∙ drop_more x k 0 (omega arith) ∙ ap (λ l. l ∷ drop (k + 1) x) (sym is) ∙ ap (λ j. net ∷ drop j x) after

one_more_divided : (v : ℕ → Bool) (x y quotient rest after : List ℕ) (top i net bit : ℕ) → length y ≡ length x → length rest ≡ length x → i < length x
    → net ≡ get_or x (length x - 1 - i) 0 → v top ≡ false → DividesHighest i x y quotient rest v
    → (value v (y ++ top ∷ []) < 2 ^ length rest → value v (net ∷ rest) < value v (y ++ top ∷ []) + 2 ^ length rest
    → Steps (value v (y ++ top ∷ [])) (value v (net ∷ rest)) (v bit) (value v after))
    → DividesHighest (i + 1) x y (bit ∷ quotient) after v
one_more_divided v x y quotient rest after top i net bit width rest_width within is clear divides step =
    let cut = drop (length x - i) x in
    let n = value v cut in
    let b : ℕ = if v net then 1 else 0 in
    let d : value v (y ++ top ∷ []) ≡ value v y = value_topped v y top clear in
    let fits : value v y < 2 ^ length x = subst (λ k. value v y < 2 ^ k) width (value_fits v y) in
    let cut_width : length cut ≡ i = length-drop (length x - i) x ∙ omega arith in
    let n_fits : n < 2 ^ i = subst (λ k. n < 2 ^ k) cut_width (value_fits v cut) in
    let one : b ≤ 1 = at_most_one (v net) in
    let near : b + 2 * value v rest < value v y + 2 ^ length x = near_divisor (length x) i n (value v y) (value v quotient) (value v rest) b within one n_fits fits divides in
    let steps = step (rw (d, rest_width) fits) (rw (d, rest_width) near) in
    let same : Steps (value v y) (b + 2 * value v rest) (v bit) (value v after) = subst (λ k. Steps k (b + 2 * value v rest) (v bit) (value v after)) d steps in
    subst (λ (l : List ℕ). Divides (i + 1) (value v l) (value v y) (value v (bit ∷ quotient)) (value v after)) (sym (next_bits x i net within is))
    (Divides-more i n (value v y) (value v quotient) (value v rest) b (value v after) (v bit) one divides same)

-- ---- circuits

-- the division so far, of the highest i bits: `top` is the net that is always 0
pub record Division (old new : Circuit) (x y : List ℕ) (top i : ℕ) (quotient rest : List ℕ) : Type 0 where
  pub quotient_width : length quotient ≡ i
  pub rest_width : length rest ≡ length x
  pub made : Makes (1 + i * (11 * length x + 10)) (x ++ y) old new (top ∷ (quotient ++ rest)) (λ v. (v top ≡ false) × DividesHighest i x y quotient rest v)

-- before the first step
pub Division-none : (old new : Circuit) (x y quotient rest : List ℕ) (top : ℕ) → (top ≡ length old.nodes) × (new ≡ with_node old (Gate kind.Zero 0 0))
    → quotient ≡ [] → rest ≡ replicate (length x) top → Division old new x y top 0 quotient rest
Division-none old new x y quotient rest top added is_quotient is_rest =
    let zeros = replicate (length x) top in
    let P = λ (k : ℕ). k < length new.nodes in
    let Q = Over new.nodes (x ++ y) in
    let one = Makes-gate (x ++ y) old new kind.Zero 0 0 top added.0 added.1 tt in
    let there : P top = one.there 0 0 (omega arith) in
    let reach : Q top = one.reach 0 0 (omega arith) in
    let made = Makes-as {chosen = top ∷ ([] ++ zeros)} {so = λ v. (v top ≡ false) × DividesHighest 0 x y [] zeros v} one (omega arith)
    (All-cons P top zeros there (All-replicate P (length x) top there)) (All-cons Q top zeros reach (All-replicate Q (length x) top reach))
    (λ v is. (is, none_divided v x y top is)) in
    subst (λ (l : List ℕ). Division old new x y top 0 l rest) (sym is_quotient)
    (subst (λ (l : List ℕ). Division old new x y top 0 [] l) (sym is_rest)
    (record { quotient_width = refl; rest_width = length-replicate (length x) top; made = made }))

-- what holds of the nets of the division so far holds of the rest, and of the divisor with its 0 on top
of_rest : (P : ℕ → Type 0) (top : ℕ) (quotient rest : List ℕ) → All P (top ∷ (quotient ++ rest)) → All P rest
of_rest P top quotient rest all = All-right P quotient rest (All-tail P top (quotient ++ rest) all)

of_divisor : (P : ℕ → Type 0) (top : ℕ) (y divisor quotient rest : List ℕ) → divisor ≡ y ++ top ∷ [] → All P y → All P (top ∷ (quotient ++ rest)) → All P divisor
of_divisor P top y divisor quotient rest is left all =
    All-same P divisor (y ++ top ∷ []) is (All-append P y (top ∷ []) left (All-cons P top [] (All-head P top (quotient ++ rest) all) (All-nil P)))

-- the nets that are kept after a step
kept : (P : ℕ → Type 0) (top bit : ℕ) (quotient longer rest after : List ℕ) → longer ≡ bit ∷ quotient
    → All P ((top ∷ (quotient ++ rest)) ++ (bit ∷ after)) → All P (top ∷ (longer ++ after))
kept P top bit quotient longer rest after is all =
    let before = All-left P (top ∷ (quotient ++ rest)) (bit ∷ after) all in
    let added = All-right P (top ∷ (quotient ++ rest)) (bit ∷ after) all in
    let old_bits = All-left P quotient rest (All-tail P top (quotient ++ rest) before) in
    All-cons P top (longer ++ after) (All-head P top (quotient ++ rest) before)
    (All-append P longer after (All-same P longer (bit ∷ quotient) is (All-cons P bit quotient (All-head P bit after added) old_bits)) (All-tail P bit after added))

-- after a step
pub Division-more : (old mid new : Circuit) (x y divisor quotient longer rest after : List ℕ) (top i net bit : ℕ) → Division old mid x y top i quotient rest
    → length y ≡ length x → i < length x → net ≡ get_or x (length x - 1 - i) 0 → divisor ≡ y ++ top ∷ [] → longer ≡ bit ∷ quotient → length after ≡ length rest
    → MakesStep net rest divisor mid new bit after → Division old new x y top (i + 1) longer after
Division-more old mid new x y divisor quotient longer rest after top i net bit so_far width within is is_divisor is_longer after_width step =
    let P = Over mid.nodes (x ++ y) in
    let low : P net = subst P (sym is) (Over-left x y (length x - 1 - i) 0 (omega arith)) in
    let over : All P (net ∷ (rest ++ divisor)) = All-cons P net (rest ++ divisor) low
    (All-append P rest divisor (of_rest P top quotient rest so_far.made.reach) (of_divisor P top y divisor quotient rest is_divisor (Over-right x y) so_far.made.reach)) in
    let both = Makes-then so_far.made step over in
    let rest_width = so_far.rest_width in
    let quotient_width = so_far.quotient_width in
    record {
      quotient_width = ap (λ (l : List ℕ). length l) is_longer ∙ omega arith;
      rest_width = after_width ∙ rest_width;
      made = Makes-as both (omega (arith, step_gates i (length x), rest_width))
          (kept (λ k. k < length new.nodes) top bit quotient longer rest after is_longer both.there)
          (kept (Over new.nodes (x ++ y)) top bit quotient longer rest after is_longer both.reach)
          (λ v holds. (
            holds.0.0,
            subst (λ (l : List ℕ). DividesHighest (i + 1) x y l after v) (sym is_longer)
                (one_more_divided v x y quotient rest after top i net bit width rest_width within is holds.0.0 holds.0.1
                (subst (λ (l : List ℕ). value v l < 2 ^ length rest → value v (net ∷ rest) < value v l + 2 ^ length rest
                → Steps (value v l) (value v (net ∷ rest)) (v bit) (value v after)) is_divisor holds.1)),
          ));
    }

-- what a step wants: its nets are there, the divisor has its width, and there is room
pub Division-low : (old mid : Circuit) (x y quotient rest : List ℕ) (top i net : ℕ) → Division old mid x y top i quotient rest → All (λ k. k < length old.nodes) x
    → i < length x → net ≡ get_or x (length x - 1 - i) 0 → net < length mid.nodes
Division-low old mid x y quotient rest top i net so_far left within is = rw is (Adds-there x so_far.made.adds left (length x - 1 - i) 0 (omega arith))

pub Division-rest : (old mid : Circuit) (x y quotient rest : List ℕ) (top i : ℕ) → Division old mid x y top i quotient rest → All (λ k. k < length mid.nodes) rest
Division-rest old mid x y quotient rest top i so_far = of_rest (λ k. k < length mid.nodes) top quotient rest so_far.made.there

pub Division-divisor : (old mid : Circuit) (x y divisor quotient rest : List ℕ) (top i : ℕ) → Division old mid x y top i quotient rest
    → All (λ k. k < length old.nodes) y
    → divisor ≡ y ++ top ∷ [] → All (λ k. k < length mid.nodes) divisor
Division-divisor old mid x y divisor quotient rest top i so_far right is =
    of_divisor (λ k. k < length mid.nodes) top y divisor quotient rest is (Adds-there y so_far.made.adds right) so_far.made.there

pub divisor_width : (x y divisor rest : List ℕ) (top : ℕ) → length rest ≡ length x → length y ≡ length x → divisor ≡ y ++ top ∷ [] → length divisor ≡ length rest + 1
divisor_width x y divisor rest top rest_width width is = ap (λ (l : List ℕ). length l) is ∙ length_push y top ∙ omega arith

pub Division-room : (old mid : Circuit) (x y quotient rest : List ℕ) (top i : ℕ) → Division old mid x y top i quotient rest → i < length x
    → length old.nodes + (1 + length x * (11 * length x + 10)) < 2 ^ 32 → length mid.nodes + (11 * length rest + 10) < 2 ^ 32
Division-room old mid x y quotient rest top i so_far within room =
    let grown = Adds-room so_far.made.adds in
    let more = steps_room i (length x) within in
    let width = so_far.rest_width in
    omega (arith, grown, more, width)

-- after the last step
pub Division-done : (old new : Circuit) (x y quotient rest : List ℕ) (top i : ℕ) → Division old new x y top i quotient rest → i ≡ length x
    → MakesDivision x y old new quotient rest
Division-done old new x y quotient rest top i so_far is =
    let all = subst (λ k. Makes (1 + k * (11 * length x + 10)) (x ++ y) old new (top ∷ (quotient ++ rest)) (λ v. (v top ≡ false) × DividesHighest k x y quotient rest v)) is so_far.made in
    let none : length x - length x ≡ 0 = omega arith in
    Makes-as all (omega arith) (All-tail (λ k. k < length new.nodes) top (quotient ++ rest) all.there) (All-tail (Over new.nodes (x ++ y)) top (quotient ++ rest) all.reach)
    (λ v holds. subst (λ k. Divides (length x) (value v (drop k x)) (value v y) (value v quotient) (value v rest)) none holds.1)

-- ---- its quotient and its remainder

pub quotient_made : (old new : Circuit) (x y quotient rest : List ℕ) → 1 ≤ length x → length quotient ≡ length x → MakesDivision x y old new quotient rest
    → Makes (16 * (length x * length x) + 24 * length x) (x ++ y) old new quotient (λ v. (s : Bool) → held s v quotient ≡ num.quotient (held s v x) (held s v y))
quotient_made old new x y quotient rest some width made =
    Makes-as made (division_gates (length x) some) (All-left (λ k. k < length new.nodes) quotient rest made.there) (All-left (Over new.nodes (x ++ y)) quotient rest made.reach)
    (λ v divides s. held_is s v quotient x _ width (quotient_is (length x) (value v x) (value v y) (value v quotient) (value v rest) divides))

pub remainder_made : (old new : Circuit) (x y quotient rest : List ℕ) → 1 ≤ length x → length rest ≡ length x → MakesDivision x y old new quotient rest
    → Makes (16 * (length x * length x) + 24 * length x) (x ++ y) old new rest (λ v. (s : Bool) → held s v rest ≡ num.remainder (held s v x) (held s v y))
remainder_made old new x y quotient rest some width made =
    Makes-as made (division_gates (length x) some) (All-right (λ k. k < length new.nodes) quotient rest made.there) (All-right (Over new.nodes (x ++ y)) quotient rest made.reach)
    (λ v divides s. held_is s v rest x _ width (remainder_is (length x) (value v x) (value v y) (value v quotient) (value v rest) divides))
