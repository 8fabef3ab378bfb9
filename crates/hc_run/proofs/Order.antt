-- Pins in the order of the nets that they read.
use Rattle.std.specs.Prelude.{◌≡◌, ◌≢◌, ◌+◌, ◌<◌, ◌≤◌, ◌==◌, ◌∷◌, [], ℕ, zero, suc, Bool, true, false, not, ◌&&◌, cond, nat_lt, List, length, map, take, drop, refl}
use Rattle.std.specs.List.{filter}
use Rattle.std.specs.List.Sorted.{ties, IsNonDecreasingBy, IsStableByKey}
use Rattle.std.specs.Ordering.{nat_cmp, is_lt}
use Rattle.std.specs.declared.cmp.Ordering.TheVariants.{Less, Equal, Greater}
use Rattle.std.proofs.Common.{get_or, sym, ◌∙◌, ap, arith, subst}
use Rattle.std.proofs.lemmas.Bool.Decides.{nat_tests}
use Rattle.std.proofs.lemmas.List.{get_or_default}
use Rattle.std.proofs.lemmas.List.Elements.{filter_agree}
use Rattle.hc_run.specs.declared.edif.pins.Pin.TheVariants.{GateA}
use Rattle.hc_run.specs.declared.edif.pins.Reader.{Reader}
use Rattle.hc_run.specs.Edif.{of_net}
use Rattle.hc_run.specs.Pins.{read_by, Rises, IsOrdered, IsSplit}

-- the test of one net, on the code's pins
abbrev pub reads : ℕ → Reader → Bool
reads n r = r.net == n

less_by_cases : (a b : Bool) → is_lt (cond a Less (cond b Equal Greater)) ≡ a
less_by_cases true b = refl
less_by_cases false true = refl
less_by_cases false false = refl

is_lt-nat_cmp : (x y : ℕ) → is_lt (nat_cmp x y) ≡ nat_lt x y
is_lt-nat_cmp x y = less_by_cases (nat_lt x y) (x == y)

neither_less : (x y : ℕ) → not (nat_lt x y) && not (nat_lt y x) ≡ (y == x)
neither_less x y = grind (arith, nat_tests)

ties_reads : (n : ℕ) (r : Reader) → ties (λ (a b : Reader). is_lt (nat_cmp a.net b.net)) (record { net = n; pin = GateA 0 }) r ≡ reads n r
ties_reads n r = rw (is_lt-nat_cmp n r.net, is_lt-nat_cmp r.net n) (neither_less n r.net)

-- a stable sort keeps the pins of each net
pub same_reads : (xs ys : List Reader) → IsStableByKey (λ (r : Reader). r.net) nat_cmp xs ys → (n : ℕ) → filter (reads n) ys ≡ filter (reads n) xs
same_reads xs ys stable n =
    sym (filter_agree _ _ (ties_reads n) ys) ∙ stable (record { net = n; pin = GateA 0 }) ∙ filter_agree _ _ (ties_reads n) xs

map_cond : (b : Bool) (r : Reader) (xs : List Reader) → cond b (read_by r ∷ map read_by xs) (map read_by xs) ≡ map read_by (cond b (r ∷ xs) xs)
map_cond true r xs = refl
map_cond false r xs = refl

of_net-map : (n : ℕ) (xs : List Reader) → of_net n (map read_by xs) ≡ map read_by (filter (reads n) xs)
of_net-map n [] = refl
of_net-map n (r ∷ xs) = ap (λ t. cond (r.net == n) (read_by r ∷ t) t) (of_net-map n xs) ∙ map_cond (r.net == n) r (filter (reads n) xs)

-- numbers that rise
pub Rises-from : (n : ℕ) (xs : List Reader) → IsNonDecreasingBy (λ (r : Reader). r.net) xs → ((d : Reader) → 0 < length xs → n ≤ (get_or xs 0 d).net) → Rises n (map read_by xs)
Rises-from n [] up low = tt
Rises-from n (r ∷ xs) up low =
    (low r (omega arith), Rises-from r.net xs (λ i j d before within. up (suc i) (suc j) d (omega arith) (omega arith)) (λ d some. up 0 1 d (omega arith) (omega arith)))

-- what a stable sort by the net gives
pub IsOrdered-from_sort : (pins : List (ℕ × List ℕ)) (xs ys : List Reader) → map read_by xs ≡ pins
    → IsNonDecreasingBy (λ (r : Reader). r.net) ys → IsStableByKey (λ (r : Reader). r.net) nat_cmp xs ys → IsOrdered pins (map read_by ys)
IsOrdered-from_sort pins xs ys is up stable = record {
  rises = Rises-from 0 ys up (λ d some. omega arith);
  same = λ n. of_net-map n ys ∙ ap (map read_by) (same_reads xs ys stable n) ∙ sym (of_net-map n xs) ∙ ap (of_net n) is;
}

of_net-hit : (n : ℕ) (r : ℕ × List ℕ) (rs : List (ℕ × List ℕ)) → r.0 ≡ n → of_net n (r ∷ rs) ≡ r ∷ of_net n rs
of_net-hit n r rs is = let e : (r.0 == n) ≡ true = grind (arith, nat_tests) in ap (λ b. cond b (r ∷ of_net n rs) (of_net n rs)) e

of_net-miss : (n : ℕ) (r : ℕ × List ℕ) (rs : List (ℕ × List ℕ)) → r.0 ≢ n → of_net n (r ∷ rs) ≡ of_net n rs
of_net-miss n r rs other = let e : (r.0 == n) ≡ false = grind (arith, nat_tests) in ap (λ b. cond b (r ∷ of_net n rs) (of_net n rs)) e

-- numbers that rise from above n have no n
of_net-none : (n m : ℕ) (rs : List (ℕ × List ℕ)) → n < m → Rises m rs → of_net n rs ≡ []
of_net-none n m [] above up = refl
of_net-none n m (r ∷ rs) above up =
    let bound : m ≤ r.0 = up.0 in
    of_net-miss n r rs (λ e. absurd (omega arith)) ∙ of_net-none n r.0 rs (omega arith) up.1

Rises-after : (n m : ℕ) (rs : List (ℕ × List ℕ)) → n ≡ m → Rises n rs → Rises m rs
Rises-after n m rs is up = subst (λ k. Rises k rs) is up

IsSplit-none : (n : ℕ) (xs : List Reader) → Rises n (map read_by xs) → ((d : Reader) → 0 < length xs → (get_or xs 0 d).net ≢ n)
    → IsSplit n (map read_by xs) [] (map read_by xs)
IsSplit-none n [] up differs = record { here = refl; rises = tt; later = λ m above. refl }
IsSplit-none n (r ∷ xs) up differs =
    let least : n ≤ r.net = up.0 in
    let other : r.net ≢ n = differs r (omega arith) in
    let above : n < r.net = omega (arith, other) in
    record {
      here = of_net-miss n (read_by r) (map read_by xs) other ∙ of_net-none n r.net (map read_by xs) above up.1;
      rises = (omega arith, up.1);
      later = λ m h. refl;
    }

-- i pins that read net n, and then one of another net or the end
pub IsSplit-at : (n i : ℕ) (xs : List Reader) → Rises n (map read_by xs) → i ≤ length xs
    → ((k : ℕ) (d : Reader) → k < i → (get_or xs k d).net ≡ n) → ((d : Reader) → i < length xs → (get_or xs i d).net ≢ n)
    → IsSplit n (map read_by xs) (map read_by (take i xs)) (map read_by (drop i xs))
IsSplit-at n zero xs up within same differs = IsSplit-none n xs up differs
IsSplit-at n (suc i) [] up within same differs = absurd (omega arith)
IsSplit-at n (suc i) (r ∷ xs) up within same differs =
    let is : r.net ≡ n = same 0 r (omega arith) in
    let rest : IsSplit n (map read_by xs) (map read_by (take i xs)) (map read_by (drop i xs)) =
    IsSplit-at n i xs (Rises-after r.net n (map read_by xs) is up.1) (omega arith) (λ k d h. same (suc k) d (omega arith)) (λ d h. differs d (omega arith)) in
    record {
      here = of_net-hit n (read_by r) (map read_by xs) is ∙ ap (λ t. read_by r ∷ t) rest.here;
      rises = rest.rises;
      later = λ m h. rest.later m h ∙ sym (of_net-miss m (read_by r) (map read_by xs) (λ e. absurd (omega arith)));
    }

-- the pins that are left before net n
pub record IsLeft (n : ℕ) (left whole : List (ℕ × List ℕ)) : Type 0 where
  pub rises : Rises n left
  pub later : (m : ℕ) → n ≤ m → of_net m left ≡ of_net m whole

pub IsLeft-start : (whole : List (ℕ × List ℕ)) → Rises 0 whole → IsLeft 0 whole whole
IsLeft-start whole up = record { rises = up; later = λ m h. refl }

pub IsLeft-more : {n : ℕ} {left whole front back : List (ℕ × List ℕ)} → IsLeft n left whole → IsSplit n left front back → IsLeft (n + 1) back whole
IsLeft-more h split = record { rises = split.rises; later = λ m above. split.later m (omega arith) ∙ h.later m (omega arith) }

pub IsLeft-here : {n : ℕ} {left whole front back : List (ℕ × List ℕ)} → IsLeft n left whole → IsSplit n left front back → front ≡ of_net n whole
IsLeft-here {n} h split = sym split.here ∙ h.later n (omega arith)

-- a pin's net, whatever the default
pub same_net : {n : ℕ} (xs : List Reader) (i : ℕ) (d e : Reader) → i < length xs → (get_or xs i e).net ≡ n → (get_or xs i d).net ≡ n
same_net xs i d e within is = ap (λ (r : Reader). r.net) (get_or_default xs i d e within) ∙ is
