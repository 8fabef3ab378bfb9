-- No object is used twice exactly where a clock is clean.
use Rattle.std.proofs.Common.{◌≡◌, ◌≢◌, ℕ, zero, suc, List, [], ◌∷◌, ◌++◌, Bool, true, false, not, ◌||◌, ◌&&◌, ◌==◌, refl, ap, sym, ◌∙◌, arith}
use Rattle.std.specs.Prelude.{if◌then◌else◌, None, All, AllPairs}
use Rattle.std.specs.List.{list_any, flat_map}
use Rattle.std.proofs.lemmas.List.Kept.{AllPairs-cons}
use Rattle.std.proofs.lemmas.List.Folds.{list_any-append}
use Rattle.std.proofs.lemmas.Bool.{eq-eqb, eqb-true}
use Rattle.hc_core.specs.Rules.{least, is_in, repeated}
use Rattle.hc_meaning.specs.Value.{World}
use Rattle.hc_meaning.specs.Control.{Condition, Leaf}
use Rattle.hc_meaning.specs.Clock.{IsClean, all_writes, cells_written, signals_of, leaf_number, leaf_uses, condition_uses, user, users, send_offers, receive_offers}
use Rattle.hc_meaning.specs.Twice.{is_cell, written_twice, differ, accessed_in, shared, used_twice, all_used_twice}

-- ---- lists

none_least : (xs : List ℕ) → least xs ≡ None → xs ≡ []
none_least [] none = refl
none_least (k ∷ xs) none = absurd cc

first_none : (xs ys : List ℕ) → xs ++ ys ≡ [] → xs ≡ []
first_none [] ys none = refl
first_none (k ∷ xs) ys none = absurd cc

second_none : (xs ys : List ℕ) → xs ++ ys ≡ [] → ys ≡ []
second_none [] ys none = none
second_none (k ∷ xs) ys none = absurd cc

or_first : (a b : Bool) → (a || b) ≡ false → a ≡ false
or_first true b h = absurd cc
or_first false b h = refl

or_second : (a b : Bool) → (a || b) ≡ false → b ≡ false
or_second true b h = absurd cc
or_second false b h = h

neither : (a b : Bool) → a ≡ false → b ≡ false → (a || b) ≡ false
neither true b h i = absurd cc
neither false b h i = i

module _ {X : Type 0} where
  no_pairs : (R : X → X → Type 0) → AllPairs R []
  no_pairs R i j d lt within = absurd (omega arith)

  head_pairs : (R : X → X → Type 0) (x : X) (xs : List X) → AllPairs R (x ∷ xs) → All (R x) xs
  head_pairs R x xs pairs i d within = pairs 0 (suc i) d (omega arith) (omega (arith, within))

  tail_pairs : (R : X → X → Type 0) (x : X) (xs : List X) → AllPairs R (x ∷ xs) → AllPairs R xs
  tail_pairs R x xs pairs i j d lt within = pairs (suc i) (suc j) d (omega (arith, lt)) (omega (arith, within))

  -- what no element passes
  none_passes : (P : X → Type 0) (test : X → Bool) → ((y : X) → test y ≡ false → P y) → (xs : List X) → list_any test xs ≡ false → All P xs
  none_passes P test says [] none i d within = absurd (omega arith)
  none_passes P test says (x ∷ xs) none zero d within = says x (or_first (test x) (list_any test xs) none)
  none_passes P test says (x ∷ xs) none (suc i) d within = none_passes P test says xs (or_second (test x) (list_any test xs) none) i d (omega (arith, within))

  passes_none : (P : X → Type 0) (test : X → Bool) → ((y : X) → P y → test y ≡ false) → (xs : List X) → All P xs → list_any test xs ≡ false
  passes_none P test says [] all = refl
  passes_none P test says (x ∷ xs) all =
      neither (test x) (list_any test xs) (says x (all 0 x (omega arith))) (passes_none P test says xs (λ i d within. all (suc i) d (omega (arith, within))))

-- ---- numbers

apart : (k j : ℕ) → (j == k) ≡ false → k ≢ j
apart k j h same = absurd (let is = eq-eqb j k (sym same) in cc)

tells_apart : (k j : ℕ) → k ≢ j → (j == k) ≡ false
tells_apart k j other = by (j == k) refl
  where
    by : (b : Bool) → (j == k) ≡ b → b ≡ false
    by true e = absurd (other (sym (eqb-true j k e)))
    by false e = refl

none_repeated : (xs : List ℕ) → repeated xs ≡ [] → AllPairs ◌≢◌ xs
none_repeated [] none = no_pairs ◌≢◌
none_repeated (k ∷ xs) none = by (is_in k xs) refl none (none_repeated xs)
  where
    by : (b : Bool) → is_in k xs ≡ b → (if b then k ∷ repeated xs else repeated xs) ≡ [] → (repeated xs ≡ [] → AllPairs ◌≢◌ xs) → AllPairs ◌≢◌ (k ∷ xs)
    by true e h next = absurd cc
    by false e h next = AllPairs-cons ◌≢◌ k xs (none_passes (λ j. k ≢ j) (λ j. j == k) (apart k) xs e) (next h)

distinct_none : (xs : List ℕ) → AllPairs ◌≢◌ xs → repeated xs ≡ []
distinct_none [] pairs = refl
distinct_none (k ∷ xs) pairs =
    rw (passes_none (λ j. k ≢ j) (λ j. j == k) (tells_apart k) xs (head_pairs ◌≢◌ k xs pairs)) (distinct_none xs (tail_pairs ◌≢◌ k xs pairs))

-- ---- cells

both : (a b : Bool) → (a && b) ≡ true → (a ≡ true) × (b ≡ true)
both true b h = (refl, h)
both false b h = absurd cc

one_cell : (c d : ℕ × ℕ) → is_cell c d ≡ true → c ≡ d
one_cell (k, i) (l, j) h =
    let e = both (k == l) (i == j) h in
    let f = eqb-true k l e.0 in
    let g = eqb-true i j e.1 in
    ap (λ (x : ℕ). (x, i)) f ∙ ap (λ (x : ℕ). (l, x)) g

is_itself : (c d : ℕ × ℕ) → c ≡ d → is_cell c d ≡ true
is_itself c d e = rw (sym e, eq-eqb c.0 c.0 refl, eq-eqb c.1 c.1 refl) refl

cell_apart : (c d : ℕ × ℕ) → is_cell c d ≡ false → c ≢ d
cell_apart c d h same = absurd (let is = is_itself c d same in cc)

tells_cells : (c d : ℕ × ℕ) → c ≢ d → is_cell c d ≡ false
tells_cells c d other = by (is_cell c d) refl
  where
    by : (b : Bool) → is_cell c d ≡ b → b ≡ false
    by true e = absurd (other (one_cell c d e))
    by false e = refl

none_written : (xs : List (ℕ × ℕ)) → written_twice xs ≡ [] → AllPairs ◌≢◌ xs
none_written [] none = no_pairs ◌≢◌
none_written (c ∷ xs) none = by (list_any (is_cell c) xs) refl none (none_written xs)
  where
    by : (b : Bool) → list_any (is_cell c) xs ≡ b → (if b then c.0 ∷ written_twice xs else written_twice xs) ≡ [] → (written_twice xs ≡ [] → AllPairs ◌≢◌ xs) → AllPairs ◌≢◌ (c ∷ xs)
    by true e h next = absurd cc
    by false e h next = AllPairs-cons ◌≢◌ c xs (none_passes (λ d. c ≢ d) (is_cell c) (cell_apart c) xs e) (next h)

written_none : (xs : List (ℕ × ℕ)) → AllPairs ◌≢◌ xs → written_twice xs ≡ []
written_none [] pairs = refl
written_none (c ∷ xs) pairs =
    rw (passes_none (λ d. c ≢ d) (is_cell c) (tells_cells c) xs (head_pairs ◌≢◌ c xs pairs)) (written_none xs (tail_pairs ◌≢◌ c xs pairs))

-- ---- users

not_false : (b : Bool) → not b ≡ false → b ≡ true
not_false true h = refl
not_false false h = absurd cc

all_one : (xs : List ℕ) (n : ℕ) → All (λ m. n ≡ m) xs → AllPairs ◌≡◌ (n ∷ xs)
all_one xs n all zero zero d lt within = absurd (omega arith)
all_one xs n all zero (suc j) d lt within = all j d (omega (arith, within))
all_one xs n all (suc i) zero d lt within = absurd (omega arith)
all_one xs n all (suc i) (suc j) d lt within = sym (all i d (omega (arith, lt, within))) ∙ all j d (omega (arith, within))

one_user : (xs : List ℕ) → differ xs ≡ false → AllPairs ◌≡◌ xs
one_user [] h = no_pairs ◌≡◌
one_user (n ∷ xs) h = all_one xs n (none_passes (λ m. n ≡ m) (λ m. not (m == n)) (λ m is. sym (eqb-true m n (not_false (m == n) is))) xs h)

no_other : (xs : List ℕ) → AllPairs ◌≡◌ xs → differ xs ≡ false
no_other [] pairs = refl
no_other (n ∷ xs) pairs = passes_none (λ m. n ≡ m) (λ m. not (m == n)) (λ m is. ap not (eq-eqb m n (sym is))) xs (head_pairs ◌≡◌ n xs pairs)

-- what doesn't access an object is no user of it
no_user : {X : Type 0} (number : X → ℕ) (uses : X → List ℕ) (k : ℕ) (xs : List X) → list_any (λ j. j == k) (flat_map uses xs) ≡ false
    → flat_map (λ x. user k (number x) (uses x)) xs ≡ []
no_user number uses k [] none = refl
no_user number uses k (x ∷ xs) none =
    let e = sym (list_any-append (λ j. j == k) (uses x) (flat_map uses xs)) ∙ none in
    rw (or_first (list_any (λ j. j == k) (uses x)) (list_any (λ j. j == k) (flat_map uses xs)) e)
    (no_user number uses k xs (or_second (list_any (λ j. j == k) (uses x)) (list_any (λ j. j == k) (flat_map uses xs)) e))

both_none : {X : Type 0} (xs ys : List X) → xs ≡ [] → ys ≡ [] → xs ++ ys ≡ []
both_none xs ys h i = rw (h, i) refl

unaccessed : (front : List Leaf) (conditions : List Condition) (k : ℕ) → list_any (λ j. j == k) (accessed_in front conditions) ≡ false → users k front conditions ≡ []
unaccessed front conditions k none =
    let a = flat_map leaf_uses front in
    let b = flat_map condition_uses conditions in
    let e = sym (list_any-append (λ j. j == k) a b) ∙ none in
    both_none (flat_map (λ (l : Leaf). user k (leaf_number l) (leaf_uses l)) front) (flat_map (λ (c : Condition). user k c.number (condition_uses c)) conditions)
    (no_user leaf_number leaf_uses k front (or_first (list_any (λ j. j == k) a) (list_any (λ j. j == k) b) e))
    (no_user (λ (c : Condition). c.number) condition_uses k conditions (or_second (list_any (λ j. j == k) a) (list_any (λ j. j == k) b) e))

none_shared : (front : List Leaf) (conditions : List Condition) (xs : List ℕ) → shared front conditions xs ≡ [] → (k : ℕ) → list_any (λ j. j == k) xs ≡ true
    → differ (users k front conditions) ≡ false
none_shared front conditions [] none k there = absurd cc
none_shared front conditions (x ∷ xs) none k there = by (differ (users x front conditions)) refl none (λ h. none_shared front conditions xs h k)
  where
    at : (b : Bool) → (x == k) ≡ b → differ (users x front conditions) ≡ false → shared front conditions xs ≡ [] → (b || list_any (λ j. j == k) xs) ≡ true
        → (list_any (λ j. j == k) xs ≡ true → differ (users k front conditions) ≡ false) → differ (users k front conditions) ≡ false
    at true e h i is next = ap (λ n. differ (users n front conditions)) (sym (eqb-true x k e)) ∙ h
    at false e h i is next = next is

    by : (b : Bool) → differ (users x front conditions) ≡ b → (if b then x ∷ shared front conditions xs else shared front conditions xs) ≡ []
        → (shared front conditions xs ≡ [] → list_any (λ j. j == k) xs ≡ true → differ (users k front conditions) ≡ false) → differ (users k front conditions) ≡ false
    by true e h next = absurd cc
    by false e h next = at (x == k) refl e h there (next h)

shared_none : (front : List Leaf) (conditions : List Condition) → ((k : ℕ) → AllPairs ◌≡◌ (users k front conditions)) → (xs : List ℕ) → shared front conditions xs ≡ []
shared_none front conditions one [] = refl
shared_none front conditions one (k ∷ xs) = rw (no_other (users k front conditions) (one k)) (shared_none front conditions one xs)

one_each : (front : List Leaf) (conditions : List Condition) → shared front conditions (accessed_in front conditions) ≡ [] → (k : ℕ) → AllPairs ◌≡◌ (users k front conditions)
one_each front conditions none k = by (list_any (λ j. j == k) (accessed_in front conditions)) refl
  where
    by : (b : Bool) → list_any (λ j. j == k) (accessed_in front conditions) ≡ b → AllPairs ◌≡◌ (users k front conditions)
    by true e = one_user (users k front conditions) (none_shared front conditions (accessed_in front conditions) none k e)
    by false e = rw (unaccessed front conditions k e) (no_pairs ◌≡◌)

-- ---- the law

pub clean_of : (w : World) (front : List Leaf) (conditions : List Condition) → used_twice w front conditions ≡ None → IsClean w front conditions
clean_of w front conditions none =
    let written = written_twice (cells_written w.kinds (all_writes w front)) in
    let assigned = repeated (flat_map signals_of front) in
    let accessed = shared front conditions (accessed_in front conditions) in
    let sends = repeated (flat_map send_offers front) in
    let receives = repeated (flat_map receive_offers front) in
    let all = none_least (all_used_twice w front conditions) none in
    let behind = second_none written (assigned ++ (accessed ++ (sends ++ receives))) all in
    let last = second_none assigned (accessed ++ (sends ++ receives)) behind in
    let offers = second_none accessed (sends ++ receives) last in
    record {
      written = none_written (cells_written w.kinds (all_writes w front)) (first_none written (assigned ++ (accessed ++ (sends ++ receives))) all);
      assigned = none_repeated (flat_map signals_of front) (first_none assigned (accessed ++ (sends ++ receives)) behind);
      accessed = one_each front conditions (first_none accessed (sends ++ receives) last);
      sends = none_repeated (flat_map send_offers front) (first_none sends receives offers);
      receives = none_repeated (flat_map receive_offers front) (second_none sends receives offers);
    }

pub none_of : (w : World) (front : List Leaf) (conditions : List Condition) → IsClean w front conditions → used_twice w front conditions ≡ None
none_of w front conditions clean =
    let written = written_none (cells_written w.kinds (all_writes w front)) clean.written in
    let assigned = distinct_none (flat_map signals_of front) clean.assigned in
    let accessed = shared_none front conditions clean.accessed (accessed_in front conditions) in
    let sends = distinct_none (flat_map send_offers front) clean.sends in
    let receives = distinct_none (flat_map receive_offers front) clean.receives in
    rw (written, assigned, accessed, sends, receives) refl
