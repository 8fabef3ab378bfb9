-- The uses that may write: their lists, one use more at a time, and what holds of their entries.
use Rattle.std.proofs.Common.{◌≡◌, ◌<◌, ℕ, suc, ◌+◌, ◌*◌, List, [], ◌∷◌, ◌++◌, length, take, get_or, Bool, true, false, Option, Some, None, refl, ap, sym, ◌∙◌, arith}
use Rattle.std.specs.Prelude.{All}
use Rattle.std.specs.List.{sum_by}
use Rattle.std.proofs.lemmas.List.{take_more, take_all, length-take-le}
use Rattle.std.proofs.lemmas.List.Elements.{All-append, All-nil, All-cons, All-tail}
use Rattle.std.proofs.lemmas.List.Sums.{sum_by-cons}
use Rattle.hc_net.specs.Circuit.{constant_at, node_at}
use Rattle.hc_net.specs.declared.node.Node.{Node}
use Rattle.hc_bits.proofs.Parts.{All-left, All-right}
use Rattle.hc_ram.specs.Enabled.{IsList, AreLists, all_nets}
use Rattle.hc_ram.specs.Ports.{use_gates}
use Rattle.hc_ram.specs.Sources.{may_write, kept, writing, write_words}

-- ---- one use more

kept_behind : {X : Type 0} (b : Bool) (x : X) (xs : List X) (ys : List X) → kept b x (xs ++ ys) ≡ kept b x xs ++ ys
kept_behind true x xs ys = refl
kept_behind false x xs ys = refl

writing_push : {X : Type 0} (nodes : List Node) (ks : List ℕ) (k : ℕ) (xs : List X) (x : X) → length xs ≡ length ks
    → writing nodes (ks ++ k ∷ []) (xs ++ x ∷ []) ≡ writing nodes ks xs ++ kept (may_write (constant_at (node_at nodes k))) x []
writing_push nodes [] k [] x same = refl
writing_push nodes [] k (y ∷ xs) x same = absurd (omega (arith, same))
writing_push nodes (j ∷ ks) k [] x same = absurd (omega (arith, same))
writing_push nodes (j ∷ ks) k (y ∷ xs) x same =
    let may = may_write (constant_at (node_at nodes j)) in
    ap (λ l. kept may y l) (writing_push nodes ks k xs x (omega (arith, same)))
    ∙ kept_behind may y (writing nodes ks xs) (kept (may_write (constant_at (node_at nodes k))) x [])

words_push : (ks : List ℕ) (k : ℕ) (xs : List (List ℕ)) (x : List ℕ) → length xs ≡ length ks → write_words (ks ++ k ∷ []) (xs ++ x ∷ []) ≡ write_words ks xs ++ (k ∷ x) ∷ []
words_push [] k [] x same = refl
words_push [] k (y ∷ xs) x same = absurd (omega (arith, same))
words_push (j ∷ ks) k [] x same = absurd (omega (arith, same))
words_push (j ∷ ks) k (y ∷ xs) x same = ap (λ l. (j ∷ y) ∷ l) (words_push ks k xs x (omega (arith, same)))

pub words_length : (ks : List ℕ) (xs : List (List ℕ)) → length xs ≡ length ks → length (write_words ks xs) ≡ length ks
words_length [] xs same = refl
words_length (k ∷ ks) [] same = absurd (omega (arith, same))
words_length (k ∷ ks) (x ∷ xs) same = ap (λ n. suc n) (words_length ks xs (omega (arith, same)))

-- the enables, with that of use i
pub enables_more : (nodes : List Node) (writes enables old new : List ℕ) (i enable write : ℕ) → i < length writes → length enables ≡ length writes
    → enable ≡ get_or enables i 0 → write ≡ get_or writes i 0 → old ≡ writing nodes (take i writes) (take i enables)
    → new ≡ old ++ kept (may_write (constant_at (node_at nodes write))) enable []
    → new ≡ writing nodes (take (i + 1) writes) (take (i + 1) enables)
enables_more nodes writes enables old new i enable write within same enable_is write_is so added =
    let sizes : length (take i enables) ≡ length (take i writes) = length-take-le i enables (omega arith) ∙ sym (length-take-le i writes (omega arith)) in
    let ks : take (i + 1) writes ≡ take i writes ++ write ∷ [] = take_more writes i 0 within ∙ ap (λ k. take i writes ++ k ∷ []) (sym write_is) in
    let xs : take (i + 1) enables ≡ take i enables ++ enable ∷ [] = take_more enables i 0 (omega arith) ∙ ap (λ k. take i enables ++ k ∷ []) (sym enable_is) in
    added ∙ ap (λ l. l ++ kept (may_write (constant_at (node_at nodes write))) enable []) so
    ∙ sym (writing_push nodes (take i writes) write (take i enables) enable sizes)
    ∙ ap (λ l. writing nodes l (take i enables ++ enable ∷ [])) (sym ks) ∙ ap (λ (l : List ℕ). writing nodes (take (i + 1) writes) l) (sym xs)

-- the words, with that of use i
pub words_more : (nodes : List Node) (writes value : List ℕ) (values old new : List (List ℕ)) (i write : ℕ) → i < length writes → length values ≡ length writes
    → value ≡ get_or values i [] → write ≡ get_or writes i 0 → old ≡ writing nodes (take i writes) (write_words (take i writes) (take i values))
    → new ≡ old ++ kept (may_write (constant_at (node_at nodes write))) (write ∷ value) []
    → new ≡ writing nodes (take (i + 1) writes) (write_words (take (i + 1) writes) (take (i + 1) values))
words_more nodes writes value values old new i write within same value_is write_is so added =
    let sizes : length (take i values) ≡ length (take i writes) = length-take-le i values (omega arith) ∙ sym (length-take-le i writes (omega arith)) in
    let ks : take (i + 1) writes ≡ take i writes ++ write ∷ [] = take_more writes i 0 within ∙ ap (λ k. take i writes ++ k ∷ []) (sym write_is) in
    let xs : take (i + 1) values ≡ take i values ++ value ∷ [] = take_more values i [] (omega arith) ∙ ap (λ k. take i values ++ k ∷ []) (sym value_is) in
    let may = may_write (constant_at (node_at nodes write)) in
    added ∙ ap (λ l. l ++ kept may (write ∷ value) []) so
    ∙ sym (writing_push nodes (take i writes) write (write_words (take i writes) (take i values)) (write ∷ value) (words_length (take i writes) (take i values) sizes))
    ∙ ap (λ l. writing nodes (take i writes ++ write ∷ []) l) (sym (words_push (take i writes) write (take i values) value sizes))
    ∙ ap (λ l. writing nodes l (write_words l (take i values ++ value ∷ []))) (sym ks)
    ∙ ap (λ l. writing nodes (take (i + 1) writes) (write_words (take (i + 1) writes) l)) (sym xs)

-- all of them
pub enables_all : (nodes : List Node) (writes enables so : List ℕ) (i : ℕ) → i ≡ length writes → length enables ≡ length writes
    → so ≡ writing nodes (take i writes) (take i enables) → so ≡ writing nodes writes enables
enables_all nodes writes enables so i all same is =
    is ∙ ap (λ l. writing nodes l (take i enables)) (take_all i writes (omega arith)) ∙ ap (λ (l : List ℕ). writing nodes writes l) (take_all i enables (omega arith))

pub words_all : (nodes : List Node) (writes : List ℕ) (values so : List (List ℕ)) (i : ℕ) → i ≡ length writes → length values ≡ length writes
    → so ≡ writing nodes (take i writes) (write_words (take i writes) (take i values)) → so ≡ writing nodes writes (write_words writes values)
words_all nodes writes values so i all same is =
    is ∙ ap (λ l. writing nodes l (write_words l (take i values))) (take_all i writes (omega arith))
    ∙ ap (λ l. writing nodes writes (write_words writes l)) (take_all i values (omega arith))

-- ---- of their entries

All-kept : {X : Type 0} (P : X → Type 0) (b : Bool) (x : X) (xs : List X) → P x → All P xs → All P (kept b x xs)
All-kept P true x xs px all = All-cons P x xs px all
All-kept P false x xs px all = all

-- what holds of all entries holds of those that may write
pub All-writing : {X : Type 0} (P : X → Type 0) (nodes : List Node) (ks : List ℕ) (xs : List X) → All P xs → All P (writing nodes ks xs)
All-writing P nodes [] xs all = All-nil P
All-writing P nodes (k ∷ ks) [] all = All-nil P
All-writing P nodes (k ∷ ks) (x ∷ xs) all =
    All-kept P (may_write (constant_at (node_at nodes k))) x (writing nodes ks xs) (all 0 x (omega arith)) (All-writing P nodes ks xs (All-tail P x xs all))

kept_length : {X Y : Type 0} (b : Bool) (x : X) (y : Y) (xs : List X) (ys : List Y) → length xs ≡ length ys → length (kept b x xs) ≡ length (kept b y ys)
kept_length true x y xs ys same = ap (λ n. suc n) same
kept_length false x y xs ys same = same

pub writing_length : {X Y : Type 0} (nodes : List Node) (ks : List ℕ) (xs : List X) (ys : List Y) → length xs ≡ length ks → length ys ≡ length ks
    → length (writing nodes ks xs) ≡ length (writing nodes ks ys)
writing_length nodes [] xs ys same also = refl
writing_length nodes (k ∷ ks) [] ys same also = absurd (omega (arith, same))
writing_length nodes (k ∷ ks) (x ∷ xs) [] same also = absurd (omega (arith, also))
writing_length nodes (k ∷ ks) (x ∷ xs) (y ∷ ys) same also =
    kept_length (may_write (constant_at (node_at nodes k))) x y (writing nodes ks xs) (writing nodes ks ys) (writing_length nodes ks xs ys (omega (arith, same)) (omega (arith, also)))

pub words_lists : (n w : ℕ) (ks : List ℕ) (xs : List (List ℕ)) → All (λ k. k < n) ks → AreLists n w xs → AreLists n (w + 1) (write_words ks xs)
words_lists n w [] xs there all = All-nil (IsList n (w + 1))
words_lists n w (k ∷ ks) [] there all = All-nil (IsList n (w + 1))
words_lists n w (k ∷ ks) (x ∷ xs) there all =
    let list = all 0 x (omega arith) in
    let size : length x ≡ w = list.width in
    All-cons (IsList n (w + 1)) (k ∷ x) (write_words ks xs)
    (record { width = omega (arith, size); there = All-cons (λ j. j < n) k x (there 0 0 (omega arith)) list.there })
    (words_lists n w ks xs (All-tail (λ j. j < n) k ks there) (All-tail (IsList n w) x xs all))

-- all nets of the words
nets_kept : (P : ℕ → Type 0) (b : Bool) (x : List ℕ) (xs : List (List ℕ)) → All P x → All P (all_nets xs) → All P (all_nets (kept b x xs))
nets_kept P true x xs own all = All-append P x (all_nets xs) own all
nets_kept P false x xs own all = all

pub words_nets : (P : ℕ → Type 0) (nodes : List Node) (ks : List ℕ) (xs : List (List ℕ)) → All P ks → All P (all_nets xs) → All P (all_nets (writing nodes ks (write_words ks xs)))
words_nets P nodes [] xs some all = All-nil P
words_nets P nodes (k ∷ ks) [] some all = All-nil P
words_nets P nodes (k ∷ ks) (x ∷ xs) some all =
    nets_kept P (may_write (constant_at (node_at nodes k))) (k ∷ x) (writing nodes ks (write_words ks xs))
    (All-cons P k x (some 0 0 (omega arith)) (All-left P x (all_nets xs) all))
    (words_nets P nodes ks xs (All-tail P k ks some) (All-right P x (all_nets xs) all))

-- ---- their gates

use_kept : {X : Type 0} (a w : ℕ) (c : Option Bool) (x : X) (xs : List X)
    → 2 * a + (w + 1) * (2 * length (kept (may_write c) x xs)) ≡ use_gates a w c + (w + 1) * (2 * length xs)
use_kept a w None x xs = omega arith
use_kept a w (Some true) x xs = omega arith
use_kept a w (Some false) x xs = omega arith

pub gates_sum : {X : Type 0} (nodes : List Node) (a w : ℕ) (ks : List ℕ) (xs : List X) → length xs ≡ length ks
    → a * (2 * length ks) + (w + 1) * (2 * length (writing nodes ks xs)) ≡ sum_by (λ k. use_gates a w (constant_at (node_at nodes k))) ks
gates_sum nodes a w [] xs same =
    let none : sum_by (λ k. use_gates a w (constant_at (node_at nodes k))) [] ≡ 0 = refl in
    omega (arith, none)
gates_sum nodes a w (k ∷ ks) [] same = absurd (omega (arith, same))
gates_sum nodes a w (k ∷ ks) (x ∷ xs) same =
    let ih = gates_sum nodes a w ks xs (omega (arith, same)) in
    let one = use_kept a w (constant_at (node_at nodes k)) x (writing nodes ks xs) in
    let sum = sum_by-cons (λ k. use_gates a w (constant_at (node_at nodes k))) k ks in
    omega (arith, ih, one, sum)
