-- The number of a node among pairs in the order of nodes.
use Rattle.std.proofs.Common.{◌≡◌, ◌≢◌, inl, inr, subst, ◌<◌, ◌≤◌, ℕ, zero, suc, ◌+◌, ◌*◌, List, [], ◌∷◌, Option, Some, None, length, get_or, Bool, true, false, refl, sym, ap, arith, eq-eqb, if◌then◌else◌}
use Rattle.std.proofs.lemmas.List.{get_or_default}
use Rattle.std.proofs.lemmas.Bool.{cases_lt, eqb-true}
use Rattle.hc_tree.specs.declared.refusal.Node.{Node}
use Rattle.hc_tree.specs.declared.refusal.Node.TheVariants.{Value, Sends, Receives}
use Rattle.hc_cycle.specs.Ranks.{is_same, rank_of, number_of, AreInOrder}

-- two nodes are the same where their numbers are
pub same_by_number : (a b : Node) → (is_same a b ≡ true → number_of a ≡ number_of b) × (number_of a ≡ number_of b → is_same a b ≡ true)
same_by_number (Value j) (Value k) = (λ e. let f : j ≡ k = eqb-true j k e in ap (λ n. 3 * n) f, λ e. eq-eqb j k (omega arith))
same_by_number (Value j) (Sends k) = (λ e. absurd cc, λ e. absurd (omega arith))
same_by_number (Value j) (Receives k) = (λ e. absurd cc, λ e. absurd (omega arith))
same_by_number (Sends j) (Value k) = (λ e. absurd cc, λ e. absurd (omega arith))
same_by_number (Sends j) (Sends k) = (λ e. let f : j ≡ k = eqb-true j k e in ap (λ n. 3 * n + 1) f, λ e. eq-eqb j k (omega arith))
same_by_number (Sends j) (Receives k) = (λ e. absurd cc, λ e. absurd (omega arith))
same_by_number (Receives j) (Value k) = (λ e. absurd cc, λ e. absurd (omega arith))
same_by_number (Receives j) (Sends k) = (λ e. absurd cc, λ e. absurd (omega arith))
same_by_number (Receives j) (Receives k) = (λ e. let f : j ≡ k = eqb-true j k e in ap (λ n. 3 * n + 2) f, λ e. eq-eqb j k (omega arith))

step : (b : Bool) (x y z : Option ℕ) → (b ≡ true → x ≡ z) → (b ≡ false → y ≡ z) → (if b then x else y) ≡ z
step true x y z first second = first refl
step false x y z first second = second refl

pub no_rank : (node : Node) (pairs : List (Node × ℕ)) → ((k : ℕ) (d : Node × ℕ) → k < length pairs → number_of (get_or pairs k d).0 ≢ number_of node) → rank_of node pairs ≡ None
no_rank node [] h = refl
no_rank node (p ∷ pairs) h = step (is_same p.0 node) (Some p.1) (rank_of node pairs) None
    (λ e. absurd (h 0 p (omega arith) ((same_by_number p.0 node).0 e)))
    (λ e. no_rank node pairs (λ k d lt. h (suc k) d (omega arith)))

tail_in_order : (p : Node × ℕ) (pairs : List (Node × ℕ)) → AreInOrder (p ∷ pairs) → AreInOrder pairs
tail_in_order p pairs h i j d lt within = h (suc i) (suc j) d (omega arith) (omega arith)

pub has_rank : (node : Node) (pairs : List (Node × ℕ)) (k : ℕ) (d : Node × ℕ) → AreInOrder pairs → k < length pairs → number_of (get_or pairs k d).0 ≡ number_of node
    → rank_of node pairs ≡ Some (get_or pairs k d).1
has_rank node [] k d h within e = absurd (omega arith)
has_rank node (p ∷ pairs) zero d h within e = step (is_same p.0 node) (Some p.1) (rank_of node pairs) (Some p.1) (λ f. refl)
    (λ f. let t = (same_by_number p.0 node).1 e in absurd cc)
has_rank node (p ∷ pairs) (suc k) d h within e = step (is_same p.0 node) (Some p.1) (rank_of node pairs) (Some (get_or pairs k d).1)
    (λ f. let g = (same_by_number p.0 node).0 f in let lt = h 0 (suc k) d (omega arith) within in absurd (omega arith))
    (λ f. has_rank node pairs k d (tail_in_order p pairs h) (omega arith) e)

-- what stands before a lesser node is less, and what stands behind a greater node is greater
same_default : (pairs : List (Node × ℕ)) (k : ℕ) (d e : Node × ℕ) → k < length pairs → number_of (get_or pairs k d).0 ≡ number_of (get_or pairs k e).0
same_default pairs k d e within = ap (λ (p : Node × ℕ). number_of p.0) (get_or_default pairs k d e within)

pub less_before : (pairs : List (Node × ℕ)) (m n : ℕ) (e : Node × ℕ) → AreInOrder pairs → m < length pairs → number_of (get_or pairs m e).0 < n
    → (k : ℕ) (d : Node × ℕ) → k < m + 1 → number_of (get_or pairs k d).0 < n
less_before pairs m n e h within less k d low = elim (cases_lt k m) [
  | inl lt ↦ let a = h k m d lt within in let b = same_default pairs m d e within in omega arith
  | inr ge ↦ let is : k ≡ m = omega arith in let b = same_default pairs m d e within in
      subst (λ (j : ℕ). number_of (get_or pairs j d).0 < n) (sym is) (omega arith)
]

pub greater_behind : (pairs : List (Node × ℕ)) (m n : ℕ) (e : Node × ℕ) → AreInOrder pairs → n < number_of (get_or pairs m e).0
    → (k : ℕ) (d : Node × ℕ) → m ≤ k → k < length pairs → n < number_of (get_or pairs k d).0
greater_behind pairs m n e h more k d high within = elim (cases_lt m k) [
  | inl lt ↦ let a = h m k d lt within in let b = same_default pairs m d e (omega arith) in omega arith
  | inr ge ↦ let is : k ≡ m = omega arith in let b = same_default pairs m d e (omega arith) in
      subst (λ (j : ℕ). n < number_of (get_or pairs j d).0) (sym is) (omega arith)
]
