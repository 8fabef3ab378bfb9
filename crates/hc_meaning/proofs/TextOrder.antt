-- The actions, cases and conditions of a statement have the numbers from the first one on, in text order.
use Rattle.std.proofs.Common.{◌≡◌, ℕ, zero, suc, ◌+◌, List, [], ◌∷◌, ◌++◌, refl, ap, ◌∙◌, arith}
use Rattle.hc_core.specs.Program as p
use Rattle.hc_meaning.specs.Residual.{Residual, Then, residual, sequence, sequence_behind, branches_left, cases_left, arms_left}
use Rattle.hc_meaning.specs.Numbers.{numbers, all_numbers, case_numbers, arm_numbers, numbered}

-- Some numbers are those from one on up to another.
pub record FromTo (low : ℕ) (list : List ℕ) (high : ℕ) : Type 0 where
  pub count : ℕ
  pub list_is : list ≡ numbered low count
  pub high_is : high ≡ low + count

joined : (low m n : ℕ) → numbered low m ++ numbered (low + m) n ≡ numbered low (m + n)
joined low zero n = let e : low + 0 ≡ low = omega arith in let f : 0 + n ≡ n = omega arith in rw (e, f) refl
joined low (suc m) n =
    let e : low + suc m ≡ (low + 1) + m = omega arith in
    let f : suc m + n ≡ suc (m + n) = omega arith in
    rw (e, f) (ap (λ l. low ∷ l) (joined (low + 1) m n))

none : (n : ℕ) → FromTo n [] n
none n = record { count = 0; list_is = refl; high_is = omega arith }

one : (n : ℕ) → FromTo n (n ∷ []) (n + 1)
one n = record { count = 1; list_is = refl; high_is = refl }

both : (low mid high : ℕ) (a b : List ℕ) → FromTo low a mid → FromTo mid b high → FromTo low (a ++ b) high
both low mid high a b h k = record {
  count = h.count + k.count;
  list_is = ap (λ l. l ++ b) h.list_is ∙ ap (λ l. numbered low h.count ++ l) (k.list_is ∙ ap (λ i. numbered i k.count) h.high_is) ∙ joined low h.count k.count;
  high_is = let x = h.high_is in let y = k.high_is in omega arith;
}

front : (n high : ℕ) (list : List ℕ) → FromTo (n + 1) list high → FromTo n (n ∷ list) high
front n high list h = both n (n + 1) high (n ∷ []) list (one n) h

mutual
  unfolding residual

  in_order : (s : p.Statement) (n : ℕ) → FromTo n (numbers (residual s n).0) (residual s n).1
  in_order p.Skip n = none n
  in_order (p.Assign place t e) n = one n
  in_order (p.Delay place) n = one n
  in_order (p.Send place chan e) n = one n
  in_order (p.Receive place chan t) n = one n
  in_order (p.Prialt place cases) n = front n (cases_left cases (n + 1)).1 (case_numbers (cases_left cases (n + 1)).0) (cases_order cases (n + 1))
  in_order (p.PrialtElse place cases rest) n =
      let k = (cases_left cases (n + 1)).1 in
      front n (residual rest k).1 (case_numbers (cases_left cases (n + 1)).0 ++ numbers (residual rest k).0)
      (both (n + 1) k (residual rest k).1 (case_numbers (cases_left cases (n + 1)).0) (numbers (residual rest k).0) (cases_order cases (n + 1)) (in_order rest k))
  in_order (p.Seq place parts) n = sequence_order parts n
  in_order (p.Par place branches) n = branches_order branches n
  in_order (p.If place c a b) n =
      let k = (residual a (n + 1)).1 in
      front n (residual b k).1 (numbers (residual a (n + 1)).0 ++ numbers (residual b k).0)
      (both (n + 1) k (residual b k).1 (numbers (residual a (n + 1)).0) (numbers (residual b k).0) (in_order a (n + 1)) (in_order b k))
  in_order (p.While place c body) n = front n (residual body (n + 1)).1 (numbers (residual body (n + 1)).0) (in_order body (n + 1))
  in_order (p.DoWhile place body c) n =
      let k = (residual body n).1 in
      both n k (k + 1) (numbers (residual body n).0) (k ∷ []) (in_order body n) (one k)
  in_order (p.Switch place e arms) n = front n (arms_left arms (n + 1)).1 (arm_numbers (arms_left arms (n + 1)).0) (arms_order arms (n + 1))

  sequence_order : (parts : p.Statements) (n : ℕ) → FromTo n (numbers (sequence parts n).0) (sequence parts n).1
  sequence_order p.stop n = none n
  sequence_order (p.◌⨾◌ first rest) n = behind_order (residual first n).0 rest n (residual first n).1 (in_order first n)

  behind_order : (done : Residual) (rest : p.Statements) (low n : ℕ) → FromTo low (numbers done) n → FromTo low (numbers (sequence_behind done rest n).0) (sequence_behind done rest n).1
  behind_order done p.stop low n h = h
  behind_order done (p.◌⨾◌ next rest) low n h =
      behind_order (Then done (residual next n).0) rest low (residual next n).1
      (both low n (residual next n).1 (numbers done) (numbers (residual next n).0) h (in_order next n))

  branches_order : (branches : p.Statements) (n : ℕ) → FromTo n (all_numbers (branches_left branches n).0) (branches_left branches n).1
  branches_order p.stop n = none n
  branches_order (p.◌⨾◌ first rest) n =
      let k = (residual first n).1 in
      both n k (branches_left rest k).1 (numbers (residual first n).0) (all_numbers (branches_left rest k).0) (in_order first n) (branches_order rest k)

  cases_order : (cases : p.Cases) (n : ℕ) → FromTo n (case_numbers (cases_left cases n).0) (cases_left cases n).1
  cases_order p.no_case n = none n
  cases_order (p.send_case chan e first rest) n =
      let k = (residual first (n + 1)).1 in
      front n (cases_left rest k).1 (numbers (residual first (n + 1)).0 ++ case_numbers (cases_left rest k).0)
      (both (n + 1) k (cases_left rest k).1 (numbers (residual first (n + 1)).0) (case_numbers (cases_left rest k).0) (in_order first (n + 1)) (cases_order rest k))
  cases_order (p.receive_case chan t first rest) n =
      let k = (residual first (n + 1)).1 in
      front n (cases_left rest k).1 (numbers (residual first (n + 1)).0 ++ case_numbers (cases_left rest k).0)
      (both (n + 1) k (cases_left rest k).1 (numbers (residual first (n + 1)).0) (case_numbers (cases_left rest k).0) (in_order first (n + 1)) (cases_order rest k))

  arms_order : (arms : p.Arms) (n : ℕ) → FromTo n (arm_numbers (arms_left arms n).0) (arms_left arms n).1
  arms_order p.no_arm n = none n
  arms_order (p.arm values other body rest) n =
      let k = (residual body n).1 in
      both n k (arms_left rest k).1 (numbers (residual body n).0) (arm_numbers (arms_left rest k).0) (in_order body n) (arms_order rest k)

pub text_order : (s : p.Statement) → numbers (residual s 0).0 ≡ numbered 0 (residual s 0).1
text_order s =
    let h = in_order s 0 in
    let e : h.count ≡ (residual s 0).1 = (let i = h.high_is in omega arith) in
    h.list_is ∙ ap (numbered 0) e
