-- What the loops of S18 keep: the channels that were added and those of the rest of a list make up those of the whole list.
use Rattle.std.proofs.Common.{◌≡◌, ℕ, ◌+◌, ◌<◌, ◌≤◌, List, [], ◌∷◌, ◌++◌, length, ap, ◌∙◌, arith}
use Rattle.hc_core.specs.Program.{Statements, Cases, Arms}
use Rattle.hc_core.specs.Read.{statement, statements, cases, case_before, arms}
use Rattle.hc_core.specs.Parts.{statement_parts, all_parts, cases_parts, arms_parts}
use Rattle.hc_core.specs.Rules.{send_channels, all_send, cases_send, arms_send, receive_channels, all_receive, cases_receive, arms_receive}
use Rattle.hc_core.specs.declared.stmt.Stmt.{Stmt}
use Rattle.hc_core.specs.declared.stmt.Case.{Case}
use Rattle.hc_core.specs.declared.stmt.Case.TheVariants as c
use Rattle.hc_core.specs.declared.stmt.Arm.{Arm}
use Rattle.hc_core.proofs.Listing.{is_empty, rest_is}
use Rattle.hc_core.proofs.Read.{read_no_statement, read_no_case, read_no_arm}
use Rattle.hc_rules.proofs.Places.{arms_are}
use Rattle.hc_rules.proofs.Adding.{Adds, adds_start, adds_next, adds_end, nothing, one_more}

pub case_same : (old new b : List ℕ) → new ≡ old ++ b → new ≡ old ++ (b ++ [])
case_same old new b is = is ∙ ap (λ l. old ++ l) (nothing b)

pub case_more : (old mid new b : List ℕ) (k : ℕ) → mid ≡ old ++ k ∷ [] → new ≡ mid ++ b → new ≡ old ++ k ∷ (b ++ [])
case_more old mid new b k first second = one_more old mid new (b ++ []) k first (case_same mid new b second)

-- Of a list whose channels are these, those of the send cases and of the receive cases that were added since the start, and
-- the parts that are left.
pub record Offers (s r all_s all_r : List ℕ) (all : ℕ) (now_s now_r left_s left_r : List ℕ) (left : ℕ) : Type 0 where
  pub sends : Adds s all_s now_s left_s
  pub receives : Adds r all_r now_r left_r
  pub fewer : left ≤ all

pub offers_start : (s r all_s all_r : List ℕ) (all : ℕ) → Offers s r all_s all_r all s r all_s all_r all
offers_start s r all_s all_r all = record { sends = adds_start s all_s; receives = adds_start r all_r; fewer = omega arith }

module _ (s r all_s all_r : List ℕ) (all : ℕ) (now_s now_r left_s left_r : List ℕ) (left : ℕ) (offers : Offers s r all_s all_r all now_s now_r left_s left_r left)
    (part_s part_r next_s next_r rest_s rest_r : List ℕ) (part rest : ℕ) (s_is : left_s ≡ part_s ++ rest_s) (r_is : left_r ≡ part_r ++ rest_r) (left_is : left ≡ part + rest) where
  next : next_s ≡ now_s ++ part_s → next_r ≡ now_r ++ part_r → Offers s r all_s all_r all next_s next_r rest_s rest_r rest
  next s_next r_next = record {
    sends = adds_next s all_s now_s left_s part_s next_s rest_s offers.sends s_is s_next;
    receives = adds_next r all_r now_r left_r part_r next_r rest_r offers.receives r_is r_next;
    fewer = let f = offers.fewer in omega arith;
  }

  part_fewer : part ≤ all
  part_fewer = let f = offers.fewer in omega arith

-- ---- statements

abbrev pub StatementsOffer : Statements → List ℕ → List ℕ → Statements → List ℕ → List ℕ → Type 0
StatementsOffer all s r rest now_s now_r = Offers s r (all_send all) (all_receive all) (all_parts all) now_s now_r (all_send rest) (all_receive rest) (all_parts rest)

module _ (all : Statements) (s r : List ℕ) (rest behind : List Stmt) (first : Stmt) (now_s now_r : List ℕ) (is : rest ≡ first ∷ behind) (offers : StatementsOffer all s r (statements rest) now_s now_r) where
  pub statements_next : (next_s next_r : List ℕ) → next_s ≡ now_s ++ send_channels (statement first) → next_r ≡ now_r ++ receive_channels (statement first)
      → StatementsOffer all s r (statements behind) next_s next_r
  statements_next next_s next_r s_next r_next =
      next s r (all_send all) (all_receive all) (all_parts all) now_s now_r _ _ _ offers _ _ next_s next_r _ _ (statement_parts (statement first)) _
      (ap all_send (rest_is rest behind first is)) (ap all_receive (rest_is rest behind first is)) (ap all_parts (rest_is rest behind first is)) s_next r_next

pub statements_end : (all : Statements) (s r : List ℕ) (rest : List Stmt) (now_s now_r : List ℕ) → length rest < 1 → StatementsOffer all s r (statements rest) now_s now_r
    → (now_s ≡ s ++ all_send all) × (now_r ≡ r ++ all_receive all)
statements_end all s r rest now_s now_r few offers =
    let none = ap statements (is_empty rest few) ∙ read_no_statement in
    (adds_end _ _ _ _ offers.sends (ap all_send none), adds_end _ _ _ _ offers.receives (ap all_receive none))

-- ---- cases

abbrev pub CasesOffer : Cases → List ℕ → List ℕ → Cases → List ℕ → List ℕ → Type 0
CasesOffer all s r rest now_s now_r = Offers s r (cases_send all) (cases_receive all) (cases_parts all) now_s now_r (cases_send rest) (cases_receive rest) (cases_parts rest)

record Split (first rest behind : Cases) : Type 0 where
  sends : cases_send rest ≡ cases_send first ++ cases_send behind
  receives : cases_receive rest ≡ cases_receive first ++ cases_receive behind
  parts : cases_parts rest ≡ cases_parts first + cases_parts behind

split : (first : Case) (behind : List Case) → Split (cases (first ∷ [])) (cases (first ∷ behind)) (cases behind)
unfolding cases case_before
split (c.Send chan value body) behind = record {
  sends = ap (λ l. chan ∷ (l ++ cases_send (cases behind))) (nothing (send_channels (statement body)));
  receives = ap (λ l. l ++ cases_receive (cases behind)) (nothing (receive_channels (statement body)));
  parts = omega arith;
}
split (c.Recv chan to body) behind = record {
  sends = ap (λ l. l ++ cases_send (cases behind)) (nothing (send_channels (statement body)));
  receives = ap (λ l. chan ∷ (l ++ cases_receive (cases behind))) (nothing (receive_channels (statement body)));
  parts = omega arith;
}

module _ (all : Cases) (s r : List ℕ) (rest behind : List Case) (first : Case) (now_s now_r : List ℕ) (is : rest ≡ first ∷ behind) (offers : CasesOffer all s r (cases rest) now_s now_r) where
  pub cases_next : (next_s next_r : List ℕ) → next_s ≡ now_s ++ cases_send (cases (first ∷ [])) → next_r ≡ now_r ++ cases_receive (cases (first ∷ []))
      → CasesOffer all s r (cases behind) next_s next_r
  cases_next next_s next_r s_next r_next =
      let parts = split first behind in
      next s r (cases_send all) (cases_receive all) (cases_parts all) now_s now_r _ _ _ offers _ _ next_s next_r _ _ (cases_parts (cases (first ∷ []))) _
      (ap (λ l. cases_send (cases l)) is ∙ parts.sends) (ap (λ l. cases_receive (cases l)) is ∙ parts.receives) (ap (λ l. cases_parts (cases l)) is ∙ parts.parts) s_next r_next

  pub case_fewer : cases_parts (cases (first ∷ [])) ≤ cases_parts all
  case_fewer = let e = ap (λ l. cases_parts (cases l)) is ∙ (split first behind).parts in let f = offers.fewer in omega arith

pub cases_end : (all : Cases) (s r : List ℕ) (rest : List Case) (now_s now_r : List ℕ) → length rest < 1 → CasesOffer all s r (cases rest) now_s now_r
    → (now_s ≡ s ++ cases_send all) × (now_r ≡ r ++ cases_receive all)
cases_end all s r rest now_s now_r few offers =
    let none = ap cases (is_empty rest few) ∙ read_no_case in
    (adds_end _ _ _ _ offers.sends (ap cases_send none), adds_end _ _ _ _ offers.receives (ap cases_receive none))

-- ---- arms

abbrev pub ArmsOffer : Arms → List ℕ → List ℕ → Arms → List ℕ → List ℕ → Type 0
ArmsOffer all s r rest now_s now_r = Offers s r (arms_send all) (arms_receive all) (arms_parts all) now_s now_r (arms_send rest) (arms_receive rest) (arms_parts rest)

module _ (all : Arms) (s r : List ℕ) (rest behind : List Arm) (first : Arm) (now_s now_r : List ℕ) (is : rest ≡ first ∷ behind) (offers : ArmsOffer all s r (arms rest) now_s now_r) where
  pub arms_next : (next_s next_r : List ℕ) → next_s ≡ now_s ++ send_channels (statement first.body) → next_r ≡ now_r ++ receive_channels (statement first.body)
      → ArmsOffer all s r (arms behind) next_s next_r
  arms_next next_s next_r s_next r_next =
      next s r (arms_send all) (arms_receive all) (arms_parts all) now_s now_r _ _ _ offers _ _ next_s next_r _ _ (1 + length first.values + statement_parts (statement first.body)) _
      (ap arms_send (arms_are rest behind first is)) (ap arms_receive (arms_are rest behind first is)) (ap arms_parts (arms_are rest behind first is)) s_next r_next

pub arms_end : (all : Arms) (s r : List ℕ) (rest : List Arm) (now_s now_r : List ℕ) → length rest < 1 → ArmsOffer all s r (arms rest) now_s now_r
    → (now_s ≡ s ++ arms_send all) × (now_r ≡ r ++ arms_receive all)
arms_end all s r rest now_s now_r few offers =
    let none = ap arms (is_empty rest few) ∙ read_no_arm in
    (adds_end _ _ _ _ offers.sends (ap arms_send none), adds_end _ _ _ _ offers.receives (ap arms_receive none))
