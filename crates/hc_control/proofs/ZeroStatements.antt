-- In a program in which no loop has a body that may take no clock, a statement that isn't one that may take no clock takes one in
-- every world.
use Rattle.std.proofs.Common.{◌≡◌, ℕ, ◌+◌, Bool, true, false, not, ◌&&◌, ◌||◌, if◌then◌else◌, None, refl}
use Rattle.hc_num.specs.Number.{Number}
use Rattle.hc_tree.specs.declared.place.Place.{Place}
use Rattle.hc_core.specs.Program as p
use Rattle.hc_core.specs.Program.{Expression, Constant, Register, Element, Word, Signal, Input, Unary, Binary, Slice, Choice, Statement, Statements, stop, ◌⨾◌}
use Rattle.hc_core.specs.Zero.{zero, all_zero, some_zero, has_default, always_holds}
use Rattle.hc_meaning.specs.Residual.{Residual, PrialtElse, Then, While, Branches, residual, sequence, sequence_behind, branches_left, cases_left, arms_left}
use Rattle.hc_meaning.specs.Value.{World, number_of, holds}
use Rattle.hc_meaning.specs.Control.{resolved, all_resolved, arm_resolved, default_resolved, some_ready, chooses, is_chosen, is_skip, followed_by, looped, all_ended, together}
use Rattle.hc_core.specs.FirstPlace.{first_where, first_in, first_in_cases, first_in_arms}
use Rattle.hc_core.specs.Rules.{endless, nameless}
use Rattle.hc_control.proofs.NoneFound.{none_first, none_here, unbroken}
use Rattle.hc_control.proofs.Steps.{and_false}

-- ---- bits

pub not_false : (a : Bool) → not a ≡ false → a ≡ true
not_false true h = refl
not_false false h = absurd cc

pub neither : (a b : Bool) → (a || b) ≡ false → (a ≡ false) × (b ≡ false)
neither true b h = absurd cc
neither false b h = (refl, h)

other_holds : (a b : Bool) → (a || b) ≡ true → a ≡ false → b ≡ true
other_holds true b h is = absurd cc
other_holds false b h is = h

not_both_and : (a : Bool) → (a && true) ≡ false → a ≡ false
not_both_and true h = absurd cc
not_both_and false h = refl

-- two bits don't both hold, where that is so of two others and each doesn't hold where its other doesn't
carried : (a b x y : Bool) → (a && b) ≡ false → (a ≡ false → x ≡ false) → (b ≡ false → y ≡ false) → (x && y) ≡ false
carried true b x y h first second = rw (second h) (and_false x)
carried false b x y h first second = rw (first refl) refl

-- the same with the first of three bits put behind the second
carried_behind : (a z y more : Bool) → (a && (z && more)) ≡ false → (z ≡ false → y ≡ false) → ((a && y) && more) ≡ false
carried_behind true true y more h is = rw h (and_false y)
carried_behind true false y more h is = rw (is refl) refl
carried_behind false z y more h is = refl

-- ---- control

-- a choice takes a clock where the part that is chosen takes one
choice_takes : (b : Bool) (x y : Residual) → (b ≡ true → is_skip x ≡ false) → (b ≡ false → is_skip y ≡ false) → is_skip (if b then x else y) ≡ false
choice_takes true x y first second = first refl
choice_takes false x y first second = second refl

over_in_order : (x y b : Residual) (over : Bool) → over ≡ is_skip x → is_skip (followed_by x y b) ≡ (is_skip x && is_skip y)
over_in_order x y b true is = rw (← is) refl
over_in_order x y b false is = rw (← is) refl

-- one more part of a sequence
next_takes : (x y b : Residual) (z more : Bool) → (is_skip x && (z && more)) ≡ false → (z ≡ false → is_skip y ≡ false)
    → (is_skip (followed_by x y b) && more) ≡ false
next_takes x y b z more h is = rw (over_in_order x y b (is_skip x) refl) (carried_behind (is_skip x) z (is_skip y) more h is)

loop_takes : (goes_on : Bool) (x loop : Residual) → goes_on ≡ true → is_skip x ≡ false → is_skip (looped goes_on x loop) ≡ false
loop_takes goes_on x loop is takes = rw (is, takes) refl

branches_take : (branches : Branches) → all_ended branches ≡ false → is_skip (together branches) ≡ false
branches_take branches takes = rw takes refl

-- a constant that isn't 0 holds in every world
always : (w : World) (c : Expression) → always_holds c ≡ true → holds (number_of w c) ≡ true
always w (Constant n) h = h
always w (Register k) h = absurd cc
always w (Element k i) h = absurd cc
always w (Word k i) h = absurd cc
always w (Signal k) h = absurd cc
always w (Input k) h = absurd cc
always w (Unary op a) h = absurd cc
always w (Binary op a b) h = absurd cc
always w (Slice a high low) h = absurd cc
always w (Choice c a b) h = absurd cc

-- ---- statements

mutual
  unfolding residual sequence sequence_behind branches_left cases_left arms_left

  pub takes_a_clock : (s : Statement) → first_where endless s ≡ None → zero s ≡ false → (w : World) (n : ℕ) → is_skip (resolved w (residual s n).0) ≡ false
  takes_a_clock p.Skip none is w n = absurd cc
  takes_a_clock (p.Assign place t e) none is w n = refl
  takes_a_clock (p.Delay place) none is w n = refl
  takes_a_clock (p.Send place chan e) none is w n = refl
  takes_a_clock (p.Receive place chan t) none is w n = refl
  takes_a_clock (p.Prialt place cases) none is w n = refl
  takes_a_clock (p.PrialtElse place cases rest) none is w n =
      let left = cases_left cases (n + 1) in
      choice_takes (some_ready w left.0) (PrialtElse n left.0 (residual rest left.1).0) (resolved w (residual rest left.1).0) (λ ready. refl)
      (λ idle. takes_a_clock rest (none_first (first_in_cases endless cases) (first_where endless rest) none).1 is w left.1)
  takes_a_clock (p.Seq place parts) none is w n = sequence_takes parts none is w n
  takes_a_clock (p.Par place branches) none is w n = branches_take (all_resolved w (branches_left branches n).0) (a_branch_takes branches none is w n)
  takes_a_clock (p.If place c a b) none is w n =
      let both = none_first (first_where endless a) (first_where endless b) none in
      let sides = neither (zero a) (zero b) is in
      let first = residual a (n + 1) in
      choice_takes (holds (number_of w c)) (resolved w first.0) (resolved w (residual b first.1).0) (λ taken. takes_a_clock a both.0 sides.0 w (n + 1))
      (λ taken. takes_a_clock b both.1 sides.1 w first.1)
  takes_a_clock (p.While place c body) none is w n =
      let within = none_here (nameless (zero body)) place (first_where endless body) none in
      let x = (residual body (n + 1)).0 in
      loop_takes (holds (number_of w c)) (resolved w x) (While n c x) (always w c (not_false (always_holds c) is))
      (takes_a_clock body within.1 (unbroken (zero body) within.0) w (n + 1))
  takes_a_clock (p.DoWhile place body c) none is w n =
      let within = none_here (nameless (zero body)) place (first_where endless body) none in
      let x = residual body n in
      loop_takes true (resolved w x.0) (While x.1 c x.0) refl (takes_a_clock body within.1 (unbroken (zero body) within.0) w n)
  takes_a_clock (p.Switch place e arms) none is w n =
      let each = neither (some_zero arms) (not (has_default arms)) is in
      let all = (arms_left arms (n + 1)).0 in
      choice_takes (is_chosen (number_of w e) all) (arm_resolved w (number_of w e) all) (default_resolved w all) (λ chosen. arm_takes arms none each.0 w (number_of w e) (n + 1) chosen)
      (λ chosen. default_takes arms none each.0 (not_false (has_default arms) each.1) w (n + 1))

  sequence_takes : (parts : Statements) → first_in endless parts ≡ None → all_zero parts ≡ false → (w : World) (n : ℕ) → is_skip (resolved w (sequence parts n).0) ≡ false
  sequence_takes stop none is w n = absurd cc
  sequence_takes (first ⨾ rest) none is w n =
      let both = none_first (first_where endless first) (first_in endless rest) none in
      let x = residual first n in
      behind_takes rest both.1 w x.0 (carried (zero first) (all_zero rest) (is_skip (resolved w x.0)) (all_zero rest) is
      (λ takes. takes_a_clock first both.0 takes w n) (λ takes. takes)) x.1

  -- a part that was read takes a clock, or one that is left
  behind_takes : (rest : Statements) → first_in endless rest ≡ None → (w : World) (done : Residual) → (is_skip (resolved w done) && all_zero rest) ≡ false → (n : ℕ)
      → is_skip (resolved w (sequence_behind done rest n).0) ≡ false
  behind_takes stop none w done is n = not_both_and (is_skip (resolved w done)) is
  behind_takes (next ⨾ rest) none w done is n =
      let both = none_first (first_where endless next) (first_in endless rest) none in
      let x = residual next n in
      behind_takes rest both.1 w (Then done x.0)
      (next_takes (resolved w done) (resolved w x.0) x.0 (zero next) (all_zero rest) is (λ takes. takes_a_clock next both.0 takes w n)) x.1

  a_branch_takes : (branches : Statements) → first_in endless branches ≡ None → all_zero branches ≡ false → (w : World) (n : ℕ)
      → all_ended (all_resolved w (branches_left branches n).0) ≡ false
  a_branch_takes stop none is w n = absurd cc
  a_branch_takes (first ⨾ rest) none is w n =
      let both = none_first (first_where endless first) (first_in endless rest) none in
      let x = residual first n in
      carried (zero first) (all_zero rest) (is_skip (resolved w x.0)) (all_ended (all_resolved w (branches_left rest x.1).0)) is
      (λ takes. takes_a_clock first both.0 takes w n) (λ takes. a_branch_takes rest both.1 takes w x.1)

  -- the arm that a selector's number chooses
  arm_takes : (arms : p.Arms) → first_in_arms endless arms ≡ None → some_zero arms ≡ false → (w : World) (v : Number) (n : ℕ)
      → is_chosen v (arms_left arms n).0 ≡ true → is_skip (arm_resolved w v (arms_left arms n).0) ≡ false
  arm_takes p.no_arm none is w v n chosen = absurd cc
  arm_takes (p.arm values other body rest) none is w v n chosen =
      let both = none_first (first_where endless body) (first_in_arms endless rest) none in
      let each = neither (zero body) (some_zero rest) is in
      let x = residual body n in
      let more = (arms_left rest x.1).0 in
      choice_takes (chooses v values) (resolved w x.0) (arm_resolved w v more) (λ here. takes_a_clock body both.0 each.0 w n)
      (λ here. arm_takes rest both.1 each.1 w v x.1 (other_holds (chooses v values) (is_chosen v more) chosen here))

  default_takes : (arms : p.Arms) → first_in_arms endless arms ≡ None → some_zero arms ≡ false → has_default arms ≡ true → (w : World) (n : ℕ)
      → is_skip (default_resolved w (arms_left arms n).0) ≡ false
  default_takes p.no_arm none is has w n = absurd cc
  default_takes (p.arm values other body rest) none is has w n =
      let both = none_first (first_where endless body) (first_in_arms endless rest) none in
      let each = neither (zero body) (some_zero rest) is in
      let x = residual body n in
      choice_takes other (resolved w x.0) (default_resolved w (arms_left rest x.1).0) (λ here. takes_a_clock body both.0 each.0 w n)
      (λ here. default_takes rest both.1 each.1 (other_holds other (has_default rest) has here) w x.1)

-- ---- loops

-- the body of a loop takes a clock
pub loops_take_clocks : (place : Place) (c : Expression) (body : Statement) → first_where endless (p.While place c body) ≡ None → (w : World) (n : ℕ)
    → is_skip (resolved w (residual body n).0) ≡ false
loops_take_clocks place c body none =
    let within = none_here (nameless (zero body)) place (first_where endless body) none in
    takes_a_clock body within.1 (unbroken (zero body) within.0)

-- the body of a loop that tests its condition behind the body takes a clock
pub do_loops_take_clocks : (place : Place) (body : Statement) (c : Expression) → first_where endless (p.DoWhile place body c) ≡ None → (w : World) (n : ℕ)
    → is_skip (resolved w (residual body n).0) ≡ false
do_loops_take_clocks place body c none =
    let within = none_here (nameless (zero body)) place (first_where endless body) none in
    takes_a_clock body within.1 (unbroken (zero body) within.0)
