-- What can't be passed without a clock isn't.
use Rattle.std.proofs.Common.{◌≡◌, Bool, true, false, ◌&&◌, ◌||◌, not, refl, ap, ◌∙◌}
use Rattle.std.specs.Prelude.{if◌then◌else◌}
use Rattle.hc_num.specs.Number.{Number}
use Rattle.hc_core.specs.Program.{Expression, Constant, Register, Element, Word, Signal, Input, Unary, Binary, Slice, Choice}
use Rattle.hc_core.specs.Zero.{always_holds}
use Rattle.hc_meaning.specs.Residual.{Residual, Skip, Act, Prialt, PrialtElse, Then, Par, If, While, DoWhile, Switch, Branches, ended, ◌∥◌, Arms, no_arm, arm}
use Rattle.hc_meaning.specs.Value.{World, number_of, holds}
use Rattle.hc_meaning.specs.Control.{resolved, all_resolved, arm_resolved, default_resolved, is_skip, all_ended, followed_by, looped, together, some_ready, chooses, is_chosen}
use Rattle.hc_meaning.proofs.Sets.{zero, all_zero, some_zero, has_default, Waits, AllWait, ArmsWait}
use Rattle.hc_meaning.proofs.Every.{neither_left, neither_right, not_false}

pub skip_is : (r : Residual) → is_skip r ≡ true → r ≡ Skip
skip_is Skip h = refl
skip_is (Act n a) h = absurd cc
skip_is (Prialt n cases) h = absurd cc
skip_is (PrialtElse n cases other) h = absurd cc
skip_is (Then a b) h = absurd cc
skip_is (Par branches) h = absurd cc
skip_is (If n c a b) h = absurd cc
skip_is (While n c body) h = absurd cc
skip_is (DoWhile body n c) h = absurd cc
skip_is (Switch n e arms) h = absurd cc

pub followed_skip : (x y b : Residual) → is_skip (followed_by x y b) ≡ (is_skip x && is_skip y)
followed_skip x y b = by (is_skip x)
  where
    by : (k : Bool) → is_skip (if k then y else Then x b) ≡ (k && is_skip y)
    by true = refl
    by false = refl

pub together_skip : (bs : Branches) → is_skip (together bs) ≡ all_ended bs
together_skip bs = by (all_ended bs)
  where
    by : (k : Bool) → is_skip (if k then Skip else Par bs) ≡ k
    by true = refl
    by false = refl

pub looped_skip : (h : Bool) (x l : Residual) → is_skip x ≡ false → is_skip (looped h x l) ≡ not h
looped_skip h x l e = rw e (by h)
  where
    by : (k : Bool) → is_skip (if k && true then Then x l else Skip) ≡ not k
    by true = refl
    by false = refl

always : (w : World) (c : Expression) → always_holds c ≡ true → holds (number_of w c) ≡ true
always w (Constant n) h = h
always w (Register k) h = absurd cc
always w (Element k i) h = absurd cc
always w (Word k i) h = absurd cc
always w (Signal k) h = absurd cc
always w (Input k) h = absurd cc
always w (Unary op a) h = absurd cc
always w (Binary op a b) h = absurd cc
always w (Slice a x y) h = absurd cc
always w (Choice c a b) h = absurd cc

one_false : (z y a b : Bool) → (z ≡ false → a ≡ false) → (y ≡ false → b ≡ false) → (z && y) ≡ false → (a && b) ≡ false
one_false false y a b p q h = rw (p refl) refl
one_false true y true b p q h = q h
one_false true y false b p q h = refl

if_waits : (b : Bool) (x y : Residual) → is_skip x ≡ false → is_skip y ≡ false → is_skip (if b then x else y) ≡ false
if_waits true x y p q = p
if_waits false x y p q = q

chosen : (b : Bool) (x y : Residual) → (b ≡ true → is_skip x ≡ false) → is_skip y ≡ false → is_skip (if b then x else y) ≡ false
chosen true x y p q = p refl
chosen false x y p q = q

arm_step : (b l : Bool) (x y : Residual) → is_skip x ≡ false → (l ≡ true → is_skip y ≡ false) → (b || l) ≡ true → is_skip (if b then x else y) ≡ false
arm_step true l x y p q h = p
arm_step false l x y p q h = q h

mutual
  pub waits : (w : World) (r : Residual) → Waits r → zero r ≡ false → is_skip (resolved w r) ≡ false
  waits w Skip l h = absurd cc
  waits w (Act n a) l h = refl
  waits w (Prialt n cases) l h = refl
  waits w (PrialtElse n cases other) l h = if_waits (some_ready w cases) (PrialtElse n cases other) (resolved w other) refl (waits w other l.1 h)
  waits w (Then a b) l h = followed_skip (resolved w a) (resolved w b) b ∙ one_false (zero a) (zero b) (is_skip (resolved w a)) (is_skip (resolved w b)) (waits w a l.0) (waits w b l.1) h
  waits w (Par branches) l h = together_skip (all_resolved w branches) ∙ all_wait w branches l h
  waits w (If n c a b) l h =
      if_waits (holds (number_of w c)) (resolved w a) (resolved w b) (waits w a l.0 (neither_left (zero a) (zero b) h)) (waits w b l.1 (neither_right (zero a) (zero b) h))
  waits w (While n c body) l h =
      looped_skip (holds (number_of w c)) (resolved w body) (While n c body) (waits w body l.1 l.0) ∙ ap not (always w c (not_false (always_holds c) h))
  waits w (DoWhile body n c) l h = looped_skip true (resolved w body) (While n c body) (waits w body l.1 l.0)
  waits w (Switch n e arms) l h =
      chosen (is_chosen (number_of w e) arms) (arm_resolved w (number_of w e) arms) (default_resolved w arms)
      (arm_waits w (number_of w e) arms l (neither_left (some_zero arms) (not (has_default arms)) h))
      (default_waits w arms l (neither_left (some_zero arms) (not (has_default arms)) h) (not_false (has_default arms) (neither_right (some_zero arms) (not (has_default arms)) h)))

  all_wait : (w : World) (bs : Branches) → AllWait bs → all_zero bs ≡ false → all_ended (all_resolved w bs) ≡ false
  all_wait w ended l h = absurd cc
  all_wait w (first ∥ rest) l h = one_false (zero first) (all_zero rest) (is_skip (resolved w first)) (all_ended (all_resolved w rest)) (waits w first l.0) (all_wait w rest l.1) h

  arm_waits : (w : World) (v : Number) (arms : Arms) → ArmsWait arms → some_zero arms ≡ false → is_chosen v arms ≡ true → is_skip (arm_resolved w v arms) ≡ false
  arm_waits w v no_arm l z h = absurd cc
  arm_waits w v (arm values other body rest) l z h =
      arm_step (chooses v values) (is_chosen v rest) (resolved w body) (arm_resolved w v rest) (waits w body l.0 (neither_left (zero body) (some_zero rest) z))
      (arm_waits w v rest l.1 (neither_right (zero body) (some_zero rest) z)) h

  default_waits : (w : World) (arms : Arms) → ArmsWait arms → some_zero arms ≡ false → has_default arms ≡ true → is_skip (default_resolved w arms) ≡ false
  default_waits w no_arm l z h = absurd cc
  default_waits w (arm values other body rest) l z h =
      arm_step other (has_default rest) (resolved w body) (default_resolved w rest) (waits w body l.0 (neither_left (zero body) (some_zero rest) z))
      (default_waits w rest l.1 (neither_right (zero body) (some_zero rest) z)) h

-- a statement of which nothing is left was one that may take no clock
pub passed_zero : (w : World) (r : Residual) → Waits r → is_skip (resolved w r) ≡ true → zero r ≡ true
passed_zero w r l e = by (zero r) refl
  where
    by : (z : Bool) → zero r ≡ z → zero r ≡ true
    by true h = h
    by false h = absurd (let n = waits w r l h in cc)
