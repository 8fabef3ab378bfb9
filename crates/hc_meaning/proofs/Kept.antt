-- What is left of a statement whose loops wait has loops that wait.
use Rattle.std.proofs.Common.{◌≡◌, ◌⊎◌, inl, inr}
use Rattle.hc_meaning.specs.Residual.{Residual, Skip, Act, Prialt, PrialtElse, Then, Par, If, While, DoWhile, Switch, Branches, ended, ◌∥◌, Cases, no_case, case_of, Arms, no_arm, arm}
use Rattle.hc_meaning.proofs.Sets.{Waits, AllWait, CasesWait, ArmsWait, From, AllFrom, CaseFrom, ArmFrom}

branch_waits : (x p : Residual) → (From x p → Waits p) → From x p ⊎ (p ≡ Skip) → Waits p
branch_waits x p f (inl d) = f d
branch_waits x p f (inr e) = rw e tt

mutual
  pub from_waits : (s r : Residual) → From s r → Waits s → Waits r
  from_waits Skip r d l = absurd d
  from_waits (Act n a) r (inl e) l = rw e tt
  from_waits (Act n a) r (inr e) l = rw e tt
  from_waits (Prialt n cases) r (inl e) l = rw e l
  from_waits (Prialt n cases) r (inr d) l = case_waits cases r d l
  from_waits (PrialtElse n cases other) r (inl d) l = case_waits cases r d l.0
  from_waits (PrialtElse n cases other) r (inr d) l = from_waits other r d l.1
  from_waits (Then a b) r (inl d) l = rw d.2 (from_waits a d.0 d.1 l.0, l.1)
  from_waits (Then a b) r (inr d) l = from_waits b r d l.1
  from_waits (Par bs) r d l = rw d.2 (all_wait bs d.0 d.1 l)
  from_waits (If n c a b) r (inl d) l = from_waits a r d l.0
  from_waits (If n c a b) r (inr d) l = from_waits b r d l.1
  from_waits (While n c body) r d l = rw d.2 (from_waits body d.0 d.1 l.1, l)
  from_waits (DoWhile body n c) r d l = rw d.2 (from_waits body d.0 d.1 l.1, l)
  from_waits (Switch n e arms) r d l = arm_waits arms r d l

  all_wait : (bs rs : Branches) → AllFrom bs rs → AllWait bs → AllWait rs
  all_wait ended rs d l = rw d tt
  all_wait (x ∥ rest) rs d l = rw d.4 (branch_waits x d.0 (λ f. from_waits x d.0 f l.0) d.2, all_wait rest d.1 d.3 l.1)

  case_waits : (cases : Cases) (r : Residual) → CaseFrom cases r → CasesWait cases → Waits r
  case_waits no_case r d l = absurd d
  case_waits (case_of n offer body rest) r (inl e) l = rw e l.0
  case_waits (case_of n offer body rest) r (inr (inl d)) l = from_waits body r d l.0
  case_waits (case_of n offer body rest) r (inr (inr d)) l = case_waits rest r d l.1

  arm_waits : (arms : Arms) (r : Residual) → ArmFrom arms r → ArmsWait arms → Waits r
  arm_waits no_arm r d l = absurd d
  arm_waits (arm values other body rest) r (inl d) l = from_waits body r d l.0
  arm_waits (arm values other body rest) r (inr d) l = arm_waits rest r d l.1
