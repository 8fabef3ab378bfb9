-- Statements that are typed over objects are so over more objects.
use Rattle.std.proofs.Common.{◌≡◌, ℕ, List, ◌++◌, Bool, sym, subst}
use Rattle.hc_core.specs.Program.{Expression, Target, ToRegister, ToElement, ToWord, ToSignal, Statement, Skip, Assign, Delay, Send, Receive, Prialt, PrialtElse, Seq, Par, If, While, DoWhile, Switch, Statements, stop, ◌⨾◌, Cases, no_case, send_case, receive_case, Arms, no_arm, arm}
use Rattle.hc_core.specs.Typed.{kinds_of, HasSomeType}
use Rattle.hc_core.specs.Sound.{IsTarget, Fits, Sends, Receives, IsTyped, AllTyped, CasesTyped, ArmsTyped}
use Rattle.hc_core.specs.declared.object.Kind.{Kind}
use Rattle.hc_core.specs.declared.object.Object.{Object}
use Rattle.hc_scope.specs.Sound.{Grows}
use Rattle.hc_scope.proofs.Longer.{kept_kind, kinds_behind, longer_typed}

pub longer_some_type : (kinds more : List Kind) (e : Expression) → HasSomeType kinds e → HasSomeType (kinds ++ more) e
longer_some_type kinds more e (w, s, t) = (w, s, longer_typed kinds more e w s t)

pub longer_target : (kinds more : List Kind) (t : Target) (w : ℕ) (s : Bool) → IsTarget kinds t w s → IsTarget (kinds ++ more) t w s
longer_target kinds more (ToRegister k) w s (init, is) = (init, kept_kind kinds more k _ is)
longer_target kinds more (ToElement k i) w s (n, init, is, t) = (n, init, kept_kind kinds more k _ is, longer_typed kinds more i _ _ t)
longer_target kinds more (ToWord k i) w s (n, init, is, t) = (n, init, kept_kind kinds more k _ is, longer_typed kinds more i _ _ t)
longer_target kinds more (ToSignal k) w s (unset, is) = (unset, kept_kind kinds more k _ is)

pub longer_fits : (kinds more : List Kind) (t : Target) (e : Expression) → Fits kinds t e → Fits (kinds ++ more) t e
longer_fits kinds more t e f = record {
  width = f.width;
  signed = f.signed;
  target = longer_target kinds more t f.width f.signed f.target;
  value = longer_typed kinds more e f.width f.signed f.value;
}

pub longer_sends : (kinds more : List Kind) (chan : ℕ) (e : Expression) → Sends kinds chan e → Sends (kinds ++ more) chan e
longer_sends kinds more chan e f = record {
  width = f.width;
  signed = f.signed;
  queue = f.queue;
  chan_is = kept_kind kinds more chan _ f.chan_is;
  value = longer_typed kinds more e f.width f.signed f.value;
}

pub longer_receives : (kinds more : List Kind) (chan : ℕ) (t : Target) → Receives kinds chan t → Receives (kinds ++ more) chan t
longer_receives kinds more chan t f = record {
  width = f.width;
  signed = f.signed;
  queue = f.queue;
  chan_is = kept_kind kinds more chan _ f.chan_is;
  kept = f.kept;
  target = longer_target kinds more t f.width f.signed f.target;
}

mutual
  pub longer_statement : (kinds more : List Kind) (x : Statement) → IsTyped kinds x → IsTyped (kinds ++ more) x
  longer_statement kinds more Skip is = tt
  longer_statement kinds more (Assign place t e) is = longer_fits kinds more t e is
  longer_statement kinds more (Delay place) is = tt
  longer_statement kinds more (Send place chan e) is = longer_sends kinds more chan e is
  longer_statement kinds more (Receive place chan t) is = longer_receives kinds more chan t is
  longer_statement kinds more (Prialt place cases) is = longer_cases kinds more cases is
  longer_statement kinds more (PrialtElse place cases rest) (is, last) = (longer_cases kinds more cases is, longer_statement kinds more rest last)
  longer_statement kinds more (Seq place parts) is = longer_statements kinds more parts is
  longer_statement kinds more (Par place branches) is = longer_statements kinds more branches is
  longer_statement kinds more (If place c a b) (x, y, z) = (longer_some_type kinds more c x, longer_statement kinds more a y, longer_statement kinds more b z)
  longer_statement kinds more (While place c body) (x, y) = (longer_some_type kinds more c x, longer_statement kinds more body y)
  longer_statement kinds more (DoWhile place body c) (x, y) = (longer_some_type kinds more c x, longer_statement kinds more body y)
  longer_statement kinds more (Switch place e arms) (w, s, t, is) = (w, s, longer_typed kinds more e w s t, longer_arms kinds more w s arms is)

  pub longer_statements : (kinds more : List Kind) (x : Statements) → AllTyped kinds x → AllTyped (kinds ++ more) x
  longer_statements kinds more stop is = tt
  longer_statements kinds more (first ⨾ rest) (x, y) = (longer_statement kinds more first x, longer_statements kinds more rest y)

  pub longer_cases : (kinds more : List Kind) (x : Cases) → CasesTyped kinds x → CasesTyped (kinds ++ more) x
  longer_cases kinds more no_case is = tt
  longer_cases kinds more (send_case chan e first rest) (x, y, z) =
      (longer_sends kinds more chan e x, longer_statement kinds more first y, longer_cases kinds more rest z)
  longer_cases kinds more (receive_case chan t first rest) (x, y, z) =
      (longer_receives kinds more chan t x, longer_statement kinds more first y, longer_cases kinds more rest z)

  pub longer_arms : (kinds more : List Kind) (w : ℕ) (s : Bool) (x : Arms) → ArmsTyped kinds w s x → ArmsTyped (kinds ++ more) w s x
  longer_arms kinds more w s no_arm is = tt
  longer_arms kinds more w s (arm values other body rest) (x, y, z) = (x, longer_statement kinds more body y, longer_arms kinds more w s rest z)

-- ---- objects behind those before

grown_kinds : (old new : List Object) → (g : Grows old new) → kinds_of old ++ kinds_of g.more ≡ kinds_of new
grown_kinds old new g = rw g.front (sym (kinds_behind old g.more))

pub grown_some_type : (old new : List Object) (e : Expression) → Grows old new → HasSomeType (kinds_of old) e → HasSomeType (kinds_of new) e
grown_some_type old new e g is =
    subst (λ (kinds : List Kind). HasSomeType kinds e) (grown_kinds old new g) (longer_some_type (kinds_of old) (kinds_of g.more) e is)

pub grown_target : (old new : List Object) (t : Target) (w : ℕ) (s : Bool) → Grows old new → IsTarget (kinds_of old) t w s → IsTarget (kinds_of new) t w s
grown_target old new t w s g is =
    subst (λ (kinds : List Kind). IsTarget kinds t w s) (grown_kinds old new g) (longer_target (kinds_of old) (kinds_of g.more) t w s is)

pub grown_sends : (old new : List Object) (chan : ℕ) (e : Expression) → Grows old new → Sends (kinds_of old) chan e → Sends (kinds_of new) chan e
grown_sends old new chan e g is =
    subst (λ (kinds : List Kind). Sends kinds chan e) (grown_kinds old new g) (longer_sends (kinds_of old) (kinds_of g.more) chan e is)

pub grown_receives : (old new : List Object) (chan : ℕ) (t : Target) → Grows old new → Receives (kinds_of old) chan t → Receives (kinds_of new) chan t
grown_receives old new chan t g is =
    subst (λ (kinds : List Kind). Receives kinds chan t) (grown_kinds old new g) (longer_receives (kinds_of old) (kinds_of g.more) chan t is)

pub grown_statement : (old new : List Object) (x : Statement) → Grows old new → IsTyped (kinds_of old) x → IsTyped (kinds_of new) x
grown_statement old new x g is =
    subst (λ (kinds : List Kind). IsTyped kinds x) (grown_kinds old new g) (longer_statement (kinds_of old) (kinds_of g.more) x is)

pub grown_statements : (old new : List Object) (x : Statements) → Grows old new → AllTyped (kinds_of old) x → AllTyped (kinds_of new) x
grown_statements old new x g is =
    subst (λ (kinds : List Kind). AllTyped kinds x) (grown_kinds old new g) (longer_statements (kinds_of old) (kinds_of g.more) x is)

pub grown_cases : (old new : List Object) (x : Cases) → Grows old new → CasesTyped (kinds_of old) x → CasesTyped (kinds_of new) x
grown_cases old new x g is =
    subst (λ (kinds : List Kind). CasesTyped kinds x) (grown_kinds old new g) (longer_cases (kinds_of old) (kinds_of g.more) x is)

pub grown_arms : (old new : List Object) (w : ℕ) (s : Bool) (x : Arms) → Grows old new → ArmsTyped (kinds_of old) w s x → ArmsTyped (kinds_of new) w s x
grown_arms old new w s x g is =
    subst (λ (kinds : List Kind). ArmsTyped kinds w s x) (grown_kinds old new g) (longer_arms (kinds_of old) (kinds_of g.more) w s x is)
