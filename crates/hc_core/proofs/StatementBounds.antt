-- The weight of a statement is at most 2^25 for each of its parts, and it has at most 4 flip-flops for each.
use Rattle.std.proofs.Common.{◌≡◌, ℕ, ◌+◌, ◌*◌, ◌^◌, ◌≤◌, List, Bool, true, false, Some, length, arith}
use Rattle.std.specs.Prelude.{slice_get}
use Rattle.std.proofs.lemmas.Nat.{mul-le}
use Rattle.hc_num.specs.Index.{index_width}
use Rattle.hc_core.specs.Program.{Expression, Target, ToRegister, ToElement, ToWord, ToSignal, Statement, Skip, Assign, Delay, Send, Receive, Prialt, PrialtElse, Seq, Par, If, While, DoWhile, Switch, Statements, stop, ◌⨾◌, Cases, no_case, send_case, receive_case, Arms, no_arm, arm}
use Rattle.hc_core.specs.Typed.{HasSomeType, width_of}
use Rattle.hc_core.specs.Parts.{expression_parts, target_parts, statement_parts, all_parts, cases_parts, arms_parts}
use Rattle.hc_core.specs.Sound.{IsChannel, IsTarget, Sends, Receives, IsTyped, AllTyped, CasesTyped, ArmsTyped}
use Rattle.hc_core.specs.Weight.{is_constant, expression_weight, condition_weight, to_element_weight, to_word_weight, target_weight, channel_weight, statement_weight, list_weight, cases_weight, arms_weight, statement_flops, list_flops, cases_flops, arms_flops}
use Rattle.hc_core.specs.Weigh.{AreSound}
use Rattle.hc_core.specs.declared.object.Kind.{Kind}
use Rattle.hc_core.specs.declared.object.Kind.TheVariants as kind
use Rattle.hc_core.proofs.Types.{widths_are}
use Rattle.hc_core.proofs.Bounds.{narrow, light, index_bound, few_words, of_type, array_at, ram_at}

to_element_light : (fixed : Bool) (n w : ℕ) → n ≤ 4096 → w ≤ 128 → to_element_weight fixed n w ≤ 30000000
to_element_light true n w h k = omega arith
to_element_light false n w h k =
    let a = index_bound n in
    let p = mul-le n (index_width n + 2 * w + 4) 4096 4357 h (omega arith) in
    omega arith

to_word_light : (n w : ℕ) → n ≤ 65536 → w ≤ 128 → to_word_weight n w ≤ 30000000
to_word_light n w h k = let a = index_bound n in omega arith

pub target_light : (kinds : List Kind) → AreSound kinds → (t : Target) (w : ℕ) (s : Bool) → IsTarget kinds t w s → target_weight kinds t ≤ 2 ^ 25 * target_parts t
target_light kinds sound (ToRegister k) w s (init, is) =
    let h = (of_type w s init (sound k (kind.Reg w s init) is)).most in
    rw is (omega arith)
target_light kinds sound (ToElement k i) w s (n, init, is, t) =
    let object = array_at kinds sound k w n s init is in
    let own = to_element_light (is_constant i) n w object.most object.width.most in
    let rest = light kinds sound i _ _ t in
    rw is (omega arith)
target_light kinds sound (ToWord k i) w s (n, init, is, t) =
    let object = ram_at kinds sound k w n s init is in
    let own = to_word_light n w (few_words w n object.width.least object.bits) object.width.most in
    let rest = light kinds sound i _ _ t in
    rw is (omega arith)
target_light kinds sound (ToSignal k) w s (unset, is) =
    let h = (of_type w s unset (sound k (kind.Signal w s unset) is)).most in
    rw is (omega arith)

channel_light : (kinds : List Kind) → AreSound kinds → (k w queue : ℕ) (s : Bool) → slice_get kinds k ≡ Some (kind.Chan w s queue) → channel_weight kinds k ≤ 256
channel_light kinds sound k w queue s is =
    let h : IsChannel w queue = sound k (kind.Chan w s queue) is in
    let m = h.width.most in
    rw is (omega arith)

sends_light : (kinds : List Kind) → AreSound kinds → (k : ℕ) (e : Expression) → Sends kinds k e → channel_weight kinds k + expression_weight kinds e ≤ 256 + 2 ^ 25 * expression_parts e
sends_light kinds sound k e h =
    let own = channel_light kinds sound k h.width h.queue h.signed h.chan_is in
    let rest = light kinds sound e _ _ h.value in
    omega arith

receives_light : (kinds : List Kind) → AreSound kinds → (k : ℕ) (t : Target) → Receives kinds k t → channel_weight kinds k + target_weight kinds t ≤ 256 + 2 ^ 25 * target_parts t
receives_light kinds sound k t h =
    let own = channel_light kinds sound k h.width h.queue h.signed h.chan_is in
    let rest = target_light kinds sound t _ _ h.target in
    omega arith

condition_light : (kinds : List Kind) → AreSound kinds → (e : Expression) → HasSomeType kinds e → condition_weight kinds e ≤ 128 + 2 ^ 25 * expression_parts e
condition_light kinds sound e h =
    let own = narrow kinds sound e _ _ h.2 in
    let m = own.most in
    let rest = light kinds sound e _ _ h.2 in
    rw (widths_are kinds e _ _ h.2) (omega arith)

mutual
  pub statement_light : (kinds : List Kind) → AreSound kinds → (s : Statement) → IsTyped kinds s → statement_weight kinds s + 64 ≤ 2 ^ 25 * statement_parts s
  statement_light kinds sound Skip h = omega arith
  statement_light kinds sound (Assign place t e) h =
      let one = target_light kinds sound t _ _ h.target in
      let two = light kinds sound e _ _ h.value in
      omega arith
  statement_light kinds sound (Delay place) h = omega arith
  statement_light kinds sound (Send place chan e) h = let one = sends_light kinds sound chan e h in omega arith
  statement_light kinds sound (Receive place chan t) h = let one = receives_light kinds sound chan t h in omega arith
  statement_light kinds sound (Prialt place cases) h = let one = cases_light kinds sound cases h in omega arith
  statement_light kinds sound (PrialtElse place cases rest) h =
      let one = cases_light kinds sound cases h.0 in
      let two = statement_light kinds sound rest h.1 in
      omega arith
  statement_light kinds sound (Seq place parts) h = let one = list_light kinds sound 8 (omega arith) parts h in omega arith
  statement_light kinds sound (Par place branches) h = let one = list_light kinds sound 16 (omega arith) branches h in omega arith
  statement_light kinds sound (If place c a b) h =
      let one = condition_light kinds sound c h.0 in
      let two = statement_light kinds sound a h.1 in
      let three = statement_light kinds sound b h.2 in
      omega arith
  statement_light kinds sound (While place c body) h =
      let one = condition_light kinds sound c h.0 in
      let two = statement_light kinds sound body h.1 in
      omega arith
  statement_light kinds sound (DoWhile place body c) h =
      let one = condition_light kinds sound c h.0 in
      let two = statement_light kinds sound body h.1 in
      omega arith
  statement_light kinds sound (Switch place e arms) h =
      let width = (narrow kinds sound e _ _ h.2).most in
      let is = widths_are kinds e _ _ h.2 in
      let one = light kinds sound e _ _ h.2 in
      let two = arms_light kinds sound h.0 h.1 (2 * width_of kinds e + 8) (omega arith) arms h.3 in
      omega arith

  pub list_light : (kinds : List Kind) → AreSound kinds → (each : ℕ) → each ≤ 64 → (all : Statements) → AllTyped kinds all → list_weight kinds each all ≤ 2 ^ 25 * all_parts all
  list_light kinds sound each few stop h = omega arith
  list_light kinds sound each few (first ⨾ rest) h =
      let one = statement_light kinds sound first h.0 in
      let two = list_light kinds sound each few rest h.1 in
      omega arith

  pub cases_light : (kinds : List Kind) → AreSound kinds → (all : Cases) → CasesTyped kinds all → cases_weight kinds all ≤ 2 ^ 25 * cases_parts all
  cases_light kinds sound no_case h = omega arith
  cases_light kinds sound (send_case chan e first rest) h =
      let one = sends_light kinds sound chan e h.0 in
      let two = statement_light kinds sound first h.1 in
      let three = cases_light kinds sound rest h.2 in
      omega arith
  cases_light kinds sound (receive_case chan t first rest) h =
      let one = receives_light kinds sound chan t h.0 in
      let two = statement_light kinds sound first h.1 in
      let three = cases_light kinds sound rest h.2 in
      omega arith

  pub arms_light : (kinds : List Kind) → AreSound kinds → (w : ℕ) (s : Bool) (each : ℕ) → each ≤ 264 → (all : Arms) → ArmsTyped kinds w s all → arms_weight kinds each all ≤ 2 ^ 25 * arms_parts all
  arms_light kinds sound w s each few no_arm h = omega arith
  arms_light kinds sound w s each few (arm values other body rest) h =
      let own = mul-le each (length values) 264 (length values) few (omega arith) in
      let two = statement_light kinds sound body h.1 in
      let three = arms_light kinds sound w s each few rest h.2 in
      omega arith

mutual
  pub few_flops : (s : Statement) → statement_flops s + 1 ≤ 4 * statement_parts s
  few_flops Skip = omega arith
  few_flops (Assign place t e) = omega arith
  few_flops (Delay place) = omega arith
  few_flops (Send place chan e) = omega arith
  few_flops (Receive place chan t) = omega arith
  few_flops (Prialt place cases) = let one = few_case_flops cases in omega arith
  few_flops (PrialtElse place cases rest) =
      let one = few_case_flops cases in
      let two = few_flops rest in
      omega arith
  few_flops (Seq place parts) = let one = few_list_flops 0 (omega arith) parts in omega arith
  few_flops (Par place branches) = let one = few_list_flops 1 (omega arith) branches in omega arith
  few_flops (If place c a b) =
      let one = few_flops a in
      let two = few_flops b in
      omega arith
  few_flops (While place c body) = let one = few_flops body in omega arith
  few_flops (DoWhile place body c) = let one = few_flops body in omega arith
  few_flops (Switch place e arms) = let one = few_arm_flops arms in omega arith

  pub few_list_flops : (each : ℕ) → each ≤ 1 → (all : Statements) → list_flops each all ≤ 4 * all_parts all
  few_list_flops each few stop = omega arith
  few_list_flops each few (first ⨾ rest) =
      let one = few_flops first in
      let two = few_list_flops each few rest in
      omega arith

  pub few_case_flops : (all : Cases) → cases_flops all ≤ 4 * cases_parts all
  few_case_flops no_case = omega arith
  few_case_flops (send_case chan e first rest) =
      let one = few_flops first in
      let two = few_case_flops rest in
      omega arith
  few_case_flops (receive_case chan t first rest) =
      let one = few_flops first in
      let two = few_case_flops rest in
      omega arith

  pub few_arm_flops : (all : Arms) → arms_flops all ≤ 4 * arms_parts all
  few_arm_flops no_arm = omega arith
  few_arm_flops (arm values other body rest) =
      let one = few_flops body in
      let two = few_arm_flops rest in
      omega arith
