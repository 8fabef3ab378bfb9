-- What the nodes of a sound core depend on are nodes of the core.
use Rattle.std.proofs.Common.{◌≡◌, ℕ, zero, suc, ◌+◌, Bool, true, false, ◌&&◌, List, [], ◌∷◌, ◌++◌, Some, slice_get, Contains, refl, sym, subst, arith}
use Rattle.std.specs.Prelude.{if◌then◌else◌}
use Rattle.hc_num.specs.Number.{Number}
use Rattle.hc_tree.specs.declared.refusal.Node.{Node}
use Rattle.hc_tree.specs.declared.refusal.Node.TheVariants as node
use Rattle.hc_core.specs.Program.{Expression, Target, ToRegister, ToElement, ToWord, ToSignal, Statement, Skip, Assign, Delay, Send, Receive, Prialt, PrialtElse, Seq, Par, If, While, DoWhile, Switch, Statements, stop, ◌⨾◌, Cases, no_case, send_case, receive_case, Arms, no_arm, arm}
use Rattle.hc_core.specs.Read.{statement}
use Rattle.hc_core.specs.Zero.{zero as is_zero_time, all_zero, always_holds}
use Rattle.hc_core.specs.Instant.{kind_nodes, nodes_from, deps, partners, where_it, passes, all_passes, arm_passes, Before, first_part, and_then, finishes, sequence_finishes, finishes_behind, all_finishes, case_finishes, arm_finishes}
use Rattle.hc_core.specs.Depends.{Need, Access, accesses, target_accesses, case_accesses, access_needs, signal_needs, needs, sequence_needs, needs_behind, all_needs, case_needs, arm_needs}
use Rattle.hc_core.specs.Typed.{kinds_of, Typed, constant, register, signal, input, element, ram_word, rom_word, negative, complement, is_zero, to_signed, to_unsigned, arithmetic, division, bitwise, comparison, shift, joining, taking, dropping, logic, slice, choice}
use Rattle.hc_core.specs.Sound.{IsSound, IsTarget, IsTyped, AllTyped, CasesTyped, ArmsTyped}
use Rattle.hc_core.specs.declared.object.Kind.{Kind}
use Rattle.hc_core.specs.declared.object.Kind.TheVariants as kind
use Rattle.hc_core.specs.declared.object.Core.{Core}
use Rattle.hc_meaning.proofs.Every.{Every, every_left, every_both}
use Rattle.hc_meaning.proofs.Order.{AreThere}

-- ---- the nodes of a kind are nodes of the core

at_right : (a b : List Node) (m : Node) → Contains b m → Contains (a ++ b) m
at_right [] b m c = c
at_right (x ∷ a) b m c = let d = at_right a b m c in (suc d.0, omega arith, d.2)

at_left : (a b : List Node) (m : Node) → Contains a m → Contains (a ++ b) m
at_left [] b m (k, within, is) = absurd (omega arith)
at_left (x ∷ a) b m (zero, within, is) = (zero, omega arith, is)
at_left (x ∷ a) b m (suc k, within, is) = let d = at_left a b m (k, omega arith, is) in (suc d.0, omega arith, d.2)

node_there : (kinds : List Kind) (j k at : ℕ) (kind : Kind) (m : Node) → j + k ≡ at → slice_get kinds k ≡ Some kind → Contains (kind_nodes at kind) m → Contains (nodes_from j kinds) m
node_there [] j k at kind m e is c = absurd (let z = is in cc)
node_there (x ∷ kinds) j zero at kind m e is c =
    let e' : at ≡ j = omega arith in
    let is' : x ≡ kind = some_is x kind is in
    at_left (kind_nodes j x) (nodes_from (j + 1) kinds) m (subst (λ i. Contains (kind_nodes i x) m) e' (subst (λ y. Contains (kind_nodes at y) m) (sym is') c))
  where
    some_is : (x y : Kind) → Some x ≡ Some y → x ≡ y
    some_is x y h = cc
node_there (x ∷ kinds) j (suc k) at kind m e is c = at_right (kind_nodes j x) (nodes_from (j + 1) kinds) m (node_there kinds (j + 1) k at kind m (omega arith) is c)

module _ (kinds : List Kind) where
  abbrev N : Node → Type 0
  N m = Contains (nodes_from 0 kinds) m

  abbrev All : List Node → Type 0
  All list = Every N list

  abbrev Needed : List Need → Type 0
  Needed list = Every (λ x. N x.node × Every N x.on) list

  abbrev Accessed : List Access → Type 0
  Accessed list = Every (λ a. N (node.Value a.0) × All (deps a.1)) list

  left : (a b : List Node) → All (a ++ b) → All a
  left a b h = every_left N a b h

  both : (a b : List Node) → All a → All b → All (a ++ b)
  both a b h k = every_both N a b h k

  joined : (a b : List Need) → Needed a → Needed b → Needed (a ++ b)
  joined a b h k = every_both (λ x. N x.node × Every N x.on) a b h k

  accessed : (a b : List Access) → Accessed a → Accessed b → Accessed (a ++ b)
  accessed a b h k = every_both (λ a. N (node.Value a.0) × All (deps a.1)) a b h k

  kept : (b : Bool) (x : List Node) → All x → All (where_it b x)
  kept true x h = h
  kept false x h = tt

  unless : (b : Bool) (x : List Node) → All x → All (if b then [] else x)
  unless true x h = tt
  unless false x h = h

  the_signal : (k w : ℕ) (s : Bool) (unset : Number) → slice_get kinds k ≡ Some (kind.Signal w s unset) → N (node.Value k)
  the_signal k w s unset is = node_there kinds 0 k k (kind.Signal w s unset) (node.Value k) (omega arith) is (0, omega arith, refl)

  the_ram : (k w : ℕ) (s : Bool) (n : ℕ) (init : List Number) → slice_get kinds k ≡ Some (kind.Ram w s n init) → N (node.Value k)
  the_ram k w s n init is = node_there kinds 0 k k (kind.Ram w s n init) (node.Value k) (omega arith) is (0, omega arith, refl)

  the_rom : (k w : ℕ) (s : Bool) (n : ℕ) (init : List Number) → slice_get kinds k ≡ Some (kind.Rom w s n init) → N (node.Value k)
  the_rom k w s n init is = node_there kinds 0 k k (kind.Rom w s n init) (node.Value k) (omega arith) is (0, omega arith, refl)

  the_sends : (k w queue : ℕ) (s : Bool) → slice_get kinds k ≡ Some (kind.Chan w s queue) → N (node.Sends k)
  the_sends k w queue s is = node_there kinds 0 k k (kind.Chan w s queue) (node.Sends k) (omega arith) is (0, omega arith, refl)

  the_receives : (k w queue : ℕ) (s : Bool) → slice_get kinds k ≡ Some (kind.Chan w s queue) → N (node.Receives k)
  the_receives k w queue s is = node_there kinds 0 k k (kind.Chan w s queue) (node.Receives k) (omega arith) is (1, omega arith, refl)

  -- ---- expressions

  abbrev Good : Expression → Type 0
  Good e = All (deps e) × Accessed (accesses e)

  two : (a b : Expression) → Good a → Good b → All (deps a ++ deps b) × Accessed (accesses a ++ accesses b)
  two a b g h = (both (deps a) (deps b) g.0 h.0, accessed (accesses a) (accesses b) g.1 h.1)

  pub good : (e : Expression) (w : ℕ) (s : Bool) → Typed kinds e w s → Good e
  good _ _ _ (constant n is) = (tt, tt)
  good _ _ _ (register k w s init is) = (tt, tt)
  good _ _ _ (signal k w s unset is) = ((the_signal k w s unset is, tt), tt)
  good _ _ _ (input k w s pins is) = (tt, tt)
  good _ _ _ (element k w n s init i is t) = good i _ _ t
  good _ _ _ (ram_word k w n s init i is t) = let g = good i _ _ t in let h = the_ram k w s n init is in ((h, g.0), ((h, g.0), g.1))
  good _ _ _ (rom_word k w n s init i is t) = let g = good i _ _ t in let h = the_rom k w s n init is in ((h, g.0), ((h, g.0), g.1))
  good _ _ _ (negative a w s t) = good a w s t
  good _ _ _ (complement a w s t) = good a w s t
  good _ _ _ (is_zero a w s t) = good a w s t
  good _ _ _ (to_signed a w s t) = good a w s t
  good _ _ _ (to_unsigned a w s t) = good a w s t
  good _ _ _ (arithmetic op a b w s is t u) = two a b (good a _ _ t) (good b _ _ u)
  good _ _ _ (division op a b w is t u) = two a b (good a _ _ t) (good b _ _ u)
  good _ _ _ (bitwise op a b w s is t u) = two a b (good a _ _ t) (good b _ _ u)
  good _ _ _ (comparison op a b w s is t u) = two a b (good a _ _ t) (good b _ _ u)
  good _ _ _ (shift op a b w v s is t u) = two a b (good a _ _ t) (good b _ _ u)
  good _ _ _ (joining op a b w v s r is t u most) = two a b (good a _ _ t) (good b _ _ u)
  good _ _ _ (taking op a n w s is t amount least most) = let g = good a _ _ t in (both (deps a) [] g.0 tt, accessed (accesses a) [] g.1 tt)
  good _ _ _ (dropping op a n w s is t amount most) = let g = good a _ _ t in (both (deps a) [] g.0 tt, accessed (accesses a) [] g.1 tt)
  good _ _ _ (logic op a b w v s r is t u) = two a b (good a _ _ t) (good b _ _ u)
  good _ _ _ (slice a high low w s t least most) = good a _ _ t
  good _ _ _ (choice c a b v w r s x t u) =
      let p = two c a (good c _ _ x) (good a _ _ t) in
      let q = good b _ _ u in
      (both (deps c ++ deps a) (deps b) p.0 q.0, accessed (accesses c ++ accesses a) (accesses b) p.1 q.1)

  good_target : (t : Target) (w : ℕ) (s : Bool) → IsTarget kinds t w s → Accessed (target_accesses t)
  good_target (ToRegister k) w s h = tt
  good_target (ToElement k i) w s h = (good i _ _ h.3).1
  good_target (ToWord k i) w s h = let g = good i _ _ h.3 in ((the_ram k w s h.0 h.1 h.2, g.0), g.1)
  good_target (ToSignal k) w s h = tt

  access_all : (st : List Node) (list : List Access) → All st → Accessed list → Needed (access_needs st list)
  access_all st [] a h = tt
  access_all st (x ∷ list) a h = ((h.0.0, both st (deps x.1) a h.0.1), access_all st list a h.1)

  signal_all : (st : List Node) (t : Target) (e : Expression) (w : ℕ) (s : Bool) → All st → IsTarget kinds t w s → All (deps e) → Needed (signal_needs st t e)
  signal_all st (ToRegister k) e w s a h g = tt
  signal_all st (ToElement k i) e w s a h g = tt
  signal_all st (ToWord k i) e w s a h g = tt
  signal_all st (ToSignal k) e w s a h g = ((the_signal k w s h.0 h.1, both st (deps e) a g), tt)

  -- ---- statements

  cases_good : (cases : Cases) → CasesTyped kinds cases → All (partners cases) × Accessed (case_accesses cases)
  cases_good no_case h = (tt, tt)
  cases_good (send_case chan e first rest) h =
      let g = cases_good rest h.2 in
      ((the_receives chan _ _ _ h.0.chan_is, g.0), accessed (accesses e) (case_accesses rest) (good e _ _ h.0.value).1 g.1)
  cases_good (receive_case chan t first rest) h =
      let g = cases_good rest h.2 in
      ((the_sends chan _ _ _ h.0.chan_is, g.0), accessed (target_accesses t) (case_accesses rest) (good_target t _ _ h.0.target) g.1)

  mutual
    pub pass_all : (s : Statement) → IsTyped kinds s → All (passes s)
    pass_all Skip h = tt
    pass_all (Assign place t e) h = tt
    pass_all (Delay place) h = tt
    pass_all (Send place chan e) h = tt
    pass_all (Receive place chan t) h = tt
    pass_all (Prialt place cases) h = tt
    pass_all (PrialtElse place cases rest) h = kept (is_zero_time rest) (partners cases ++ passes rest) (both (partners cases) (passes rest) (cases_good cases h.0).0 (pass_all rest h.1))
    pass_all (Seq place parts) h = kept (all_zero parts) (all_passes parts) (list_pass parts h)
    pass_all (Par place bs) h = kept (all_zero bs) (all_passes bs) (list_pass bs h)
    pass_all (If place c a b) h =
        kept (is_zero_time (If place c a b)) (deps c ++ passes a ++ passes b) (both (deps c ++ passes a) (passes b) (both (deps c) (passes a) (good c _ _ h.0.2).0 (pass_all a h.1)) (pass_all b h.2))
    pass_all (While place c body) h = kept (is_zero_time (While place c body)) (deps c) (good c _ _ h.0.2).0
    pass_all (DoWhile place body c) h = tt
    pass_all (Switch place e arms) h =
        kept (is_zero_time (Switch place e arms)) (deps e ++ arm_passes arms) (both (deps e) (arm_passes arms) (good e _ _ h.2).0 (arm_pass arms h.0 h.1 h.3))

    list_pass : (parts : Statements) → AllTyped kinds parts → All (all_passes parts)
    list_pass stop h = tt
    list_pass (first ⨾ rest) h = both (passes first) (all_passes rest) (pass_all first h.0) (list_pass rest h.1)

    arm_pass : (arms : Arms) (w : ℕ) (s : Bool) → ArmsTyped kinds w s arms → All (arm_passes arms)
    arm_pass no_arm w s h = tt
    arm_pass (arm values other body rest) w s h = both (passes body) (arm_passes rest) (pass_all body h.1) (arm_pass rest w s h.2)

  abbrev Known : Before → Type 0
  Known b = All b.pass × All b.finish

  known_more : (b : Before) (s : Statement) (f : List Node) → Known b → All f → All (passes s) → Known (and_then b s f)
  known_more b s f k h p = (
    kept (b.may_pass && is_zero_time s) (b.pass ++ passes s) (both b.pass (passes s) k.0 p),
    both f (where_it (is_zero_time s) (b.finish ++ passes s)) h (kept (is_zero_time s) (b.finish ++ passes s) (both b.finish (passes s) k.1 p)),
  )

  mutual
    pub finish_all : (s : Statement) → IsTyped kinds s → All (finishes s)
    finish_all Skip h = tt
    finish_all (Assign place t e) h = tt
    finish_all (Delay place) h = tt
    finish_all (Send place chan e) h = tt
    finish_all (Receive place chan t) h = tt
    finish_all (Prialt place cases) h = case_finish cases h
    finish_all (PrialtElse place cases rest) h = both (case_finishes cases) (finishes rest) (case_finish cases h.0) (finish_all rest h.1)
    finish_all (Seq place parts) h = sequence_finish parts h
    finish_all (Par place bs) h = list_finish bs h
    finish_all (If place c a b) h = both (finishes a) (finishes b) (finish_all a h.1) (finish_all b h.2)
    finish_all (While place c body) h = unless (always_holds c) (finishes body ++ deps c) (both (finishes body) (deps c) (finish_all body h.1) (good c _ _ h.0.2).0)
    finish_all (DoWhile place body c) h = both (finishes body) (deps c) (finish_all body h.1) (good c _ _ h.0.2).0
    finish_all (Switch place e arms) h = arm_finish arms h.0 h.1 h.3

    sequence_finish : (parts : Statements) → AllTyped kinds parts → All (sequence_finishes parts)
    sequence_finish stop h = tt
    sequence_finish (first ⨾ rest) h = behind_finish (first_part first (finishes first)) rest (pass_all first h.0, finish_all first h.0) h.1

    behind_finish : (b : Before) (rest : Statements) → Known b → AllTyped kinds rest → All (finishes_behind b rest)
    behind_finish b stop k h = k.1
    behind_finish b (next ⨾ rest) k h = behind_finish (and_then b next (finishes next)) rest (known_more b next (finishes next) k (finish_all next h.0) (pass_all next h.0)) h.1

    list_finish : (parts : Statements) → AllTyped kinds parts → All (all_finishes parts)
    list_finish stop h = tt
    list_finish (first ⨾ rest) h = both (finishes first) (all_finishes rest) (finish_all first h.0) (list_finish rest h.1)

    case_finish : (cases : Cases) → CasesTyped kinds cases → All (case_finishes cases)
    case_finish no_case h = tt
    case_finish (send_case chan e first rest) h = both (finishes first ++ passes first) (case_finishes rest) (both (finishes first) (passes first) (finish_all first h.1) (pass_all first h.1)) (case_finish rest h.2)
    case_finish (receive_case chan t first rest) h = both (finishes first ++ passes first) (case_finishes rest) (both (finishes first) (passes first) (finish_all first h.1) (pass_all first h.1)) (case_finish rest h.2)

    arm_finish : (arms : Arms) (w : ℕ) (s : Bool) → ArmsTyped kinds w s arms → All (arm_finishes arms)
    arm_finish no_arm w s h = tt
    arm_finish (arm values other body rest) w s h = both (finishes body) (arm_finishes rest) (finish_all body h.1) (arm_finish rest w s h.2)

  mutual
    pub needs_all : (st : List Node) (s : Statement) → All st → IsTyped kinds s → Needed (needs st s)
    needs_all st Skip a h = tt
    needs_all st (Assign place t e) a h =
        joined (signal_needs st t e) (access_needs st (target_accesses t ++ accesses e)) (signal_all st t e h.width h.signed a h.target (good e _ _ h.value).0)
        (access_all st (target_accesses t ++ accesses e) a (accessed (target_accesses t) (accesses e) (good_target t _ _ h.target) (good e _ _ h.value).1))
    needs_all st (Delay place) a h = tt
    needs_all st (Send place chan e) a h = ((the_sends chan _ _ _ h.chan_is, a), access_all st (accesses e) a (good e _ _ h.value).1)
    needs_all st (Receive place chan t) a h = ((the_receives chan _ _ _ h.chan_is, a), access_all st (target_accesses t) a (good_target t _ _ h.target))
    needs_all st (Prialt place cases) a h = joined (access_needs st (case_accesses cases)) (case_needs cases) (access_all st (case_accesses cases) a (cases_good cases h).1) (case_all cases h)
    needs_all st (PrialtElse place cases rest) a h =
        joined (access_needs st (case_accesses cases) ++ case_needs cases) (needs (st ++ partners cases) rest)
        (joined (access_needs st (case_accesses cases)) (case_needs cases) (access_all st (case_accesses cases) a (cases_good cases h.0).1) (case_all cases h.0))
        (needs_all (st ++ partners cases) rest (both st (partners cases) a (cases_good cases h.0).0) h.1)
    needs_all st (Seq place parts) a h = sequence_all st parts a h
    needs_all st (Par place bs) a h = list_all st bs a h
    needs_all st (If place c x y) a h =
        let g = good c _ _ h.0.2 in
        let b = both st (deps c) a g.0 in
        joined (access_needs st (accesses c) ++ needs (st ++ deps c) x) (needs (st ++ deps c) y)
        (joined (access_needs st (accesses c)) (needs (st ++ deps c) x) (access_all st (accesses c) a g.1) (needs_all (st ++ deps c) x b h.1)) (needs_all (st ++ deps c) y b h.2)
    needs_all st (While place c body) a h =
        let g = good c _ _ h.0.2 in
        let b = both st (finishes body) a (finish_all body h.1) in
        joined (access_needs (st ++ finishes body) (accesses c)) (needs (st ++ finishes body ++ deps c) body) (access_all (st ++ finishes body) (accesses c) b g.1)
        (needs_all (st ++ finishes body ++ deps c) body (both (st ++ finishes body) (deps c) b g.0) h.1)
    needs_all st (DoWhile place body c) a h =
        let g = good c _ _ h.0.2 in
        let f = finish_all body h.1 in
        joined (access_needs (finishes body) (accesses c)) (needs (st ++ finishes body ++ deps c) body) (access_all (finishes body) (accesses c) f g.1)
        (needs_all (st ++ finishes body ++ deps c) body (both (st ++ finishes body) (deps c) (both st (finishes body) a f) g.0) h.1)
    needs_all st (Switch place e arms) a h =
        let g = good e _ _ h.2 in
        joined (access_needs st (accesses e)) (arm_needs (st ++ deps e) arms) (access_all st (accesses e) a g.1) (arm_all (st ++ deps e) arms h.0 h.1 (both st (deps e) a g.0) h.3)

    sequence_all : (st : List Node) (parts : Statements) → All st → AllTyped kinds parts → Needed (sequence_needs st parts)
    sequence_all st stop a h = tt
    sequence_all st (first ⨾ rest) a h =
        joined (needs st first) (needs_behind st (first_part first (finishes first)) rest) (needs_all st first a h.0)
        (behind_all st (first_part first (finishes first)) rest a (pass_all first h.0, finish_all first h.0) h.1)

    behind_all : (st : List Node) (b : Before) (rest : Statements) → All st → Known b → AllTyped kinds rest → Needed (needs_behind st b rest)
    behind_all st b stop a k h = tt
    behind_all st b (next ⨾ rest) a k h =
        joined (needs (b.finish ++ where_it b.may_pass (st ++ b.pass)) next) (needs_behind st (and_then b next (finishes next)) rest)
        (needs_all (b.finish ++ where_it b.may_pass (st ++ b.pass)) next (both b.finish (where_it b.may_pass (st ++ b.pass)) k.1 (kept b.may_pass (st ++ b.pass) (both st b.pass a k.0))) h.0)
        (behind_all st (and_then b next (finishes next)) rest a (known_more b next (finishes next) k (finish_all next h.0) (pass_all next h.0)) h.1)

    list_all : (st : List Node) (bs : Statements) → All st → AllTyped kinds bs → Needed (all_needs st bs)
    list_all st stop a h = tt
    list_all st (first ⨾ rest) a h = joined (needs st first) (all_needs st rest) (needs_all st first a h.0) (list_all st rest a h.1)

    case_all : (cases : Cases) → CasesTyped kinds cases → Needed (case_needs cases)
    case_all no_case h = tt
    case_all (send_case chan e first rest) h = joined (needs [] first) (case_needs rest) (needs_all [] first tt h.1) (case_all rest h.2)
    case_all (receive_case chan t first rest) h = joined (needs [] first) (case_needs rest) (needs_all [] first tt h.1) (case_all rest h.2)

    arm_all : (st : List Node) (arms : Arms) (w : ℕ) (s : Bool) → All st → ArmsTyped kinds w s arms → Needed (arm_needs st arms)
    arm_all st no_arm w s a h = tt
    arm_all st (arm values other body rest) w s a h = joined (needs st body) (arm_needs st rest) (needs_all st body a h.1) (arm_all st rest w s a h.2)

pub there : (core : Core) → IsSound core → AreThere core
there core h = needs_all (kinds_of core.objects) [] (statement core.main) tt h.main
