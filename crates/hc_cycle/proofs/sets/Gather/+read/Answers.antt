use Rattle.std.proofs.Common.{◌≡◌, refl, rules}
use Rattle.std.proofs.lemmas.Result.{IfOk-weaker}
use Rattle.hc_core.specs.Program.{Constant, Register, Element, Word, Signal, Input, Unary, Binary, Slice, Choice}
use Rattle.hc_core.specs.Read.{expression}
use Rattle.hc_core.proofs.Read.{reading}
use Rattle.hc_tree.specs.declared.refusal.Node.TheVariants.{Value}
use Rattle.hc_cycle.specs.declared.sets.Set.TheVariants.{One}
use Rattle.hc_cycle.specs.Sets.{AreRead, Joins}
use Rattle.hc_cycle.proofs.Accesses.{nothing_read, signal_read, same_read, word_read, both_read, choice_read}
use Rattle.hc_cycle.proofs.sets.Gather.+read.Goals as goal

pub returns-in-Const : goal.returns-in-Const
returns-in-Const t c =
    let is : expression c.args.e.now ≡ Constant c.in-Const.field-0 = search (rules, reading) in
    rw is (nothing_read c.args.self.now c.args.start (Constant c.in-Const.field-0) refl refl)

pub returns-in-Reg : goal.returns-in-Reg
returns-in-Reg t c =
    let is : expression c.args.e.now ≡ Register c.in-Reg.field-0 = search (rules, reading) in
    rw is (nothing_read c.args.self.now c.args.start (Register c.in-Reg.field-0) refl refl)

pub returns-in-Input : goal.returns-in-Input
returns-in-Input t c =
    let is : expression c.args.e.now ≡ Input c.in-Input.field-0 = search (rules, reading) in
    rw is (nothing_read c.args.self.now c.args.start (Input c.in-Input.field-0) refl refl)

pub returns-in-Signal : goal.returns-in-Signal
returns-in-Signal t c =
    let is : expression c.args.e.now ≡ Signal c.in-Signal.k = search (rules, reading) in
    rw is (signal_read c.args.self.now c.args.start c.in-Signal.k)

pub returns-in-Element : goal.returns-in-Element
returns-in-Element t c =
    let is : expression c.args.e.now ≡ Element c.in-Element.field-0 (expression c.get.result.now) = search (rules, reading) in
    rw is (IfOk-weaker c.read.result (λ s. AreRead c.args.self.now c.read.new.self c.args.start s (expression c.get.result.now))
    (λ s. AreRead c.args.self.now c.read.new.self c.args.start s (Element c.in-Element.field-0 (expression c.get.result.now)))
    (λ s r. same_read c.args.self.now c.read.new.self c.args.start s (expression c.get.result.now) (Element c.in-Element.field-0 (expression c.get.result.now)) refl refl r) c.read.ensures)

pub returns-in_ok-access-in-Word : goal.returns-in_ok-access-in-Word
returns-in_ok-access-in-Word t c =
    let is : expression c.args.e.now ≡ Word c.in-Word.k (expression c.get-in-Word.result.now) = search (rules, reading) in
    rw is (IfOk-weaker c.union.result (λ s. Joins c.access.new.self c.union.new.self (One (Value c.in-Word.k)) c.in_ok-index-in-Word.index s)
    (λ s. AreRead c.args.self.now c.union.new.self c.args.start s (Word c.in-Word.k (expression c.get-in-Word.result.now)))
    (λ s j. word_read c.args.self.now c.read-in-Word.new.self c.access.new.self c.union.new.self c.args.start c.in_ok-index-in-Word.index s c.in-Word.k (expression c.get-in-Word.result.now)
    c.in_ok-index-in-Word.ensures c.in_ok-access-in-Word.ensures j) c.union.ensures)

pub returns-in-Unary : goal.returns-in-Unary
returns-in-Unary t c =
    let is : expression c.args.e.now ≡ Unary c.in-Unary.field-0 (expression c.get-in-Unary.result.now) = search (rules, reading) in
    rw is (IfOk-weaker c.read-in-Unary.result (λ s. AreRead c.args.self.now c.read-in-Unary.new.self c.args.start s (expression c.get-in-Unary.result.now))
    (λ s. AreRead c.args.self.now c.read-in-Unary.new.self c.args.start s (Unary c.in-Unary.field-0 (expression c.get-in-Unary.result.now)))
    (λ s r. same_read c.args.self.now c.read-in-Unary.new.self c.args.start s (expression c.get-in-Unary.result.now) (Unary c.in-Unary.field-0 (expression c.get-in-Unary.result.now)) refl refl r) c.read-in-Unary.ensures)

pub returns-in-Slice : goal.returns-in-Slice
returns-in-Slice t c =
    let is : expression c.args.e.now ≡ Slice (expression c.get-in-Slice.result.now) c.in-Slice.field-1 c.in-Slice.field-2 = search (rules, reading) in
    rw is (IfOk-weaker c.read-in-Slice.result (λ s. AreRead c.args.self.now c.read-in-Slice.new.self c.args.start s (expression c.get-in-Slice.result.now))
    (λ s. AreRead c.args.self.now c.read-in-Slice.new.self c.args.start s (Slice (expression c.get-in-Slice.result.now) c.in-Slice.field-1 c.in-Slice.field-2))
    (λ s r. same_read c.args.self.now c.read-in-Slice.new.self c.args.start s (expression c.get-in-Slice.result.now) (Slice (expression c.get-in-Slice.result.now) c.in-Slice.field-1 c.in-Slice.field-2) refl refl r) c.read-in-Slice.ensures)

pub returns-in_ok-b-in-Binary : goal.returns-in_ok-b-in-Binary
returns-in_ok-b-in-Binary t c =
    let is : expression c.args.e.now ≡ Binary c.in-Binary.field-0 (expression c.get-in-Binary.result.now) (expression c.get-in-Binary-2.result.now) = search (rules, reading) in
    rw is (IfOk-weaker c.union-in-Binary.result (λ s. Joins c.read-in-Binary-2.new.self c.union-in-Binary.new.self c.in_ok-a-in-Binary.a c.in_ok-b-in-Binary.b s)
    (λ s. AreRead c.args.self.now c.union-in-Binary.new.self c.args.start s (Binary c.in-Binary.field-0 (expression c.get-in-Binary.result.now) (expression c.get-in-Binary-2.result.now)))
    (λ s j. both_read c.args.self.now c.read-in-Binary.new.self c.read-in-Binary-2.new.self c.union-in-Binary.new.self c.args.start c.in_ok-a-in-Binary.a c.in_ok-b-in-Binary.b s c.in-Binary.field-0
    (expression c.get-in-Binary.result.now) (expression c.get-in-Binary-2.result.now) c.in_ok-a-in-Binary.ensures c.in_ok-b-in-Binary.ensures j) c.union-in-Binary.ensures)

pub returns-in_ok-both-in-Choice : goal.returns-in_ok-both-in-Choice
returns-in_ok-both-in-Choice t c =
    let is : expression c.args.e.now ≡ Choice (expression c.get-in-Choice.result.now) (expression c.get-in-Choice-2.result.now) (expression c.get-in-Choice-3.result.now) = search (rules, reading) in
    rw is (IfOk-weaker c.union-in-Choice-2.result (λ s. Joins c.union-in-Choice.new.self c.union-in-Choice-2.new.self c.in_ok-both-in-Choice.both c.in_ok-b-in-Choice.b s)
    (λ s. AreRead c.args.self.now c.union-in-Choice-2.new.self c.args.start s (Choice (expression c.get-in-Choice.result.now) (expression c.get-in-Choice-2.result.now) (expression c.get-in-Choice-3.result.now)))
    (λ s j. choice_read c.args.self.now c.read-in-Choice.new.self c.read-in-Choice-2.new.self c.read-in-Choice-3.new.self c.union-in-Choice.new.self c.union-in-Choice-2.new.self c.args.start
    c.in_ok-c-in-Choice.c c.in_ok-a-in-Choice.a c.in_ok-b-in-Choice.b c.in_ok-both-in-Choice.both s
    (expression c.get-in-Choice.result.now) (expression c.get-in-Choice-2.result.now) (expression c.get-in-Choice-3.result.now)
    c.in_ok-c-in-Choice.ensures c.in_ok-a-in-Choice.ensures c.in_ok-b-in-Choice.ensures c.in_ok-both-in-Choice.ensures j) c.union-in-Choice-2.ensures)
