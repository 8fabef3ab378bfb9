use Rattle.std.proofs.Common.{◌≡◌, ◌-◌, ◌+◌, length, drop, take, Some, None, sym, ap, subst, ◌∙◌, arith}
use Rattle.std.proofs.lemmas.List.{length-drop}
use Rattle.hc_grammar.specs.Form as f
use Rattle.hc_grammar.specs.Grammar.{grammar}
use Rattle.hc_grammar.specs.Table.{Spells, IsStop, IsLongest}
use Rattle.hc_grammar.specs.LastLemmas.{longest_of_last}
use Rattle.hc_grammar.specs.Cursor.{place_before}
use Rattle.hc_grammar.specs.declared.halt.Halt.TheVariants.{Refused}
use Rattle.hc_exparse.specs.Last.{HaltsLast}
use Rattle.hc_grammar.specs.Walk.{Reads-shorter}
use Rattle.hc_exparse.proofs.Parsed.{at_tokens, before_stop, stop_shorter, refusal}
use Rattle.hc_exparse.proofs.parse.parse_expr.Goals as goal

pub overflow_sub-next : goal.overflow_sub-next
overflow_sub-next c =
    let shorter = Reads-shorter c.in-Ok.ensures.0 in
    let left = c.len.ensures in
    let len = ap (λ a. length a.rest) c.new-c.ensures ∙ length-drop c.args.from c.args.tokens.now.tokens in
    let total = ap length c.as_slice-total.ensures in
    let from = c.requires in
    omega arith

pub overflow_sub-stop : goal.overflow_sub-stop
overflow_sub-stop c =
    let h : HaltsLast f.expr c.new-c.result (Refused (Some c.in-Err-Refused-Some.count)) c.whole.new.c =
    subst (λ h. HaltsLast f.expr c.new-c.result h c.whole.new.c) (c.in-Err-Refused-Some.field-0-is ∙ ap Refused c.in-Err-Refused-Some.field-0-0-is) c.in-Err-Refused-Some.ensures in
    let shorter = stop_shorter f.expr c.new-c.result.rest c.whole.new.c.rest (Some c.in-Err-Refused-Some.count) h.0 in
    let left = c.len-in-Err-Refused-Some.ensures in
    let len = ap (λ a. length a.rest) c.new-c.ensures ∙ length-drop c.args.from c.args.tokens.now.tokens in
    let total = ap length c.as_slice-total.ensures in
    let from = c.requires in
    omega arith

pub returns-in-Ok-clause-order : goal.returns-in-Ok-clause-order
returns-in-Ok-clause-order c =
    let shorter = Reads-shorter c.in-Ok.ensures.0 in
    let left = c.len.ensures in
    let len = ap (λ a. length a.rest) c.new-c.ensures ∙ length-drop c.args.from c.args.tokens.now.tokens in
    let total = ap length c.as_slice-total.ensures in
    let from = c.requires in
    record { begins = omega arith; before = omega arith; within = omega arith }

pub returns-in-Ok-clause-stop : goal.returns-in-Ok-clause-stop
returns-in-Ok-clause-stop c =
    at_tokens (λ ts n. IsStop grammar f.expr ts n) c.args.tokens.now.tokens c.new-c.result.rest c.whole.new.c.rest c.args.from (length c.as_slice-total.result.now) c.len.result
    (ap (λ a. a.rest) c.new-c.ensures) c.requires (ap length c.as_slice-total.ensures) c.len.ensures
    (c.reads_where.ensures f.expr c.in-Ok.tree c.new-c.result.rest c.whole.new.c.rest c.in-Ok.ensures.0).0

pub returns-in-Ok-clause-longest : goal.returns-in-Ok-clause-longest
returns-in-Ok-clause-longest c =
    at_tokens (λ ts n. IsLongest grammar f.expr ts c.in-Ok.tree n) c.args.tokens.now.tokens c.new-c.result.rest c.whole.new.c.rest c.args.from (length c.as_slice-total.result.now) c.len.result
    (ap (λ a. a.rest) c.new-c.ensures) c.requires (ap length c.as_slice-total.ensures) c.len.ensures
    (c.reads_where.ensures f.expr c.in-Ok.tree c.new-c.result.rest c.whole.new.c.rest c.in-Ok.ensures.0).1

pub returns-in-Ok-tree_of-clause-order : goal.returns-in-Ok-tree_of-clause-order
returns-in-Ok-tree_of-clause-order c =
    let h : HaltsLast f.expr c.new-c.result (Refused (Some c.in-Err-Refused-Some.count)) c.whole.new.c =
    subst (λ h. HaltsLast f.expr c.new-c.result h c.whole.new.c) (c.in-Err-Refused-Some.field-0-is ∙ ap Refused c.in-Err-Refused-Some.field-0-0-is) c.in-Err-Refused-Some.ensures in
    let s = h.0 in
    let k = before_stop f.expr c.new-c.result.rest (length c.new-c.result.rest - length c.whole.new.c.rest) c.in-Err-Refused-Some.count s.last_is.0.value
    (c.stops_where.ensures f.expr c.new-c.result.rest c.whole.new.c.rest s.stops) s.last_is.0.within s.last_is.0.spells in
    let len = ap (λ a. length a.rest) c.new-c.ensures ∙ length-drop c.args.from c.args.tokens.now.tokens in
    let total = ap length c.as_slice-total.ensures in
    let left = c.len-in-Err-Refused-Some.ensures in
    let from = c.requires in
    let shorter = stop_shorter f.expr c.new-c.result.rest c.whole.new.c.rest (Some c.in-Err-Refused-Some.count) s in
    record { begins = omega arith; before = omega arith; within = omega arith }

pub returns-in-Ok-tree_of-clause-longest : goal.returns-in-Ok-tree_of-clause-longest
returns-in-Ok-tree_of-clause-longest c =
    let h : HaltsLast f.expr c.new-c.result (Refused (Some c.in-Err-Refused-Some.count)) c.whole.new.c =
    subst (λ h. HaltsLast f.expr c.new-c.result h c.whole.new.c) (c.in-Err-Refused-Some.field-0-is ∙ ap Refused c.in-Err-Refused-Some.field-0-0-is) c.in-Err-Refused-Some.ensures in
    let s = h.0 in
    let is = ap (λ a. a.rest) c.new-c.ensures in
    let n : c.in-Err-Refused-Some.count ≡ c.args.from + c.in-Err-Refused-Some.count - c.args.from = omega arith in
    subst (λ n. IsLongest grammar f.expr (drop c.args.from c.args.tokens.now.tokens) c.in-Ok-tree_of.tree n) n
    (subst (λ l. IsLongest grammar f.expr l c.in-Ok-tree_of.tree c.in-Err-Refused-Some.count) is
    (longest_of_last s.last_is (subst (λ l. Spells grammar f.expr c.in-Ok-tree_of.tree (take c.in-Err-Refused-Some.count l)) (sym is) c.in-Ok-tree_of.ensures.spells)))

pub returns-in-Ok-tree_of-clause-stop : goal.returns-in-Ok-tree_of-clause-stop
returns-in-Ok-tree_of-clause-stop c =
    let h : HaltsLast f.expr c.new-c.result (Refused (Some c.in-Err-Refused-Some.count)) c.whole.new.c =
    subst (λ h. HaltsLast f.expr c.new-c.result h c.whole.new.c) (c.in-Err-Refused-Some.field-0-is ∙ ap Refused c.in-Err-Refused-Some.field-0-0-is) c.in-Err-Refused-Some.ensures in
    at_tokens (λ ts n. IsStop grammar f.expr ts n) c.args.tokens.now.tokens c.new-c.result.rest c.whole.new.c.rest c.args.from (length c.as_slice-total.result.now) c.len-in-Err-Refused-Some.result
    (ap (λ a. a.rest) c.new-c.ensures) c.requires (ap length c.as_slice-total.ensures) c.len-in-Err-Refused-Some.ensures
    (c.stops_where.ensures f.expr c.new-c.result.rest c.whole.new.c.rest h.0.stops)

pub returns-in-Err-Refused-None-clause-refused : goal.returns-in-Err-Refused-None-clause-refused
returns-in-Err-Refused-None-clause-refused c =
    let s : HaltsLast f.expr c.new-c.result (Refused None) c.whole.new.c =
    subst (λ h. HaltsLast f.expr c.new-c.result h c.whole.new.c) (c.in-Err-Refused-None.field-0-is ∙ ap Refused c.in-Err-Refused-None.field-0-0-is) c.in-Err-Refused-None.ensures in
    refusal c.args.tokens.now c.args.from c.new-c.result.rest c.whole.new.c.rest c.place.result c.refused.result (ap (λ a. a.rest) c.new-c.ensures) s.0
    (c.stops_where.ensures f.expr c.new-c.result.rest c.whole.new.c.rest s.0.stops)
    (c.place.ensures ∙ ap (λ end. place_before end c.whole.new.c.rest) (s.1 ∙ ap (λ a. a.end) c.new-c.ensures)) c.refused.ensures
