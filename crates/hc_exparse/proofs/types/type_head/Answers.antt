use Rattle.std.proofs.Common.{None, refl}
use Rattle.hc_grammar.specs.declared.kind.Kind.TheVariants as kinds
use Rattle.hc_grammar.specs.Form as f
use Rattle.hc_grammar.specs.Cursor.{place_at}
use Rattle.hc_grammar.specs.Walk as w
use Rattle.hc_exparse.specs.Parts.{type_part}
use Rattle.hc_exparse.proofs.Walk.{mark_missing, mark_there}
use Rattle.hc_exparse.proofs.Rows as row
use Rattle.hc_exparse.proofs.Heads.{in_tail}
use Rattle.hc_exparse.proofs.types.type_head.Goals as goal

pub returns-then-is-clause-words : goal.returns-then-is-clause-words
returns-then-is-clause-words c =
    in_tail f.unsigned_tail (λ head n at. type_part head at n) c.args.c.now c.take.new.self c.unsigned_head.new.c c.unsigned_head.result (λ tail. tail (place_at c.args.c.now))
    (w.mark_passed (w.start c.args.c.now (row.unsigned_row c.args.c.now (c.if-is.ensures.yes refl))) c.take.new.self (c.if-is.ensures.yes refl) c.take.ensures.end c.take.ensures.token) c.unsigned_head.ensures.words

pub returns-then-is-2-clause-words : goal.returns-then-is-2-clause-words
returns-then-is-2-clause-words c =
    in_tail f.signed_tail (λ head n at. type_part head at n) c.args.c.now c.take-then-is-2.new.self c.signed_head.new.c c.signed_head.result (λ tail. tail (place_at c.args.c.now))
    (w.mark_passed (w.start c.args.c.now (row.signed_row c.args.c.now (c.if-is-2.ensures.yes refl))) c.take-then-is-2.new.self (c.if-is-2.ensures.yes refl) c.take-then-is-2.ensures.end c.take-then-is-2.ensures.token) c.signed_head.ensures.words

pub returns-in-Ok-clause-words : goal.returns-in-Ok-clause-words
returns-in-Ok-clause-words c = w.mark_expected (w.start c.args.c.now (row.int_row c.args.c.now (mark_there kinds.Int c.args.c.now c.expect.new.self c.in-Ok.ensures))) c.expect.new.self c.in-Ok.ensures

pub returns-in-Err-clause-words : goal.returns-in-Err-clause-words
returns-in-Err-clause-words c =
    let gone = mark_missing kinds.Int c.args.c.now c.expect.new.self c.in-Err.field-0 c.in-Err.ensures in
    w.refused_front (row.no_type c.args.c.now (c.if-is.ensures.no refl) (c.if-is-2.ensures.no refl) gone.1) c.expect.new.self gone.0 None
