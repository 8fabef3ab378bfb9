use Rattle.std.proofs.Common.{false, None, refl, subst}
use Rattle.std.specs.Prelude.{not}
use Rattle.hc_grammar.specs.Answers.{AnswersTo}
use Rattle.hc_grammar.specs.Form as f
use Rattle.hc_grammar.specs.Cursor.{place_at}
use Rattle.hc_grammar.specs.Walk as w
use Rattle.hc_tree.specs.declared.decl.MemoryKind.TheVariants.{Ram, Rom}
use Rattle.hc_parse.specs.Initials.{initial}
use Rattle.hc_parse.proofs.WalksDeclaration.{passed_on}
use Rattle.hc_parse.proofs.RowsDeclaration as row
use Rattle.hc_parse.proofs.declaration.decl.Goals as goal

pub returns-then-is : goal.returns-then-is
returns-then-is c =
    passed_on (λ tail. tail (place_at c.args.c.now)) (w.mark_passed (w.start c.args.c.now (row.static_decl c.args.local c.args.c.now (c.if-is.ensures.yes refl))) c.take.new.self (c.if-is.ensures.yes refl) c.take.ensures.end c.take.ensures.token) c.static_tail.new.c c.static_tail.result
    (subst (λ at. AnswersTo f.static_tail (λ tail. tail at) c.take.new.self c.static_tail.result c.static_tail.new.c) c.place-place.ensures c.static_tail.ensures)

pub returns-then-is-2 : goal.returns-then-is-2
returns-then-is-2 c =
    passed_on (λ tail. tail (place_at c.args.c.now) false Ram) (w.mark_passed (w.start c.args.c.now (row.ram c.args.local (initial c.allowed.result) c.allowed.ensures c.args.c.now (c.if-is-2.ensures.yes refl))) c.take-then-is-2.new.self (c.if-is-2.ensures.yes refl) c.take-then-is-2.ensures.end c.take-then-is-2.ensures.token) c.memories_tail.new.c c.memories_tail.result
    (subst (λ at. AnswersTo (f.memories_tail (initial c.allowed.result)) (λ tail. tail at false Ram) c.take-then-is-2.new.self c.memories_tail.result c.memories_tail.new.c) c.place-place.ensures c.memories_tail.ensures)

pub returns-then-is-3 : goal.returns-then-is-3
returns-then-is-3 c =
    passed_on (λ tail. tail (place_at c.args.c.now) false Rom) (w.mark_passed (w.start c.args.c.now (row.rom c.args.local c.args.c.now (c.if-is-3.ensures.yes refl))) c.take-then-is-3.new.self (c.if-is-3.ensures.yes refl) c.take-then-is-3.ensures.end c.take-then-is-3.ensures.token) c.memories_tail-then-is-3.new.c c.memories_tail-then-is-3.result
    (subst (λ at. AnswersTo (f.memories_tail f.Always) (λ tail. tail at false Rom) c.take-then-is-3.new.self c.memories_tail-then-is-3.result c.memories_tail-then-is-3.new.c) c.place-place.ensures c.memories_tail-then-is-3.ensures)

pub returns-then-not-is_at_type : goal.returns-then-not-is_at_type
returns-then-not-is_at_type c = w.refused_front (row.no_decl c.args.local c.args.c.now (c.if-is.ensures.no refl) (c.if-is-2.ensures.no refl) (c.if-is-3.ensures.no refl) (c.if-is-4.ensures.no refl) (c.if-is-5.ensures.no refl) (c.if-not-is_at_type.ensures.no refl)) c.args.c.now refl None

pub returns : goal.returns
returns c =
    passed_on (λ tail. tail (place_at c.args.c.now) false) (w.start c.args.c.now (row.vars c.args.local (not c.args.local) c.args.c.now refl (c.if-not-is_at_type.ensures.yes refl))) c.vars_tail.new.c c.vars_tail.result
    (subst (λ at. AnswersTo (f.vars_tail (not c.args.local)) (λ tail. tail at false) c.args.c.now c.vars_tail.result c.vars_tail.new.c) c.place-place.ensures c.vars_tail.ensures)
