use Rattle.std.proofs.Common.{true, None, refl}
use Rattle.hc_grammar.specs.Walk as w
use Rattle.hc_tree.specs.declared.decl.MemoryKind.TheVariants.{Ram, Rom}
use Rattle.hc_parse.proofs.WalksDeclaration.{passed_to}
use Rattle.hc_parse.proofs.RowsDeclaration as row
use Rattle.hc_parse.proofs.declaration.static_tail.Goals as goal

pub returns-then-is : goal.returns-then-is
returns-then-is c = passed_to (λ tail at. tail at true Ram) (λ tail. tail c.args.place) (w.mark_passed (w.start c.args.c.now (row.static_ram c.args.c.now (c.if-is.ensures.yes refl))) c.take.new.self (c.if-is.ensures.yes refl) c.take.ensures.end c.take.ensures.token) c.memories_tail.new.c c.memories_tail.result c.memories_tail.ensures

pub returns-then-is-2 : goal.returns-then-is-2
returns-then-is-2 c = passed_to (λ tail at. tail at true Rom) (λ tail. tail c.args.place) (w.mark_passed (w.start c.args.c.now (row.static_rom c.args.c.now (c.if-is-2.ensures.yes refl))) c.take-then-is-2.new.self (c.if-is-2.ensures.yes refl) c.take-then-is-2.ensures.end c.take-then-is-2.ensures.token) c.memories_tail-then-is-2.new.c c.memories_tail-then-is-2.result c.memories_tail-then-is-2.ensures

pub returns-then-not-is_at_type : goal.returns-then-not-is_at_type
returns-then-not-is_at_type c = w.refused_front (row.no_static c.args.c.now (c.if-is.ensures.no refl) (c.if-is-2.ensures.no refl) (c.if-not-is_at_type.ensures.no refl)) c.args.c.now refl None

pub returns : goal.returns
returns c = passed_to (λ tail at. tail at true) (λ tail. tail c.args.place) (w.start c.args.c.now (row.static_vars c.args.c.now (c.if-is.ensures.no refl) (c.if-is-2.ensures.no refl) (c.if-not-is_at_type.ensures.yes refl))) c.vars_tail.new.c c.vars_tail.result c.vars_tail.ensures
