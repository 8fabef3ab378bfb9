-- A tree expands to one core, or is refused once, and never both.
use Rattle.std.proofs.Common.{◌≡◌, refl, sym, ap, ◌∙◌, ◌⊎◌, inl, inr}
use Rattle.hc_tree.specs.declared.refusal.Refusal.{Refusal}
use Rattle.hc_tree.specs.declared.item.Tree.{Tree}
use Rattle.hc_core.specs.declared.object.Core.{Core}
use Rattle.hc_scope.specs.Expansion.{Outcome, Yields, Refuses}
use Rattle.hc_scope.specs.Expands.{Program, program_of, expansion, Expands, Stops}
use Rattle.hc_expand.proofs.WrittenStatement.{written_statement, read_statement, statement_written}

-- the core of a program
abbrev core_of : Program → Core
core_of p = record { objects = p.objects; main = written_statement p.main; clock = p.clock }

core_back : (core : Core) → core_of (program_of core) ≡ core
core_back core = λ i. record { objects = core.objects; main = statement_written core.main i; clock = core.clock }

program_back : (p : Program) → program_of (core_of p) ≡ p
program_back p = λ i. record { objects = p.objects; main = read_statement p.main i; clock = p.clock }

-- cores with one program are one core
pub one_core : (a b : Core) → program_of a ≡ program_of b → a ≡ b
one_core a b same = sym (core_back a) ∙ ap core_of same ∙ core_back b

-- a tree has one core
pub one_expansion : (tree : Tree) (a b : Core) → Expands tree a → Expands tree b → a ≡ b
one_expansion tree a b p q =
    let same : Yields (program_of a) (p.0) ≡ Yields (program_of b) (q.0) = sym p.1 ∙ q.1 in
    one_core a b (cc)

-- no tree has a core and is refused
pub never_both : (tree : Tree) (core : Core) (r : Refusal) → Expands tree core → Stops tree r → ⊥
never_both tree core r p q =
    let same : Yields (program_of core) (p.0) ≡ Refuses r = sym p.1 ∙ q in
    cc

-- a tree is refused for one reason
pub one_stop : (tree : Tree) (r q : Refusal) → Stops tree r → Stops tree q → r ≡ q
one_stop tree r q stops again =
    let same : Path (Outcome Program) (Refuses r) (Refuses q) = sym stops ∙ again in
    cc

by_outcome : (tree : Tree) (o : Outcome Program) → expansion tree ≡ o → ((core : Core) × Expands tree core) ⊎ ((r : Refusal) × Stops tree r)
by_outcome tree (Yields p s) is = inl (core_of p, (s, is ∙ ap (λ x. Yields x s) (sym (program_back p))))
by_outcome tree (Refuses r) is = inr (r, is)

-- each tree has a core or is refused
pub expands_or_stops : (tree : Tree) → ((core : Core) × Expands tree core) ⊎ ((r : Refusal) × Stops tree r)
expands_or_stops tree = by_outcome tree (expansion tree) refl
