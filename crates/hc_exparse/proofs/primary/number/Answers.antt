use Rattle.std.proofs.Common.{◌≡◌, Some, refl, sym, ap, ◌∙◌}
use Rattle.std.specs.Prelude.{option_map}
use Rattle.hc_tree.specs.declared.expr.ExprTree.TheVariants as e
use Rattle.hc_grammar.specs.declared.kind.Kind.TheVariants as kinds
use Rattle.hc_grammar.specs.Kind.{kind}
use Rattle.hc_grammar.specs.Table.{front}
use Rattle.hc_exparse.proofs.Walk.{start, mark_read, finished}
use Rattle.hc_exparse.proofs.Rows as row
use Rattle.hc_exparse.proofs.primary.number.Goals as goal

pub returns-in-Some : goal.returns-in-Some
returns-in-Some c =
    let t = c.in-Some.t.now in
    let is = c.in-Some.ensures.token c.in-Some.t refl in
    let known : Some (kind t) ≡ Some kinds.Number = sym (ap (λ ts. option_map kind (front ts)) is.0) ∙ c.requires in
    let of : kind t ≡ kinds.Number = cc in
    finished (mark_read (start c.args.c.now (row.number_row c.args.c.now t c.take.new.self.rest is.0 of)) t is.0 of is.1) (ap (e.Number t.place) c.number_of.ensures)
