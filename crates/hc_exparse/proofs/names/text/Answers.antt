use Rattle.std.proofs.Common.{◌≡◌, Some, None, refl, sym, ap, ◌∙◌}
use Rattle.std.specs.Prelude.{option_map}
use Rattle.hc_grammar.specs.declared.kind.Kind.TheVariants as k
use Rattle.hc_grammar.specs.Kind.{kind}
use Rattle.hc_grammar.specs.Table.{front}
use Rattle.hc_grammar.specs.Walk.{start, mark_read, finished, refused_front}
use Rattle.hc_exparse.proofs.Rows.{no_text, text_at}
use Rattle.hc_exparse.proofs.names.text.Goals as goal

pub returns-then-not-is : goal.returns-then-not-is
returns-then-not-is c = refused_front (no_text c.args.c.now (c.if-not-is.ensures.no refl)) c.args.c.now refl None

pub returns-in-Ok : goal.returns-in-Ok
returns-in-Ok c =
    let t = c.in-Some.t.now in
    let is = c.in-Some.ensures.token c.in-Some.t refl in
    let known : Some (kind t) ≡ Some k.Text = sym (ap (λ ts. option_map kind (front ts)) is.0) ∙ c.if-not-is.ensures.yes refl in
    let of : kind t ≡ k.Text = cc in
    finished (mark_read (start c.args.c.now (text_at c.args.c.now t c.take.new.self.rest is.0 of)) t is.0 of is.1) c.in-Ok.ensures
