use Rattle.std.proofs.Common.{◌≡◌, true, Some, refl, ap, ◌∙◌}
use Rattle.std.specs.Prelude.{option_map}
use Rattle.hc_grammar.specs.Kind.{kind, is_name}
use Rattle.hc_grammar.specs.Table.{front}
use Rattle.hc_exparse.proofs.Walk.{start, mark_read, finished, refused_front}
use Rattle.hc_exparse.proofs.Rows.{name_none, no_name, name_at}
use Rattle.hc_exparse.proofs.names.ident.Goals as goal

pub returns-in-None : goal.returns-in-None
returns-in-None c = refused_front refl (name_none c.args.c.now c.in-None.ensures)

pub returns-then-not-is_name : goal.returns-then-not-is_name
returns-then-not-is_name c = refused_front refl (no_name c.args.c.now c.in-Some.kind c.in-Some.ensures (cc))

pub returns-in-Ok : goal.returns-in-Ok
returns-in-Ok c =
    let t = c.in-Some-take.t.now in
    let is = c.in-Some-take.ensures.token c.in-Some-take.t refl in
    let of : Some c.in-Some.kind ≡ Some (kind t) = c.in-Some.ensures ∙ ap (λ ts. option_map kind (front ts)) is.0 in
    let named : is_name (kind t) ≡ true = cc in
    finished (mark_read (start c.args.c.now (name_at c.args.c.now t c.take.new.self.rest is.0 named)) t is.0 refl is.1) (ap (λ n. record { place = t.place; name = n }) c.in-Ok.ensures)
