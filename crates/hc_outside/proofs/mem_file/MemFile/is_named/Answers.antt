use Rattle.std.proofs.Common.{sym, ◌∙◌, ap}
use Rattle.std.specs.Str.{bytes_eq}
use Rattle.std.proofs.lemmas.Map.Text.{is_eq-slice_cmp}
use Rattle.hc_outside.proofs.mem_file.MemFile.is_named.Goals as goal

pub returns : goal.returns
returns c =
    let name = ap (λ n. bytes_eq n c.as_slice.result.now) c.as_bytes.ensures.value in
    let own = ap (bytes_eq c.args.name.now) (c.as_slice.ensures.value ∙ ap (λ f. f.0) c.self.view_is) in
    c.eq.ensures ∙ name ∙ own ∙ sym (is_eq-slice_cmp c.args.name.now c.args.self.now.0)
