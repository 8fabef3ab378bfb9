use Rattle.std.proofs.Common.{sym, ◌∙◌, ap}
use Rattle.std.proofs.lemmas.List.{get_or_read}
use Rattle.std.specs.Prelude.{Some, []}
use Rattle.hc_outside.specs.FilesLemmas.{total}
use Rattle.std.specs.FinMap.{get-from_entries}
use Rattle.hc_outside.specs.MemFiles.{File, get-place}
use Rattle.hc_outside.proofs.mem_files.bytes_of.Goals as goal

pub returns-in-Some : goal.returns-in-Some
returns-in-Some c =
    let read = get_or_read c.args.files.now c.in-Some.i c.index-files-i.result c.in-Some.ensures.within c.index-files-i.is ([], []) in
    get-place c.in-Some.i c.args.name.now c.args.files.now c.in-Some.ensures.place
    ∙ ap Some (sym (c.bytes.ensures ∙ ap (λ (f : File). f.1) read))

pub returns-in-None : goal.returns-in-None
returns-in-None c = get-from_entries total c.args.files.now c.args.name.now ∙ c.in-None.ensures.place
