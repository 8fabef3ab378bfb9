use Rattle.std.proofs.Common.{◌∙◌}
use Rattle.std.specs.String.{string_bytes}
use Rattle.hc_run.proofs.JobWords.{four_words, job_of_four}
use Rattle.hc_run.proofs.words.read_words.Goals as goal

pub returns-in-len4 : goal.returns-in-len4
returns-in-len4 c =
    let all = four_words string_bytes c.args.words.now c.job-item-then-words-lt5.result c.file-item-then-words-lt5.result c.option-item.result c.edif-item.result
    c.in-len4.len_at_least c.in-len4.len_below c.job-item-then-words-lt5.is c.file-item-then-words-lt5.is c.option-item.is c.edif-item.is in
    job_of_four _ _ _ _ _ c.read_build.result
    (all ∙ (cc (c.as_str-in-len4.ensures.value, c.as_str-in-len4-2.ensures.value, c.as_str-in-len4-3.ensures.value, c.as_str-in-len4-4.ensures.value)))
    c.read_build.ensures
