use Rattle.std.proofs.Common.{rules, ◌≡◌, ◌∷◌, map, Some, sym, ◌∙◌, ap}
use Rattle.std.specs.String.{string_bytes}
use Rattle.hc_words.specs.Kind.{kind_of}
use Rattle.hc_words.specs.IsJob.{IsJob}
use Rattle.hc_words.specs.Answer.{FitsWords}
use Rattle.hc_words.proofs.Fitting.{usage_as, job_fits}
use Rattle.hc_words.proofs.words.read_words.Goals as goal

pub returns-in-Some-kind_of-clause-usage : goal.returns-in-Some-kind_of-clause-usage
returns-in-Some-kind_of-clause-usage c =
    let are : map string_bytes c.args.words.now ≡ string_bytes c.in-Some.name.now ∷ map string_bytes c.in-Some.rest.now = search rules in
    let is : kind_of (string_bytes c.in-Some.name.now) ≡ Some c.in-Some-kind_of.kind =
    ap kind_of (sym c.as_str.ensures.value) ∙ sym c.kind_of.ensures ∙ c.in-Some-kind_of.is in
    usage_as c.read_job.result (FitsWords c.in-Some-kind_of.kind (map string_bytes c.in-Some.rest.now)) (IsJob (map string_bytes c.args.words.now))
    (job_fits _ _ _ c.in-Some-kind_of.kind are is) c.read_job.ensures.usage
