-- The words of a job that was read.
use Rattle.std.specs.Prelude.{ℕ, List}
use Rattle.hc_run.specs.Words.{IsBuild, IsCheck}
use Rattle.hc_run.specs.declared.words.Job.{Job}
use Rattle.hc_run.specs.declared.words.Job.TheVariants.{Build, Check}

-- the words have this job
abbrev pub IsJob : List (List ℕ) → Job → Type 0
IsJob words (Build file edif) = IsBuild words file.now edif.now
IsJob words (Check file) = IsCheck words file.now
