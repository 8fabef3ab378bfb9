-- Why a text is no stimulus.
use Rattle.std.specs.Prelude.{ℕ, List}
use Rattle.hc_stim.specs.Text.{IsBadLine}
use Rattle.hc_stim.specs.declared.stim.StimErr.{StimErr}
use Rattle.hc_stim.specs.declared.stim.StimErr.TheVariants.{BadLine, NoMemory}

-- the line that is named is the first that breaks the rules
abbrev pub IfBadLine : List ℕ → List ℕ → StimErr → Type 0
IfBadLine bytes widths (BadLine n) = IsBadLine bytes widths n
IfBadLine bytes widths NoMemory = Unit {0}
