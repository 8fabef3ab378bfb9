-- The lines that the top call writes, each with its line feed. Their form is this project's own.
use Rattle.std.specs.Prelude.{ℕ, List, ◌++◌, codes, decimal}
use Rattle.hc_run.specs.declared.status.Role.{Role}
use Rattle.hc_run.specs.declared.status.Role.TheVariants.{Source}

-- what was built, with the numbers of gates, flip-flops and RAMs
unfoldable pub built_line : ℕ → ℕ → ℕ → List ℕ
built_line gates flops rams =
    codes "built: gates " ++ decimal gates ++ codes ", flip-flops " ++ decimal flops ++ codes ", rams " ++ decimal rams ++ codes "\n"

-- what was checked, with the number of objects, the weight and the number of flip-flops
unfoldable pub checked_line : ℕ → ℕ → ℕ → List ℕ
checked_line objects weight flops = codes "objects " ++ decimal objects ++ codes ", weight " ++ decimal weight ++ codes ", flip-flops " ++ decimal flops ++ codes "\n"

-- the words of every job
unfoldable pub usage_line : List ℕ
usage_line = codes "usage: hcc build FILE [--edif FILE] [--verilog FILE] | check FILE | sim FILE --stim FILE --trace FILE | nsim FILE --stim FILE --trace FILE | compare FILE --net FILE --stim FILE | gen N | cells\n"

-- the name of a file of a job
unfoldable pub role_name : Role → List ℕ
role_name Source = codes "source"

-- a file that couldn't be read
unfoldable pub read_fault_line : Role → List ℕ
read_fault_line role = codes "read fault: " ++ role_name role ++ codes "\n"

-- a file that is over its limit
unfoldable pub longer_line : Role → List ℕ
longer_line role = codes "too long: " ++ role_name role ++ codes "\n"
