-- The numbers of the statuses. They are this project's own.
use Rattle.std.specs.Prelude.{ℕ}
use Rattle.hc_run.specs.declared.status.Status.{Status}
use Rattle.hc_run.specs.declared.status.Status.TheVariants.{Done, Refused, Usage, ReadFault, WriteFault, NoMemory, Longer}

-- the number of a status, which is the program's exit status
abbrev pub number_of : Status → ℕ
number_of Done = 0
number_of (Refused refusal) = 1
number_of Usage = 2
number_of (ReadFault role) = 3
number_of WriteFault = 4
number_of NoMemory = 5
number_of (Longer role) = 8
