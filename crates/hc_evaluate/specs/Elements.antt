-- The length and the first values of an array, RAM or ROM, as the code has them.
use Rattle.hc_scope.specs.Declaration.{Elements}
use Rattle.hc_scope.specs.declared.making.FirstValues.{FirstValues}

-- a length and first values
abbrev pub elements_read : FirstValues → Elements
elements_read e = record { count = e.count; values = e.values }
