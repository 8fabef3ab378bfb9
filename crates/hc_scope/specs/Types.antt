-- Types as the code has them.
use Rattle.hc_scope.specs.Parts.{TypeOf}
use Rattle.hc_scope.specs.declared.value_type.ValueType.{ValueType}

abbrev pub type_read : ValueType → TypeOf
type_read t = record { width = t.width; signed = t.signed }
