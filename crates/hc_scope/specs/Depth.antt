-- How deep scopes lie in scopes: an argument's scope lies deeper than the one that binds it.
use Rattle.std.specs.Prelude.{ℕ, ◌+◌}
use Rattle.hc_scope.specs.Scope.{Meaning, an_object, an_interface, a_number, an_expression, a_procedure, an_argument, Scope, outside, opened, declared}

abbrev mutual
  pub depth : Scope → ℕ
  depth outside = 0
  depth (opened around) = depth around
  depth (declared y m rest) = depth_of m + depth rest

  pub depth_of : Meaning → ℕ
  depth_of (an_object k) = 0
  depth_of (an_interface k port) = 0
  depth_of (a_number v) = 0
  depth_of (an_expression parameters body) = 0
  depth_of (a_procedure parameters body) = 0
  depth_of (an_argument e scope) = depth scope + 1
