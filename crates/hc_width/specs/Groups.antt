-- The groups of operators of two operands, as the code names them.
use Rattle.hc_core.specs.Typed.{Group, Arithmetic, Division, Bitwise, Comparison, Shifting, Joining, Taking, Dropping, Logic}
use Rattle.hc_width.specs.declared.group.Group as code
use Rattle.hc_width.specs.declared.group.Group.TheVariants as g

-- the group of a name
abbrev pub group_named : code.Group → Group
group_named g.Arithmetic = Arithmetic
group_named g.Division = Division
group_named g.Bitwise = Bitwise
group_named g.Comparison = Comparison
group_named g.Shifting = Shifting
group_named g.Joining = Joining
group_named g.Taking = Taking
group_named g.Dropping = Dropping
group_named g.Logic = Logic
