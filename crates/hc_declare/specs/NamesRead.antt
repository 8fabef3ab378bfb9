-- The names of declarations, as the code has them.
use Rattle.std.specs.Prelude.{List, map}
use Rattle.hc_scope.specs.Declaration as spec
use Rattle.hc_scope.specs.Parts as p
use Rattle.hc_declare.specs.declared.declared_names.DeclaredName.{DeclaredName}
use Rattle.hc_declare.specs.declared.declared_names.DeclaredName.TheVariants as d
use Rattle.hc_declare.specs.declared.declaration.NameList.{NameList}
use Rattle.hc_declare.specs.declared.declaration.NameList.TheVariants as n

-- a name of a declaration, with what is written of its object
abbrev pub name_read : DeclaredName → p.DeclaredName
name_read (d.Register x init) = p.a_register x.now init.now
name_read (d.Array m) = p.an_array m.now
name_read (d.Ram m) = p.a_ram m.now
name_read (d.Rom m) = p.a_rom m.now
name_read (d.Signal g) = p.a_signal g.now
name_read (d.Channel x) = p.a_channel x.now

-- the names of a declaration, in order
abbrev pub list_read : NameList → List p.DeclaredName
list_read (n.Vars vars) = map spec.var_name vars.now
list_read (n.Memories which memories) = map (spec.mem_name which) memories.now
list_read (n.Signals signals) = map p.a_signal signals.now
list_read (n.Channels channels) = map p.a_channel channels.now
