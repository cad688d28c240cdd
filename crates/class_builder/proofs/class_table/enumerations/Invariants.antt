use Rattle.std.proofs.Common.{◌≡◌, map, take}
use Rattle.class_builder.specs.Models.{enumeration}
use Rattle.class_builder.proofs.class_table.enumerations.Given as goal

abbrev pub invariant-decls : goal.invariant-decls
invariant-decls l = l.enums.items ≡ map enumeration (take l.decl-index l.decls)
