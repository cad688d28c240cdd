use Rattle.std.proofs.Common.{◌≡◌, ◌++◌, map, take}
use Rattle.std.specs.HashMap.{get_by_text}
use Rattle.class_builder.specs.Models.{operation, type_by}
use Rattle.class_builder.proofs.features.add_operations.Given as goal

abbrev pub invariant-decls : goal.invariant-decls
invariant-decls l = l.ops.items ≡ l.fn.ops.items ++ map (operation (type_by (λ text. get_by_text l.names text)) l.class) (take l.decl-index l.decls)
