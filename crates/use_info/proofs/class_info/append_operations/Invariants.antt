use Rattle.std.proofs.Common.{◌≡◌, ◌++◌, take}
use Rattle.std.specs.List.{flat_map}
use Rattle.use_info.specs.Classes.{operation_line}
use Rattle.use_info.proofs.class_info.append_operations.Given as goal

abbrev pub invariant-ops : goal.invariant-ops
invariant-ops l = l.out.items ≡ l.initial.out.items ++ flat_map (operation_line l.model) (take l.op-index l.ops)
