use Rattle.std.proofs.Common.{◌≡◌, ◌≤◌, drop, length}
use Rattle.class_builder.specs.Models.{nested}
use Rattle.class_builder.proofs.type_names.nested.Given as goal

abbrev pub invariant-kinds : goal.invariant-kinds
invariant-kinds l = (l.of_type ≡ nested (drop l.i l.kinds) l.fn.of_type) × (l.i ≤ length l.kinds)

abbrev pub decreases-kinds : goal.decreases-kinds
decreases-kinds l = l.i
