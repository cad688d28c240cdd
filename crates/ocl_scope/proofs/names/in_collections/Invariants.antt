use Rattle.std.proofs.Common.{◌≡◌, ◌≤◌, length, drop}
use Rattle.ocl_scope.specs.Names.{in_collections}
use Rattle.ocl_scope.proofs.names.in_collections.Given as goal

abbrev pub invariant-kinds : goal.invariant-kinds
invariant-kinds l = record {
  within : l.i ≤ length l.kinds;
  nested : l.nested ≡ in_collections (drop l.i l.kinds) l.fn.of_type;
}

abbrev pub decreases-kinds : goal.decreases-kinds
decreases-kinds l = l.i
