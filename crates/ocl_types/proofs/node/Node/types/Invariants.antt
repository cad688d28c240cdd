use Rattle.std.proofs.Common.{◌≡◌, [], length}
use Rattle.ocl_types.specs.Nodes.{types}
use Rattle.ocl_types.specs.Parts.{part_in, scene}
use Rattle.ocl_types.proofs.node.Node.types.Given as goal

abbrev pub invariant-arguments : goal.invariant-arguments
invariant-arguments g l = record {
  same : types (scene l.self.setting) (part_in l.self.setting) l.fn.env [] l.fn.arguments
      ≡ types (scene l.self.setting) (part_in l.self.setting) l.env l.done l.rest;
  environment : l.env ≡ l.fn.env;
}

abbrev pub decreases-arguments : goal.decreases-arguments
decreases-arguments g l = length l.rest
