use Rattle.std.proofs.Common.{◌≡◌, [], length}
use Rattle.ocl_types.specs.Nodes.{values}
use Rattle.ocl_types.specs.Parts.{part_in, scene}
use Rattle.ocl_types.proofs.node.Node.values.Given as goal

abbrev pub invariant-arguments : goal.invariant-arguments
invariant-arguments g l = record {
  same : values (scene l.self.setting) (part_in l.self.setting) l.fn.env [] l.fn.arguments
      ≡ values (scene l.self.setting) (part_in l.self.setting) l.env l.done l.rest;
  environment : l.env ≡ l.fn.env;
}

abbrev pub decreases-arguments : goal.decreases-arguments
decreases-arguments g l = length l.rest
