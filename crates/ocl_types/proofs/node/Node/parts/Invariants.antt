use Rattle.std.proofs.Common.{◌≡◌, [], length}
use Rattle.ocl_types.specs.Nodes.{parts}
use Rattle.ocl_types.specs.Parts.{part_in, scene}
use Rattle.ocl_types.proofs.node.Node.parts.Given as goal

abbrev pub invariant-parts : goal.invariant-parts
invariant-parts g l = record {
  same : parts (scene l.self.setting) (part_in l.self.setting) l.fn.env [] l.fn.all
      ≡ parts (scene l.self.setting) (part_in l.self.setting) l.env l.done l.rest;
  environment : l.env ≡ l.fn.env;
}

abbrev pub decreases-parts : goal.decreases-parts
decreases-parts g l = length l.rest
