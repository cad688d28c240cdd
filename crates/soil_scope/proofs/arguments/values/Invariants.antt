use Rattle.std.proofs.Common.{◌≡◌, [], length}
use Rattle.ocl_shapes.specs.Combining.{each}
use Rattle.soil_scope.specs.Arguments.{argument_value}
use Rattle.soil_scope.specs.Scenes.{scene}
use Rattle.soil_scope.proofs.arguments.values.Given as goal

abbrev pub invariant-arguments : goal.invariant-arguments
invariant-arguments l = record {
  same : each (argument_value (scene l.setting) l.fn.env) [] l.fn.arguments
      ≡ each (argument_value (scene l.setting) l.fn.env) l.done l.rest;
  environment : l.env ≡ l.fn.env;
}

abbrev pub decreases-arguments : goal.decreases-arguments
decreases-arguments l = length l.rest
