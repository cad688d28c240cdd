use Rattle.std.proofs.Common.{◌≡◌, [], false}
use Rattle.ocl_shapes.specs.Combining.{each}
use Rattle.soil_scope.specs.Expressions.{expression_at}
use Rattle.soil_scope.specs.Scenes.{scene}
use Rattle.soil_types.proofs.objects.expressions.Given as goal

abbrev pub invariant-objects : goal.invariant-objects
invariant-objects l = record {
  can : (goal.iterator-objects).can_next l.node-iterator;
  ends : (goal.iterator-objects).is_finite l.node-iterator;
  same : each (expression_at (scene l.setting) false l.fn.env) [] l.fn.nodes ≡ each (expression_at (scene l.setting) false l.fn.env) l.done l.node-iterator;
  environment : l.env ≡ l.fn.env;
}
