use Rattle.std.proofs.Common.{◌≡◌, ◌++◌, map}
use Rattle.ocl_syntax.specs.declared.layer.Behind.TheVariants.{Step}
use Rattle.ocl_syntax.proofs.forms.steps_of.Given as goal

abbrev pub invariant-steps : goal.invariant-steps
invariant-steps l = record {
  can : (goal.iterator-steps).can_next l.step-iterator;
  ends : (goal.iterator-steps).is_finite l.step-iterator;
  so_far : l.found.items ++ map Step l.step-iterator ≡ map Step l.fn.steps;
}
