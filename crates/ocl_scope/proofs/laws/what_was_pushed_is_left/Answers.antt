use Rattle.ocl_scope.proofs.Scopes.{left_values, left_variable}
use Rattle.ocl_scope.proofs.laws.what_was_pushed_is_left.Goals as goal

pub returns : goal.returns
returns c = record {
  variable = left_variable c.args.env.now c.args.name.now c.args.of_type.now c.args.is_implicit;
  values = left_values c.args.env.now c.args.count;
}
