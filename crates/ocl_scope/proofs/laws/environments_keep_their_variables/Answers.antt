use Rattle.ocl_scope.proofs.Kept.{none_kept, values_kept, variable_kept}
use Rattle.ocl_scope.proofs.laws.environments_keep_their_variables.Goals as goal

pub returns : goal.returns
returns c = record {
  empty = none_kept c.args.model.now;
  variable = variable_kept c.args.model.now c.args.env.now c.args.name.now c.args.of_type.now c.args.is_implicit c.requires.env c.requires.of_type;
  values = values_kept c.args.model.now c.args.env.now c.args.count c.requires.env;
}
