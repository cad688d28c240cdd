use Rattle.ocl_scope.proofs.Absent.{no_feature, no_operation}
use Rattle.ocl_scope.proofs.features.has_nothing.Goals as goal

pub returns : goal.returns
returns c = record {
  feature = no_feature c.args.model.now c.args.class c.args.name.now c.requires c.has_numbers_in_range.ensures;
  operation = no_operation c.args.model.now c.args.class c.args.name.now c.requires c.has_numbers_in_range.ensures;
}
