use Rattle.ocl_scope.proofs.Absent.{operation_is_there}
use Rattle.soil_scope.proofs.calls.operation_of_class.Goals as goal

pub returns-then-class-class_count-clause-within : goal.returns-then-class-class_count-clause-within
returns-then-class-class_count-clause-within c = operation_is_there c.args.model.now c.args.class c.args.name.now c.op.result c.op.ensures
