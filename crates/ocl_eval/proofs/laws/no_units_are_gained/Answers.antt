use Rattle.ocl_eval.proofs.Spending.{leaves_at_most}
use Rattle.ocl_eval.proofs.laws.no_units_are_gained.Goals as goal

pub returns : goal.returns
returns c = λ p now pre env e. leaves_at_most p now pre env e
