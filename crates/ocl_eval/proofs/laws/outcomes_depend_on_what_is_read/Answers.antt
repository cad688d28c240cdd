use Rattle.ocl_eval.proofs.Local.{same_outcome}
use Rattle.ocl_eval.proofs.laws.outcomes_depend_on_what_is_read.Goals as goal

pub returns : goal.returns
returns c = λ p now other pre env e reads h. same_outcome now other p pre env e reads h
