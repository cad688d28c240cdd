use Rattle.ocl_eval.proofs.More.{stays_done}
use Rattle.ocl_eval.proofs.laws.what_is_done_stays_done.Goals as goal

pub returns : goal.returns
returns c = λ p now pre levels more k at env e m left v h. stays_done k p now pre more levels at env e m left v h
