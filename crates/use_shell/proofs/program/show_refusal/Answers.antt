use Rattle.use_shell.proofs.MoveLemmas.{on_err, front_of_none}
use Rattle.use_shell.proofs.program.show_refusal.Goals as goal

pub returns-in_err-line-clause-err : goal.returns-in_err-line-clause-err
returns-in_err-line-clause-err g c = on_err c.from_residual.result _ (front_of_none _ _)

pub returns-in_err-push_str-clause-err : goal.returns-in_err-push_str-clause-err
returns-in_err-push_str-clause-err g c = on_err c.from_residual-in_err-push_str.result _ (front_of_none _ _)
