use Rattle.std.proofs.Common.{sym, subst}
use Rattle.ocl_core.specs.declared.statement.Target.{Target}
use Rattle.soil_exec.specs.Kept.{Gives, stand}
use Rattle.soil_exec.specs.Targets.{put}
use Rattle.soil_exec.proofs.machine.Machine.put.Goals as goal

pub returns-in-Shell-clause-gives : goal.returns-in-Shell-clause-gives
returns-in-Shell-clause-gives c = λ steps.
    subst (λ (t : Target). Gives (put c.args.place t c.args.object.now c.args.value (stand c.args.self.now steps)) c.put_shell.result
    (stand c.put_shell.new.self steps)) (sym c.in-Shell.is) (c.put_shell.ensures.gives steps)
