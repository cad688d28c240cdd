use Rattle.std.proofs.Common.{sym, subst}
use Rattle.ocl_core.specs.declared.statement.Target.{Target}
use Rattle.soil_exec.specs.Kept.{Gives, stand}
use Rattle.soil_exec.specs.Targets.{holder}
use Rattle.soil_exec.proofs.machine.Machine.holder.Goals as goal

pub returns-in-Attr-clause-gives : goal.returns-in-Attr-clause-gives
returns-in-Attr-clause-gives g c =
    subst (λ (t : Target). Gives (holder c.args.setting.now.program.now c.args.place t (stand c.args.self.now (g.V.Evaluator.count c.args.steps.now)))
    c.value.result (stand c.value.new.self (g.V.Evaluator.count c.value.new.steps))) (sym c.in-Attr.is) c.value.ensures.gives
