use Rattle.std.proofs.Common.{ℕ, Option, None, Some, subst}
use Rattle.use_text.specs.declared.place.Place.{Place}
use Rattle.ocl_core.specs.declared.program.ProgramParts.{ProgramParts}
use Rattle.soil_exec.specs.Kept.{Gives, stand}
use Rattle.soil_exec.specs.Statements.{block, within}
use Rattle.soil_exec.proofs.execution.run.Goals as goal

pub returns : goal.returns
returns g c =
    let s = c.setting_of.ensures in
    let m = stand c.args.machine.now c.args.steps.now in
    let m' = stand c.block.new.machine c.block.new.steps in
    record {
      gives = subst (λ (z : ProgramParts × ℕ × Option Place). Gives (block z.0 (within z.0 z.1 z.2) (λ at. within z.0 z.1 (Some at) at) z.2 None c.args.body.now m)
          c.block.result m') (λ i. (s.program i, s.levels i, s.told i)) c.block.ensures.gives;
    }
