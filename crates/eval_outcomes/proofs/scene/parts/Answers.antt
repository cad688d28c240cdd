use Rattle.std.proofs.Common.{subst, sym}
use Rattle.ocl_core.specs.Programs.{IsSoundProgram}
use Rattle.eval_outcomes.proofs.Sound.{is_sound}
use Rattle.eval_outcomes.proofs.scene.parts.Goals as goal

pub returns-clause-sound : goal.returns-clause-sound
returns-clause-sound c = subst IsSoundProgram (sym c.as_parts.ensures) (is_sound c.args.program.now c.is_checked.ensures)
