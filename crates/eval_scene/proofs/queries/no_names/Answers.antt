use Rattle.std.proofs.Common.{subst, sym}
use Rattle.ocl_scope.specs.Ranges.{IsEnvironmentOf}
use Rattle.ocl_scope.proofs.Kept.{none_kept}
use Rattle.eval_scene.proofs.queries.no_names.Goals as goal

pub returns : goal.returns
returns c = subst (IsEnvironmentOf c.args.model.now) (sym c.new.ensures) (none_kept c.args.model.now)
