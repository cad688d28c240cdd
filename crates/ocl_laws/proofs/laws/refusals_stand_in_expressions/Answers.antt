use Rattle.ocl_laws.proofs.PlacesStand.{refusals}
use Rattle.ocl_laws.proofs.laws.refusals_stand_in_expressions.Goals as goal

pub returns : goal.returns
returns c = refusals c.args.model.now c.args.is_post c.args.env.now c.args.written.now
