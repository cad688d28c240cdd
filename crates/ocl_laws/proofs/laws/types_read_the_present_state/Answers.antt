use Rattle.ocl_laws.proofs.Now.{typed_now}
use Rattle.ocl_laws.proofs.laws.types_read_the_present_state.Goals as goal

pub returns : goal.returns
returns c = typed_now c.args.model.now c.args.env.now c.args.written.now
