use Rattle.object_state.specs.Looks.{look}
use Rattle.use_session.proofs.Framed.{top_is_call}
use Rattle.use_session.proofs.Keeping.{present_proper}
use Rattle.use_session.proofs.machine.Machine.scope.Goals as goal

pub top_bindings-requires : goal.top_bindings-requires
top_bindings-requires c =
    let k = c.args.self.now in
    top_is_call k.program k.frames (look k.store.layout k.store.state) (present_proper k c.requires).calls
