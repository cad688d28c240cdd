use Rattle.std.proofs.Common.{nat_eq, ap, sym, ◌∙◌}
use Rattle.object_state.specs.Looks.{look}
use Rattle.use_session.proofs.Framed.{as_many}
use Rattle.use_session.proofs.machine.Machine.has_no_call.Goals as goal

pub returns : goal.returns
returns c =
    let k = c.args.self.now in
    ap (λ n. nat_eq n 0) (c.depth.ensures ∙ sym (as_many k.frames (look k.store.layout k.store.state)))
