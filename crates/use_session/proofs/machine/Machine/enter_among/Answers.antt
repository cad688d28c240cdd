use Rattle.std.proofs.Common.{ℕ, List, subst}
use Rattle.use_session.specs.Answering.{Answers}
use Rattle.use_session.specs.Kept.{machine_of}
use Rattle.use_session.specs.Machine.{enter}
use Rattle.use_session.proofs.machine.Machine.enter_among.Goals as goal

pub returns : goal.returns
returns g c =
    subst (λ (shell : List (List ℕ)). Answers (enter (machine_of c.args.self.now) c.args.word c.args.receiver.now c.args.op c.args.args.now shell) c.args.out.now.items
    c.args.steps.now c.enter.result c.enter.new.self c.enter.new.out.items c.enter.new.steps) c.in_ok-names.ensures c.enter.ensures
