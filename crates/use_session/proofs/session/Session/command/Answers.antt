use Rattle.std.proofs.Common.{◌≡◌, ◌++◌, ◌+◌, ap, ◌∙◌, subst}
use Rattle.use_session.specs.Answering.{Held, machine_in}
use Rattle.use_session.specs.Machine.{step}
use Rattle.use_session.proofs.session.Session.command.Goals as goal

pub returns-in-Ok-clause-bytes : goal.returns-in-Ok-clause-bytes
returns-in-Ok-clause-bytes g c =
    subst (λ (s : Held). c.answer-answered.new.out.items ≡ c.args.out.now.items ++ (step (machine_in s) c.args.cut.now).bytes) c.self.view_is c.in-Ok.ensures.answer.bytes

pub returns-in-Ok-clause-turn : goal.returns-in-Ok-clause-turn
returns-in-Ok-clause-turn g c = subst (λ (s : Held). c.in-Ok.turn ≡ (step (machine_in s) c.args.cut.now).turn) c.self.view_is c.in-Ok.ensures.answer.turn

pub returns-in-Ok-clause-machine : goal.returns-in-Ok-clause-machine
returns-in-Ok-clause-machine g c = c.in-Ok.ensures.answer.machine ∙ ap (λ (s : Held). (step (machine_in s) c.args.cut.now).machine) c.self.view_is

pub returns-in-Ok-clause-units : goal.returns-in-Ok-clause-units
returns-in-Ok-clause-units g c =
    subst (λ (s : Held). c.answer-answered.new.steps ≡ c.args.steps.now + (step (machine_in s) c.args.cut.now).units) c.self.view_is c.in-Ok.ensures.answer.units
