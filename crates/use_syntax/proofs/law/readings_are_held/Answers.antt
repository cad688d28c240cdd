use Rattle.use_syntax.proofs.Held.{model_held, command_held}
use Rattle.use_syntax.proofs.law.readings_are_held.Goals as goal

pub returns-clause-model : goal.returns-clause-model
returns-clause-model c = model_held

pub returns-clause-command : goal.returns-clause-command
returns-clause-command c = command_held
