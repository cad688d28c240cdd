use Rattle.use_syntax.proofs.Standing.{model_stands, command_stands}
use Rattle.use_syntax.proofs.law.refusals_stand_at_tokens.Goals as goal

pub returns-clause-model : goal.returns-clause-model
returns-clause-model c = model_stands

pub returns-clause-command : goal.returns-clause-command
returns-clause-command c = command_stands
