use Rattle.ocl_syntax.proofs.ReadPlaces.{command_has_places, model_has_places}
use Rattle.ocl_syntax.proofs.laws.places_in_texts_are_those_of_tokens.Goals as goal

pub returns-clause-model : goal.returns-clause-model
returns-clause-model c = model_has_places

pub returns-clause-command : goal.returns-clause-command
returns-clause-command c = command_has_places
