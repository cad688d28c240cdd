use Rattle.use_nodes.specs.Whole.{HasItsParts}
use Rattle.use_nodes.proofs.Wholeness.{node_has_parts}
use Rattle.use_nodes.proofs.Walks.{derived_has, model_has, command_has}
use Rattle.use_nodes.proofs.law.trees_are_whole.Goals as goal

pub returns-clause-derived : goal.returns-clause-derived
returns-clause-derived c = derived_has HasItsParts node_has_parts

pub returns-clause-model : goal.returns-clause-model
returns-clause-model c = model_has HasItsParts node_has_parts

pub returns-clause-command : goal.returns-clause-command
returns-clause-command c = command_has HasItsParts node_has_parts
