use Rattle.use_nodes.specs.Typed.{HasItsSorts}
use Rattle.use_nodes.proofs.Sorted.{node_has_sorts}
use Rattle.use_nodes.proofs.Walks.{derived_has, model_has, command_has}
use Rattle.use_nodes.proofs.law.trees_are_typed.Goals as goal

pub returns-clause-derived : goal.returns-clause-derived
returns-clause-derived c = derived_has HasItsSorts node_has_sorts

pub returns-clause-model : goal.returns-clause-model
returns-clause-model c = model_has HasItsSorts node_has_sorts

pub returns-clause-command : goal.returns-clause-command
returns-clause-command c = command_has HasItsSorts node_has_sorts
