use Rattle.grammar_core.specs.Derives.{kinds}
use Rattle.use_syntax.specs.declared.rule.Rule.TheVariants as r
use Rattle.use_nodes.proofs.Depths.{derived_shallow}
use Rattle.use_nodes.proofs.Walks.{command_derived, model_derived}
use Rattle.use_nodes.proofs.law.trees_are_shallow.Goals as goal

pub returns-clause-derived : goal.returns-clause-derived
returns-clause-derived c = derived_shallow

pub returns-clause-model : goal.returns-clause-model
returns-clause-model c = λ text ts tree e. derived_shallow (kinds ts) r.File tree (model_derived text ts tree e).derived

pub returns-clause-command : goal.returns-clause-command
returns-clause-command c =
    λ first_line text ts tree e. derived_shallow (kinds ts) r.Command tree (command_derived first_line text ts tree e).derived
