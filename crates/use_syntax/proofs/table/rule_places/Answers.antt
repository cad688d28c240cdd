use Rattle.use_syntax.specs.Language.{bodies}
use Rattle.use_syntax.proofs.table.rule_places.Goals as goal

pub returns : goal.returns
unfolding bodies
returns c = c.places_of_rules.ensures
