use Rattle.use_syntax.specs.Language.{nests}
use Rattle.use_syntax.proofs.table.rule_nests.Goals as goal

pub returns : goal.returns
unfolding nests
returns c = c.flags_of_rules.ensures
