use Rattle.class_rules.proofs.Grouped.{listed_left}
use Rattle.class_rules.proofs.groups.take.Goals as goal

pub returns-in-Some-clause-left : goal.returns-in-Some-clause-left
returns-in-Some-clause-left g c = listed_left c.args.groups.now c.remove.new.self c.args.name.now c.remove.ensures.updates
