use Rattle.class_rules.proofs.Grouped.{listed_put}
use Rattle.class_rules.proofs.groups.put.Goals as goal

pub returns : goal.returns
returns g c = listed_put c.args.groups.now c.insert.new.self c.args.name c.args.row c.in_ok-insert.ensures.updates
