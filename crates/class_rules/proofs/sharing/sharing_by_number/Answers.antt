use Rattle.class_rules.proofs.SharedNames.{cannot}
use Rattle.class_rules.proofs.sharing.sharing_by_number.Goals as goal

pub returns : goal.returns
returns c = cannot c.args.rule c.args.index.now c.in_ok-groups.groups c.in_ok-all.all.items c.in_ok-groups.ensures c.in_ok-all.ensures
