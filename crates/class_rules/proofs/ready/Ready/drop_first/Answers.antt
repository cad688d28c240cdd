use Rattle.class_rules.proofs.Pending.{before_rest}
use Rattle.class_rules.proofs.ready.Ready.drop_first.Goals as goal

pub invariant_of-self-else-is_none : goal.invariant_of-self-else-is_none
invariant_of-self-else-is_none c =
    before_rest c.pop_first.result c.self.inside.again.keys c.pop_first.new.self.keys c.self.inside.next c.pop_first.ensures.removal
    c.pop_first.ensures.unchanged c.self.invariant
