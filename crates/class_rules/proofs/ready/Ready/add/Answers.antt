use Rattle.std.proofs.Common.{not, nat_lt}
use Rattle.class_rules.proofs.Pending.{before_added, one_ready}
use Rattle.class_rules.proofs.ready.Ready.add.Goals as goal

pub invariant_of-self : goal.invariant_of-self
invariant_of-self c =
    before_added c.insert.result c.self.inside.again.keys c.insert.new.self.keys c.args.place c.self.inside.next c.insert.ensures.keys c.insert.ensures.err
    c.if-place-self.true c.self.invariant

pub returns-in_ok-insert : goal.returns-in_ok-insert
returns-in_ok-insert c = λ i.
    rw (← c.self.view_is)
    (one_ready c.self.inside.again.keys c.insert.new.self.keys c.args.place i (not (nat_lt i c.self.inside.next)) c.in_ok-insert.ensures.keys)
