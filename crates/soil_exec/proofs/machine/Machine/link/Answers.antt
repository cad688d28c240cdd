use Rattle.std.proofs.Common.{refl}
use Rattle.soil_changes.specs.Joining.{insert}
use Rattle.soil_changes.proofs.Adding.{insert_adds}
use Rattle.soil_exec.proofs.machine.Machine.link.Goals as goal

pub returns-clause-gives : goal.returns-clause-gives
returns-clause-gives c = λ steps.
    (c.settle.ensures (insert c.args.assoc c.args.first.now c.args.second.now) c.args.self.now steps (record {
      adds = insert_adds c.args.assoc c.args.first.now c.args.second.now;
      gives = c.insert-done.ensures;
      counted = c.changes-since.ensures.count;
      led = c.changes-since.ensures.led;
      current = c.requires.current;
      rest = refl;
    })).gives

pub returns-clause-follows : goal.returns-clause-follows
returns-clause-follows c =
    (c.settle.ensures (insert c.args.assoc c.args.first.now c.args.second.now) c.args.self.now 0 (record {
      adds = insert_adds c.args.assoc c.args.first.now c.args.second.now;
      gives = c.insert-done.ensures;
      counted = c.changes-since.ensures.count;
      led = c.changes-since.ensures.led;
      current = c.requires.current;
      rest = refl;
    })).follows
