use Rattle.std.proofs.Common.{refl}
use Rattle.soil_changes.specs.Destroying.{destroy_all}
use Rattle.soil_changes.proofs.Adding.{destroyed_add}
use Rattle.soil_exec.proofs.Settled.{may_settle}
use Rattle.soil_exec.proofs.machine.Machine.destroy_all.Goals as goal

pub settle-requires-clause-since : goal.settle-requires-clause-since
settle-requires-clause-since c =
    may_settle (destroy_all c.args.values.now) c.args.self.now.transaction c.destroy_all-done.new.self c.destroy_all-done.result c.changes-since.result (destroyed_add c.args.values.now) c.destroy_all-done.ensures c.changes-since.ensures.count

pub returns-clause-gives : goal.returns-clause-gives
returns-clause-gives c = λ steps.
    (c.settle.ensures (destroy_all c.args.values.now) c.args.self.now steps (record {
      adds = destroyed_add c.args.values.now;
      gives = c.destroy_all-done.ensures;
      counted = c.changes-since.ensures.count;
      led = c.changes-since.ensures.led;
      current = c.requires.current;
      rest = refl;
    })).gives

pub returns-clause-follows : goal.returns-clause-follows
returns-clause-follows c =
    (c.settle.ensures (destroy_all c.args.values.now) c.args.self.now 0 (record {
      adds = destroyed_add c.args.values.now;
      gives = c.destroy_all-done.ensures;
      counted = c.changes-since.ensures.count;
      led = c.changes-since.ensures.led;
      current = c.requires.current;
      rest = refl;
    })).follows
