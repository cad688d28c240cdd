use Rattle.std.proofs.Common.{refl}
use Rattle.soil_changes.specs.Creating.{create_all}
use Rattle.soil_changes.proofs.Adding.{all_add}
use Rattle.soil_exec.proofs.Settled.{may_settle}
use Rattle.soil_exec.proofs.machine.Machine.create.Goals as goal

pub settle-requires-clause-since : goal.settle-requires-clause-since
settle-requires-clause-since c =
    may_settle (create_all c.args.class c.args.names.now) c.args.self.now.transaction c.create_all-done.new.self c.create_all-done.result c.changes-since.result (all_add c.args.class c.args.names.now) c.create_all-done.ensures c.changes-since.ensures.count

pub returns-clause-gives : goal.returns-clause-gives
returns-clause-gives c = λ steps.
    (c.settle.ensures (create_all c.args.class c.args.names.now) c.args.self.now steps (record {
      adds = all_add c.args.class c.args.names.now;
      gives = c.create_all-done.ensures;
      counted = c.changes-since.ensures.count;
      led = c.changes-since.ensures.led;
      current = c.requires.current;
      rest = refl;
    })).gives

pub returns-clause-follows : goal.returns-clause-follows
returns-clause-follows c =
    (c.settle.ensures (create_all c.args.class c.args.names.now) c.args.self.now 0 (record {
      adds = all_add c.args.class c.args.names.now;
      gives = c.create_all-done.ensures;
      counted = c.changes-since.ensures.count;
      led = c.changes-since.ensures.led;
      current = c.requires.current;
      rest = refl;
    })).follows
