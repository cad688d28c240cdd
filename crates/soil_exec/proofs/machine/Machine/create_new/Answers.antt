use Rattle.std.proofs.Common.{refl}
use Rattle.soil_changes.specs.Creating.{create_new}
use Rattle.soil_changes.proofs.Adding.{new_adds}
use Rattle.soil_exec.proofs.Settled.{may_settle}
use Rattle.soil_exec.proofs.machine.Machine.create_new.Goals as goal

pub settle-requires-clause-since : goal.settle-requires-clause-since
settle-requires-clause-since c =
    may_settle (create_new c.args.class c.args.word.now c.args.given) c.args.self.now.transaction c.create_new-done.new.self c.create_new-done.result c.changes-since.result (new_adds c.args.class c.args.word.now c.args.given) c.create_new-done.ensures c.changes-since.ensures.count

pub returns-clause-gives : goal.returns-clause-gives
returns-clause-gives c = λ steps.
    (c.settle.ensures (create_new c.args.class c.args.word.now c.args.given) c.args.self.now steps (record {
      adds = new_adds c.args.class c.args.word.now c.args.given;
      gives = c.create_new-done.ensures;
      counted = c.changes-since.ensures.count;
      led = c.changes-since.ensures.led;
      current = c.requires.current;
      rest = refl;
    })).gives

pub returns-clause-follows : goal.returns-clause-follows
returns-clause-follows c =
    (c.settle.ensures (create_new c.args.class c.args.word.now c.args.given) c.args.self.now 0 (record {
      adds = new_adds c.args.class c.args.word.now c.args.given;
      gives = c.create_new-done.ensures;
      counted = c.changes-since.ensures.count;
      led = c.changes-since.ensures.led;
      current = c.requires.current;
      rest = refl;
    })).follows
