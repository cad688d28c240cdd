use Rattle.std.proofs.Common.{refl}
use Rattle.soil_changes.specs.Storing.{set_slot}
use Rattle.soil_changes.proofs.Adding.{slot_adds}
use Rattle.soil_exec.proofs.machine.Machine.put_attr.Goals as goal

pub returns-clause-gives : goal.returns-clause-gives
returns-clause-gives c = λ steps.
    (c.settle.ensures (set_slot c.args.object.now c.args.attr c.args.value) c.args.self.now steps (record {
      adds = slot_adds c.args.object.now c.args.attr c.args.value;
      gives = c.set_slot-done.ensures;
      counted = c.changes-since.ensures.count;
      led = c.changes-since.ensures.led;
      current = c.requires.current;
      rest = refl;
    })).gives

pub returns-clause-follows : goal.returns-clause-follows
returns-clause-follows c =
    (c.settle.ensures (set_slot c.args.object.now c.args.attr c.args.value) c.args.self.now 0 (record {
      adds = slot_adds c.args.object.now c.args.attr c.args.value;
      gives = c.set_slot-done.ensures;
      counted = c.changes-since.ensures.count;
      led = c.changes-since.ensures.led;
      current = c.requires.current;
      rest = refl;
    })).follows
