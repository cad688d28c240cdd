use Rattle.std.proofs.Common.{refl}
use Rattle.soil_changes.specs.Storing.{set_variable}
use Rattle.soil_changes.proofs.Adding.{variable_adds}
use Rattle.soil_exec.proofs.machine.Machine.put_shell.Goals as goal

pub returns-clause-gives : goal.returns-clause-gives
returns-clause-gives c = λ steps.
    (c.settle.ensures (set_variable c.args.name.now c.args.of_type.now c.args.value) c.args.self.now steps (record {
      adds = variable_adds c.args.name.now c.args.of_type.now c.args.value;
      gives = c.set_variable-done.ensures;
      counted = c.changes-since.ensures.count;
      led = c.changes-since.ensures.led;
      current = c.requires.current;
      rest = refl;
    })).gives

pub returns-clause-follows : goal.returns-clause-follows
returns-clause-follows c =
    (c.settle.ensures (set_variable c.args.name.now c.args.of_type.now c.args.value) c.args.self.now 0 (record {
      adds = variable_adds c.args.name.now c.args.of_type.now c.args.value;
      gives = c.set_variable-done.ensures;
      counted = c.changes-since.ensures.count;
      led = c.changes-since.ensures.led;
      current = c.requires.current;
      rest = refl;
    })).follows
