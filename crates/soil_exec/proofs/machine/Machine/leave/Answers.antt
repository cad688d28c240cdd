use Rattle.std.proofs.Common.{Ok, drop, length, sym, ap, ◌∙◌}
use Rattle.soil_exec.specs.Kept.{stand}
use Rattle.soil_exec.proofs.Bound.{left}
use Rattle.soil_exec.proofs.machine.Machine.leave.Goals as goal

pub returns-clause-gives : goal.returns-clause-gives
returns-clause-gives c = λ steps i. (
  Ok tt,
  record (stand c.args.self.now steps) {
    locals = (sym (left c.args.self.now c.args.len c.requires.within) ∙ ap (drop (length c.args.self.now.shell)) (sym c.truncate.ensures)) i;
  },
)
