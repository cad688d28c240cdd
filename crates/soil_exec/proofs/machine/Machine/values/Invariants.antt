use Rattle.std.proofs.Common.{◌≡◌, All, drop}
use Rattle.ocl_values.specs.Shape.{IsWellMade}
use Rattle.soil_exec.specs.Kept.{Follows, stand}
use Rattle.soil_exec.specs.Values.{values, values_behind}
use Rattle.soil_exec.proofs.machine.Machine.values.Given as goal

abbrev pub invariant-expressions : goal.invariant-expressions
invariant-expressions g l = record {
  same : values_behind l.setting.program.now l.place l.values (drop l.e-index l.es) (stand l.self (g.V.Evaluator.count l.steps))
      ≡ values l.setting.program.now l.place l.fn.es (stand l.fn.self (g.V.Evaluator.count l.fn.steps));
  follows : Follows l.fn.self l.self;
  well_made : All IsWellMade l.values;
}
