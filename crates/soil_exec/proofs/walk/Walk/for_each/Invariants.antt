use Rattle.std.proofs.Common.{◌≡◌, All}
use Rattle.std.specs.Vec.Iter.{into_iter_items}
use Rattle.ocl_values.specs.Shape.{IsWellMade}
use Rattle.soil_changes.specs.Acts.{each}
use Rattle.soil_exec.specs.Kept.{Follows, stand}
use Rattle.soil_exec.specs.Parts.{inside_in}
use Rattle.soil_exec.specs.Statements.{for_each, turn}
use Rattle.soil_exec.proofs.walk.Walk.for_each.Given as goal

abbrev pub invariant-turns : goal.invariant-turns
invariant-turns g l = record {
  same : each (turn l.self.setting.program.now (inside_in l.self.setting) l.place l.body) (into_iter_items l.value-iterator)
      (stand l.machine (g.V.Evaluator.count l.steps))
      ≡ for_each l.self.setting.program.now (inside_in l.self.setting) l.place l.e l.body (stand l.fn.machine (g.V.Evaluator.count l.fn.steps));
  follows : Follows l.fn.machine l.machine;
  well_made : All IsWellMade (into_iter_items l.value-iterator);
}
