use Rattle.std.proofs.Common.{◌≡◌}
use Rattle.std.specs.Vec.Iter.{into_iter_items}
use Rattle.soil_changes.specs.Acts.{each}
use Rattle.soil_changes.specs.Destroying.{clear_variable, clear_variables}
use Rattle.soil_changes.proofs.transaction.Transaction.clear_variables.Given as goal

abbrev pub invariant-names : goal.invariant-names
invariant-names l = record {
  same : each (clear_variable l.object) (into_iter_items l.name-iterator) l.self ≡ clear_variables l.object l.fn.self;
  links : l.self.state.links ≡ l.fn.self.state.links;
}
