use Rattle.std.proofs.Common.{◌≡◌, ◌+◌, length}
use Rattle.soil_types.specs.Statements.{with_locals}
use Rattle.soil_types.proofs.forms.with_locals.Given as goal

abbrev pub invariant-names : goal.invariant-names
invariant-names l = record {
  same : with_locals l.place l.of_type l.fn.variables l.fn.names ≡ with_locals l.place l.of_type l.variables l.rest;
  size : l.variables.environment.size + length l.rest ≡ l.fn.variables.environment.size + length l.fn.names;
}

abbrev pub decreases-names : goal.decreases-names
decreases-names l = length l.rest
