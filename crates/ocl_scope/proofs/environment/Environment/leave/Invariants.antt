use Rattle.std.proofs.Common.{◌≡◌, length, take}
use Rattle.ocl_scope.proofs.environment.Environment.leave.Given as goal

abbrev pub invariant-last : goal.invariant-last
invariant-last l = record {
  front : take l.scope.count l.self.variables ≡ take l.scope.count l.initial.self.variables;
  scope : l.scope ≡ l.initial.scope;
}

abbrev pub decreases-last : goal.decreases-last
decreases-last l = length l.self.variables
