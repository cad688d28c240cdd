use Rattle.std.proofs.Common.{◌≡◌, length, take}
use Rattle.soil_scope.proofs.variables.Variables.leave.Given as goal

abbrev pub invariant-last : goal.invariant-last
invariant-last l = record {
  front : take l.reach.count l.self.roles ≡ take l.reach.count l.initial.self.roles;
  environment : l.self.environment ≡ l.initial.self.environment;
  reach : l.reach ≡ l.initial.reach;
}

abbrev pub decreases-last : goal.decreases-last
decreases-last l = length l.self.roles
