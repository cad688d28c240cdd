use Rattle.std.proofs.Common.{◌≡◌, ◌+◌, ◌<◌, ◌^◌, drop, fold, length}
use Rattle.soil_check.specs.Seen.{with_binding}
use Rattle.soil_check.proofs.seen.push_bindings.Given as goal

abbrev pub invariant-bindings : goal.invariant-bindings
invariant-bindings l = record {
  same : fold with_binding l.seen (drop l.binding-index l.bindings) ≡ fold with_binding l.fn.seen l.fn.bindings;
  room : l.seen.environment.size + length (drop l.binding-index l.bindings) < 2 ^ 31;
}
