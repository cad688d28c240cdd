use Rattle.std.proofs.Common.{◌≡◌, ◌+◌, ◌<◌, ◌^◌, drop, length}
use Rattle.model_check.specs.Seen.{with_params}
use Rattle.model_check.proofs.seen.push_params.Given as goal

abbrev pub invariant-params : goal.invariant-params
invariant-params l = record {
  same : with_params l.seen l.names (drop l.param-index l.params) ≡ with_params l.fn.seen l.fn.names l.fn.params;
  room : l.seen.environment.size + length (drop l.param-index l.params) < 2 ^ 32;
}
