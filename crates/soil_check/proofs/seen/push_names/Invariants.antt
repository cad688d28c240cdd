use Rattle.std.proofs.Common.{◌≡◌, ◌+◌, ◌<◌, ◌^◌, drop, fold, length}
use Rattle.soil_check.specs.Seen.{with_shell_name}
use Rattle.soil_check.proofs.seen.push_names.Given as goal

abbrev pub invariant-names : goal.invariant-names
invariant-names g l = record {
  same : fold (with_shell_name (g.S.Scope.known l.scope)) l.seen (drop l.name-index l.names)
      ≡ fold (with_shell_name (g.S.Scope.known l.scope)) l.fn.seen l.fn.names;
  room : l.seen.environment.size + length (drop l.name-index l.names) < 2 ^ 31;
}
