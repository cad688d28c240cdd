use Rattle.std.proofs.Common.{◌≡◌, map, take}
use Rattle.soil_exec.specs.Machine.{shell_value}
use Rattle.soil_exec.proofs.execution.shell_values.Given as goal

abbrev pub invariant-names : goal.invariant-names
invariant-names l = l.values.items ≡ map (shell_value l.store.state) (take l.name-index l.shell)
