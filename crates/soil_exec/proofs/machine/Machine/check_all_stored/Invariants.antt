use Rattle.std.proofs.Common.{◌≡◌, ℕ, drop}
use Rattle.soil_changes.specs.Acts.{each}
use Rattle.soil_exec.specs.Calls.{check_stored}
use Rattle.soil_exec.specs.Kept.{stand}
use Rattle.soil_exec.proofs.machine.Machine.check_all_stored.Given as goal

abbrev pub invariant-values : goal.invariant-values
invariant-values l = (steps : ℕ) → each (check_stored l.place) (drop l.value-index l.values) (stand l.self steps) ≡ each (check_stored l.place) l.fn.values (stand l.self steps)
