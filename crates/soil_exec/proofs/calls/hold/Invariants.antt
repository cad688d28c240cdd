use Rattle.std.proofs.Common.{◌≡◌, drop}
use Rattle.soil_changes.specs.Acts.{each}
use Rattle.soil_exec.specs.Calls.{holds}
use Rattle.soil_exec.specs.Machine as machines
use Rattle.soil_exec.proofs.calls.hold.Given as goal

abbrev pub invariant-contracts : goal.invariant-contracts
invariant-contracts l = (m : machines.Machine) → each (holds l.place l.number) (drop l.outcome-index l.outcomes) m ≡ each (holds l.place l.number) l.fn.outcomes m
