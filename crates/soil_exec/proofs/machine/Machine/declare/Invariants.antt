use Rattle.std.proofs.Common.{◌≡◌, ℕ}
use Rattle.std.specs.Prelude.{replicate}
use Rattle.ocl_values.specs.declared.value.Value.TheVariants.{Null}
use Rattle.soil_changes.specs.Acts.{each}
use Rattle.soil_exec.specs.Kept.{Follows, stand}
use Rattle.soil_exec.specs.Machine.{push}
use Rattle.soil_exec.specs.Statements.{declare}
use Rattle.soil_exec.proofs.machine.Machine.declare.Given as goal

abbrev pub invariant-variables : goal.invariant-variables
invariant-variables l = record {
  same : (steps : ℕ) → each push (replicate l.left Null) (stand l.self steps) ≡ declare l.fn.number (stand l.fn.self steps);
  follows : Follows l.fn.self l.self;
}

abbrev pub decreases-variables : goal.decreases-variables
decreases-variables l = l.left
