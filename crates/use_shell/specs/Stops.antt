-- What may stop a part of a run.
use Rattle.std.specs.Prelude.{ℕ, ◌≤◌, Result, IsErrOf}
use Rattle.use_io.specs.Causes.{Rose}
use Rattle.use_shell.specs.declared.stop.Stop.{Stop}
use Rattle.use_shell.specs.declared.stop.Stop.TheVariants.{Read, Write}

-- of a part that reads and does not write: a count of faults does not fall, and a fault of reading comes only where it rose
pub record StopsByRead {T : Type 0} (before now : ℕ) (result : Result T Stop) : Type 0 where
  pub later : before ≤ now
  pub cause : IsErrOf result Read → Rose before now
  pub no_write : ¬ IsErrOf result Write

-- the same of a part that writes and does not read
pub record StopsByWrite {T : Type 0} (before now : ℕ) (result : Result T Stop) : Type 0 where
  pub later : before ≤ now
  pub cause : IsErrOf result Write → Rose before now
  pub no_read : ¬ IsErrOf result Read

-- of a part that fetches files and writes: counts of the faults of shelf and sink
pub record StopsByFile {T : Type 0} (shelf shelf' sink sink' : ℕ) (result : Result T Stop) : Type 0 where
  pub shelf_later : shelf ≤ shelf'
  pub sink_later : sink ≤ sink'
  pub read : IsErrOf result Read → Rose shelf shelf'
  pub write : IsErrOf result Write → Rose sink sink'
