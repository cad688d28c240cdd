-- When a call may answer that the outside failed.
use Rattle.std.specs.Prelude.{ℕ, ◌+◌, ◌-◌, ◌^◌, ◌≤◌, min, Result, OnErr, IsErrOf}
use Rattle.use_io.specs.declared.SinkFault.{SinkFault}
use Rattle.use_io.specs.declared.SinkFault.TheVariants.{Failed as SinkFailed}
use Rattle.use_io.specs.declared.ShelfFault.{ShelfFault}
use Rattle.use_io.specs.declared.ShelfFault.TheVariants.{Failed as ShelfFailed}

-- the count has risen, or stands at its last value
abbrev pub Rose : ℕ → ℕ → Type 0
Rose before now = min (before + 1) (2 ^ 64 - 1) ≤ now

-- the count doesn't fall, and an error comes only where it rose
pub record HasCause {T E : Type 0} (before now : ℕ) (result : Result T E) : Type 0 where
  pub later : before ≤ now
  pub failed : OnErr result (Rose before now)

-- the same, where another error is want of memory
pub record HasSinkCause {T : Type 0} (before now : ℕ) (result : Result T SinkFault) : Type 0 where
  pub later : before ≤ now
  pub failed : IsErrOf result SinkFailed → Rose before now

pub record HasShelfCause {T : Type 0} (before now : ℕ) (result : Result T ShelfFault) : Type 0 where
  pub later : before ≤ now
  pub failed : IsErrOf result ShelfFailed → Rose before now
