-- What reading a model file answers. Only proofs use these words.
use Rattle.std.specs.Prelude.{◌≡◌, ◌≤◌, ℕ, ⊤, Result, Ok, Err}
use Rattle.use_io.specs.Causes.{Rose}
use Rattle.ocl_core.specs.declared.program.ProgramParts.{ProgramParts}
use Rattle.ocl_rules.specs.Typings.{Typing}
use Rattle.use_shell.specs.declared.model.NoProgram.{NoProgram}
use Rattle.use_shell.specs.declared.model.NoProgram.TheVariants.{Refused, Stopped}
use Rattle.use_shell.specs.declared.stop.Stop.TheVariants.{Memory, Read, Write}

abbrev pub Gives : Typing ProgramParts → Result ProgramParts NoProgram → Type 0
Gives model (Ok p) = model ≡ Ok p
Gives model (Err (Refused r)) = model ≡ Err r
Gives model (Err (Stopped stop)) = ⊤

-- what stops it is want of memory
abbrev pub StopsByMemory : Result ProgramParts NoProgram → Type 0
StopsByMemory (Ok p) = ⊤
StopsByMemory (Err (Refused r)) = ⊤
StopsByMemory (Err (Stopped stop)) = stop ≡ Memory

-- a count of faults does not fall, a fault of reading comes only where it rose, and none of writing comes
pub record ReadsModel (before now : ℕ) (result : Result ProgramParts NoProgram) : Type 0 where
  pub later : before ≤ now
  pub cause : result ≡ Err (Stopped Read) → Rose before now
  pub no_write : ¬ (result ≡ Err (Stopped Write))
