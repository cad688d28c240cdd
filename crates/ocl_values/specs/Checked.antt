-- What a checked operation of the machine gives; no definition of a result rests on it.
use Rattle.std.specs.Prelude.{Option, Some, None, ℤ}
use Rattle.ocl_values.specs.declared.value.Value.{Value}
use Rattle.ocl_values.specs.declared.value.Value.TheVariants.{Invalid, Int}

-- the integer that is given, or invalid
abbrev pub checked : Option ℤ → Value
checked (Some n) = Int n
checked None = Invalid
