-- What the names of a shell stand for.
use Rattle.std.specs.Prelude.{ℕ}
use Rattle.class_model.specs.declared.types.OclType.{OclType}
use Rattle.soil_check.specs.declared.scope.ShellName.{ShellName}
use Rattle.soil_check.specs.declared.scope.ShellName.TheVariants as names

-- a live object of a class, or a variable of a type
pub data Known : Type 0 where
  object : ℕ → Known
  variable : OclType → Known

abbrev pub known_as : ShellName → Known
known_as (names.Object class) = object class
known_as (names.Variable t) = variable t.now
