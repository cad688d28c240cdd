-- The exit status of the program.
use Rattle.std.specs.Prelude.{ℕ}
use Rattle.use_shell.specs.declared.status.Status.{Status}
use Rattle.use_shell.specs.declared.status.Status.TheVariants.{Done, Usage, ModelRefused, ReadFault, WriteFault, Memory, TooLong, Strict}

abbrev pub number_of : Status → ℕ
number_of Done = 0
number_of Usage = 1
number_of ModelRefused = 2
number_of ReadFault = 3
number_of WriteFault = 4
number_of Memory = 5
number_of TooLong = 6
number_of Strict = 7
