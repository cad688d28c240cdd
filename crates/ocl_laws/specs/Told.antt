-- Answers of calls that type an expression.
use Rattle.std.specs.Prelude.{⊤, Result, Ok, Err}
use Rattle.ocl_rules.specs.declared.fault.TypeFault.{TypeFault}
use Rattle.ocl_rules.specs.declared.fault.TypeFault.TheVariants.{Memory, Refused}

-- it is no want of memory
abbrev pub HasMemory : {A : Type 0} → Result A TypeFault → Type 0
HasMemory (Ok a) = ⊤
HasMemory (Err Memory) = ⊥
HasMemory (Err (Refused r)) = ⊤
