-- What tells a typing is one answer.
use Rattle.std.proofs.Common.{◌≡◌, sym, ap, ◌∙◌}
use Rattle.std.specs.Prelude.{Result, Ok, Err}
use Rattle.ocl_rules.specs.declared.fault.TypeFault.{TypeFault}
use Rattle.ocl_rules.specs.declared.fault.TypeFault.TheVariants.{Memory, Refused}
use Rattle.ocl_rules.specs.Typings.{Tells, Typing}
use Rattle.ocl_laws.specs.Told.{HasMemory}

abbrev answer : {A : Type 0} → Typing A → Result A TypeFault
answer (Ok a) = Ok a
answer (Err r) = Err (Refused r)

told : {A : Type 0} (t : Typing A) (r : Result A TypeFault) → Tells t r → HasMemory r → answer t ≡ r
told t (Ok a) h p = ap answer h
told t (Err Memory) h p = absurd p
told t (Err (Refused r)) h p = ap answer h

pub one : {A : Type 0} (t : Typing A) (r s : Result A TypeFault) → Tells t r → Tells t s → HasMemory r → HasMemory s → r ≡ s
one t r s h k p q = sym (told t r h p) ∙ told t s k q
