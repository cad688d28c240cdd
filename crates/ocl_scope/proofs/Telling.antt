-- What is told of typing that goes on from one part to the next.
use Rattle.std.proofs.Common.{◌≡◌, Ok, Err, Result, sym, ap, subst}
use Rattle.ocl_rules.specs.declared.fault.TypeFault.{TypeFault}
use Rattle.ocl_rules.specs.declared.fault.TypeFault.TheVariants.{Memory, Refused}
use Rattle.ocl_rules.specs.Typings.{Tells, Typing, then_typed}

-- a fault is passed on
pub passed_on : {A B : Type 0} (given : Typing A) (next : A → Typing B) (fault : TypeFault) → Tells given (Err fault) → Tells (then_typed given next) (Err fault)
passed_on given next Memory h = tt
passed_on given next (Refused r) h = ap (λ g. then_typed g next) h

-- what is told of the next part is told of both
pub goes_on : {A B : Type 0} (given : Typing A) (next : A → Typing B) (a : A) (told : Result B TypeFault) → given ≡ Ok a → Tells (next a) told →
    Tells (then_typed given next) told
goes_on given next a told is h = subst (λ g. Tells (then_typed g next) told) (sym is) h
