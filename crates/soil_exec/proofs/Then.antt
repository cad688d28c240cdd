-- Executions one after another, as they are told.
use Rattle.std.proofs.Common.{◌≡◌, Result, Ok, Err, sym, ap, subst}
use Rattle.soil_changes.specs.Acts.{Outcome, then_act}
use Rattle.soil_exec.specs.declared.fault.ExecFault.{ExecFault}
use Rattle.soil_exec.specs.declared.fault.ExecFault.TheVariants.{Broken, Memory, Refused}
use Rattle.soil_exec.specs.Kept.{Gives}
use Rattle.soil_exec.specs.Machine.{Execution, Machine}

-- the first was refused
pub fails : {A B : Type 0} (o : Outcome Machine ExecFault A) (next : A → Execution B) (f : ExecFault) (n : Machine) → Gives {A = A} o (Err f) n
    → Gives {A = B} (then_act o next) (Err f) n
fails o next Memory n h = tt
fails o next (Refused r) n h = ap (λ o. then_act o next) h
fails o next (Broken r c v) n h = ap (λ o. then_act o next) h

-- or it was done
pub goes_on : {A B : Type 0} (o : Outcome Machine ExecFault A) (next : A → Execution B) (a : A) (m : Machine) (r : Result B ExecFault) (n : Machine)
    → o ≡ (Ok a, m) → Gives (next a m) r n → Gives (then_act o next) r n
goes_on {A = A} {B = B} o next a m r n h g = subst (λ (o : Outcome Machine ExecFault A). Gives (then_act o next) r n) (sym h) g

pub fails_as : {A B : Type 0} (o : Outcome Machine ExecFault A) (next : A → Execution B) (f : ExecFault) (n : Machine) (r : Result B ExecFault) → r ≡ Err f
    → Gives {A = A} o (Err f) n → Gives (then_act o next) r n
fails_as {A = A} {B = B} o next f n r is h = subst (λ (r : Result B ExecFault). Gives (then_act o next) r n) (sym is) (fails o next f n h)
