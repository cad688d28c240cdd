-- Variables that a block leaves.
use Rattle.std.proofs.Common.{◌≡◌, ap, sym, ◌∙◌, Result, Ok, Err}
use Rattle.ocl_rules.specs.Typings.{Tells, Typing}
use Rattle.ocl_rules.specs.declared.fault.TypeFault.{TypeFault}
use Rattle.ocl_rules.specs.declared.fault.TypeFault.TheVariants.{Memory, Refused}
use Rattle.ocl_shapes.specs.Combining.{◌>>=◌, pure}
use Rattle.soil_scope.specs.Scenes.{Leaves}
use Rattle.soil_scope.specs.Variables.{back_at, left_to, reach_of}
use Rattle.soil_scope.specs.declared.variables.Reach.{Reach}
use Rattle.soil_scope.specs.declared.variables.Variables.{Variables}

-- what is added is taken back, whatever comes of it
pub left_behind : {A : Type 0} (given : Typing (A × Variables)) (vs after new : Variables) (reach : Reach) (r : Result A TypeFault) →
    Leaves given r after → reach ≡ reach_of vs → new ≡ back_at after reach → Leaves (given >>= (λ done. pure (done.0, left_to vs done.1))) r new
left_behind given vs after new reach (Ok a) e s n =
    ap (λ g. g >>= (λ done. pure (done.0, left_to vs done.1))) e ∙ ap (λ v. Ok (a, v)) (sym (n ∙ ap (back_at after) s))
left_behind given vs after new reach (Err Memory) e s n = tt
left_behind given vs after new reach (Err (Refused r)) e s n = ap (λ g. g >>= (λ done. pure (done.0, left_to vs done.1))) e

-- a form that leaves the variables as they are
pub left_alone : {A : Type 0} (given : Typing A) (vs after : Variables) (r : Result A TypeFault) →
    Tells given r → after ≡ vs → Leaves (given >>= (λ x. pure (x, vs))) r after
left_alone given vs after (Ok a) e s = ap (λ g. g >>= (λ x. pure (x, vs))) e ∙ ap (λ v. Ok (a, v)) (sym s)
left_alone given vs after (Err Memory) e s = tt
left_alone given vs after (Err (Refused r)) e s = ap (λ g. g >>= (λ x. pure (x, vs))) e
