-- The variables that statements see, and what each value of the environment is to them.
use Rattle.std.specs.Prelude.{ℕ, Bool, false, List, [], ◌∷◌, ◌++◌, length, take, slice_get, slice_set, unwrap_or, Option, Some}
use Rattle.class_model.specs.declared.types.OclType.{OclType}
use Rattle.ocl_scope.specs.Environments.{back_to, no_variables, renamed, scope_of, with_variable}
use Rattle.soil_scope.specs.declared.variables.Reach.{Reach}
use Rattle.soil_scope.specs.declared.variables.Role.{Role}
use Rattle.soil_scope.specs.declared.variables.Role.TheVariants.{Fixed, Local}
use Rattle.soil_scope.specs.declared.variables.Variables.{Variables}

abbrev pub no_values : Variables
no_values = record { environment = no_variables; roles = [] }

-- a value more, the innermost, and the name that stands for it
abbrev pub with_value : Role → Variables → Option (List ℕ) → OclType → Bool → Variables
with_value role vs name t is_implicit =
    record { environment = with_variable vs.environment name t is_implicit; roles = vs.roles ++ role ∷ [] }

-- a local variable, and one that is never assigned
abbrev pub with_local : Variables → List ℕ → OclType → Variables
with_local vs name t = with_value Local vs (Some name) t false

abbrev pub with_fixed : Variables → List ℕ → OclType → Variables
with_fixed vs name t = with_value Fixed vs (Some name) t false

-- what the value of a number is; past the last there is nothing to assign to
abbrev pub role_of : Variables → ℕ → Role
role_of vs n = unwrap_or (slice_get vs.roles n) Fixed

-- from now on a name of the shell stands for something of this type
abbrev pub standing : Variables → ℕ → List ℕ → OclType → Role → Variables
standing vs slot name t role = record { environment = renamed vs.environment slot name t; roles = slice_set vs.roles slot role }

-- how far variables reach, and what of them reached so far
abbrev pub reach_of : Variables → Reach
reach_of vs = record { scope = scope_of vs.environment; count = length vs.roles }

abbrev pub back_at : Variables → Reach → Variables
back_at vs reach = record { environment = back_to vs.environment reach.scope; roles = take reach.count vs.roles }

-- variables behind a block, where these stood before it: what the block added is taken back
abbrev pub left_to : Variables → Variables → Variables
left_to before after = back_at after (reach_of before)
