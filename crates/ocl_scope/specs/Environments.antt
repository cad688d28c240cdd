-- The environment of an expression: the variables that names may stand for, outermost first.
use Rattle.std.specs.Prelude.{ℕ, ◌+◌, Bool, false, if◌then◌else◌, List, [], ◌∷◌, ◌++◌, length, take, slice_get, slice_set, Option, Some, None}
use Rattle.std.specs.Option.{option_map_or, option_or}
use Rattle.use_text.specs.Pieces.{same_text}
use Rattle.class_model.specs.declared.types.OclType.{OclType}
use Rattle.ocl_scope.specs.declared.environment.Environment.{Environment}
use Rattle.ocl_scope.specs.declared.environment.Scope.{Scope}
use Rattle.ocl_scope.specs.declared.environment.Variable.{Variable}

abbrev pub no_variables : Environment
no_variables = record { variables = []; size = 0 }

-- one variable more, the innermost, whose value stands next
abbrev pub with_variable : Environment → Option (List ℕ) → OclType → Bool → Environment
with_variable env name t is_implicit =
    record { variables = env.variables ++ record { name = name; of_type = t; number = env.size; is_implicit = is_implicit } ∷ []; size = env.size + 1 }

-- one name more, the innermost, of a value that has a number already
abbrev pub with_name : Environment → List ℕ → OclType → ℕ → Environment
with_name env name t number =
    record { variables = env.variables ++ record { name = Some name; of_type = t; number = number; is_implicit = false } ∷ []; size = env.size }

-- a variable under another name and with another type
abbrev pub known_as : List ℕ → OclType → Variable → Variable
known_as name t v = record { name = Some name; of_type = t; number = v.number; is_implicit = v.is_implicit }

-- another name and another type for the variable at a place, if there is one
abbrev pub renamed : Environment → ℕ → List ℕ → OclType → Environment
renamed env at name t = record {
  variables = option_map_or (λ v. slice_set env.variables at (known_as name t v)) (slice_get env.variables at) env.variables;
  size = env.size;
}

-- so many values more, which no name stands for
abbrev pub with_values : Environment → ℕ → Environment
with_values env n = record { variables = env.variables; size = env.size + n }

-- how far an environment reaches
abbrev pub scope_of : Environment → Scope
scope_of env = record { count = length env.variables; size = env.size }

-- what reached so far
abbrev pub back_to : Environment → Scope → Environment
back_to env scope = record { variables = take scope.count env.variables; size = scope.size }

-- the last of a list that passes a test
abbrev pub last_that : {A : Type 0} → (A → Bool) → List A → Option A
last_that test [] = None
last_that test (x ∷ xs) = option_or (last_that test xs) (if test x then Some x else None)

abbrev pub has_name : List ℕ → Variable → Bool
has_name name v = option_map_or (λ text. same_text text name) v.name false

-- the innermost variable of a name
abbrev pub variable_named : Environment → List ℕ → Option Variable
variable_named env name = last_that (has_name name) env.variables
