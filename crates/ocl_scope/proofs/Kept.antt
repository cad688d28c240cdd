-- What is pushed keeps the variables of an environment among its values.
use Rattle.std.proofs.Common.{ℕ, ◌+◌, ◌<◌, Bool, List, Option, All, arith}
use Rattle.std.proofs.lemmas.List.Elements.{All-nil, All-push, All-weaker}
use Rattle.class_model.specs.declared.object_model.ObjectModel.{ObjectModel}
use Rattle.class_model.specs.declared.types.OclType.{OclType}
use Rattle.class_model.specs.InRange.{IsTypeOf}
use Rattle.ocl_scope.specs.declared.environment.Environment.{Environment}
use Rattle.ocl_scope.specs.declared.environment.Variable.{Variable}
use Rattle.ocl_scope.specs.Environments.{no_variables, with_values, with_variable}
use Rattle.ocl_scope.specs.Ranges.{IsEnvironmentOf}

abbrev HasType : ObjectModel → Variable → Type 0
HasType m v = IsTypeOf m v.of_type

abbrev Stands : ℕ → Variable → Type 0
Stands n v = v.number < n

pub none_kept : (m : ObjectModel) → IsEnvironmentOf m no_variables
none_kept m = record { types = All-nil (HasType m); numbers = All-nil (Stands 0) }

still_stand : (a n : ℕ) (vs : List Variable) → All (Stands a) vs → All (Stands (a + n)) vs
still_stand a n vs h = All-weaker (Stands a) (Stands (a + n)) (λ v k. omega arith) vs h

pub variable_kept : (m : ObjectModel) (env : Environment) (name : Option (List ℕ)) (t : OclType) (i : Bool) → IsEnvironmentOf m env → IsTypeOf m t →
    IsEnvironmentOf m (with_variable env name t i)
variable_kept m env name t i h k = record {
  types = All-push (HasType m) env.variables _ h.types k;
  numbers = All-push (Stands (env.size + 1)) env.variables _ (still_stand env.size 1 env.variables h.numbers) (omega arith);
}

pub values_kept : (m : ObjectModel) (env : Environment) (n : ℕ) → IsEnvironmentOf m env → IsEnvironmentOf m (with_values env n)
values_kept m env n h = record { types = h.types; numbers = still_stand env.size n env.variables h.numbers }
