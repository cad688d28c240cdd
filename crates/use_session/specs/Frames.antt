-- The calls of operations that are open, and what they bind (SOIL; USE manual, openter and opexit).
use Rattle.std.specs.Prelude.{ℕ, List, [], ◌∷◌, Option, Some, None, codes, map}
use Rattle.ocl_values.specs.declared.value.Value.{Value}
use Rattle.class_model.specs.declared.object_model.ObjectModel.{ObjectModel}
use Rattle.class_model.specs.declared.types.OclType.{OclType}
use Rattle.class_model.specs.declared.types.OclType.TheVariants.{Class}
use Rattle.class_model.specs.Parts.{op_class, op_params, op_result}
use Rattle.entry_states.specs.declared.frame.Call.{Call}
use Rattle.entry_states.specs.Overlays.{Picture}
use Rattle.contract_frames.specs.Judging.{bound_before}
use Rattle.soil_check.specs.declared.scope.Bindings.{Bindings}

-- the receiver and the arguments of the top call
abbrev pub bound_by : List (Call × Picture) → List Value
bound_by [] = []
bound_by (c ∷ cs) = bound_before c.0

-- `self`, of the class that declares the operation, and its parameters
abbrev pub params_of : ObjectModel → ℕ → List (List ℕ × OclType)
params_of m op = map (λ p. (p.name, p.of_type)) (op_params m op)

abbrev pub bindings_of : ObjectModel → ℕ → Bindings
bindings_of m op = record { names = (codes "self", Class (op_class m op)) ∷ params_of m op; result_type = op_result m op }

abbrev pub top_bindings : ObjectModel → List (Call × Picture) → Option Bindings
top_bindings m [] = None
top_bindings m (c ∷ cs) = Some (bindings_of m c.0.op)
