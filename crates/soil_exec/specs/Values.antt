-- Expressions in statements: each is evaluated over the present state, with a budget of its own.
use Rattle.std.specs.Prelude.{ℕ, ◌+◌, ◌-◌, List, [], ◌∷◌, ◌++◌, Option, Some, None, Ok, Err, Bool}
use Rattle.use_text.specs.declared.code.Family.TheVariants.{B}
use Rattle.use_text.specs.declared.place.Place.{Place}
use Rattle.use_text.specs.Codes.{code_of}
use Rattle.use_text.specs.Refusals.{refusal_at}
use Rattle.ocl_values.specs.declared.value.Value.{Value}
use Rattle.ocl_values.specs.declared.value.Value.TheVariants as V
use Rattle.ocl_values.specs.Shape.{elements}
use Rattle.ocl_core.specs.declared.expression.Expr.{Expr}
use Rattle.ocl_core.specs.declared.program.ProgramParts.{ProgramParts}
use Rattle.object_state.specs.Looks.{look}
use Rattle.object_state.specs.State.{Diagram}
use Rattle.ocl_eval.specs.Evaluation.{eval, max_units}
use Rattle.ocl_eval.specs.Evaluations as evaluations
use Rattle.ocl_eval.specs.Scenes.{Scene, scene_of}
use Rattle.soil_changes.specs.Acts.{Outcome, ◌>>=◌, pure}
use Rattle.soil_changes.specs.Progress.{diagram_of}
use Rattle.soil_exec.specs.declared.fault.ExecFault.{ExecFault}
use Rattle.soil_exec.specs.declared.fault.ExecFault.TheVariants.{Refused}
use Rattle.soil_exec.specs.Machine.{Execution, Machine, environment, or_breaks_x}

-- all units are spent but those that an evaluation left
abbrev pub spent : Machine → ℕ → Machine
spent m fuel = record m { steps = m.steps + max_units - fuel }

-- B1: the budget of the evaluation is spent
abbrev pub valued : Place → Machine → evaluations.Outcome Value → Outcome Machine ExecFault Value
valued at m (Some v, meter) = (Ok v, spent m meter.fuel)
valued at m (None, meter) = (Err (Refused (refusal_at (code_of B 1) at)), spent m meter.fuel)

-- the value of an expression that is true or false, and the elements of one that is a collection
abbrev pub as_truth : Value → Option Bool
as_truth (V.Bool b) = Some b
as_truth _ = None

abbrev pub as_elements : Value → Option (List Value)
as_elements (V.Coll' kind shape row) = Some (elements (V.Coll' kind shape row))
as_elements _ = None

module _ (p : ProgramParts) where
  -- now and at entry are the same
  abbrev pub scene_at : Diagram → Scene
  scene_at d = scene_of p (look d.layout d.state) (look d.layout d.state)

  abbrev pub scene : Machine → Scene
  scene m = scene_at (diagram_of m.progress)

  abbrev pub value : Place → Expr → Execution Value
  value at e m = valued at m (eval (scene m) (environment m) e)

  -- several, from left to right, behind those that there are
  abbrev pub values_behind : Place → List Value → List Expr → Execution (List Value)
  values_behind at vs [] = pure vs
  values_behind at vs (e ∷ es) = do
    v ← value at e
    values_behind at (vs ++ v ∷ []) es

  abbrev pub values : Place → List Expr → Execution (List Value)
  values at es = values_behind at [] es

  abbrev pub value_if : Place → Option Expr → Execution (Option Value)
  value_if at None = pure None
  value_if at (Some e) = do
    v ← value at e
    pure (Some v)

  -- X10: a condition is null or invalid
  abbrev pub condition : Place → Expr → Execution Bool
  condition at e = do
    v ← value at e
    or_breaks_x (as_truth v) 10 at

  -- X11: a collection is null or invalid
  abbrev pub collection : Place → Expr → Execution (List Value)
  collection at e = do
    v ← value at e
    or_breaks_x (as_elements v) 11 at
