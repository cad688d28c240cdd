-- Contracts of operations (OCL 2.3.1, 7.3.4): what their conditions come to, before a call and after it.
use Rattle.std.specs.Prelude.{ℕ, ◌+◌, ◌-◌, Bool, true, false, List, [], ◌∷◌, ◌++◌, Option, Some, None, slice_get}
use Rattle.std.specs.Option.{option_and_then}
use Rattle.ocl_values.specs.declared.value.Value.{Value}
use Rattle.ocl_values.specs.declared.value.Value.TheVariants.{Obj}
use Rattle.class_model.specs.declared.object_model.ObjectModel.{ObjectModel}
use Rattle.class_model.specs.declared.types.OclType.{OclType}
use Rattle.class_model.specs.Parts.{op_result}
use Rattle.ocl_core.specs.declared.expression.Expr.{Expr}
use Rattle.ocl_core.specs.declared.program.Contract.{Contract}
use Rattle.ocl_core.specs.declared.program.ProgramParts.{ProgramParts}
use Rattle.ocl_eval.specs.declared.outcome.Outcome.{Outcome}
use Rattle.ocl_eval.specs.Evaluation.{eval, max_units, told}
use Rattle.ocl_eval.specs.Scenes.{Scene, scene_of}
use Rattle.ocl_program.specs.Programs.{contracts_of}
use Rattle.object_state.specs.Looks.{look}
use Rattle.object_state.specs.State.{Diagram}
use Rattle.entry_states.specs.declared.frame.Call.{Call}
use Rattle.entry_states.specs.Overlays.{Picture}

-- the picture of a state
abbrev pub picture : Diagram → Picture
picture d = look d.layout d.state

-- what a condition comes to, and the units that it spends: each has a budget of its own
abbrev pub outcome : Scene → List Value → Expr → Outcome
outcome s env e = told (eval s env e).0

abbrev pub units : Scene → List Value → Expr → ℕ
units s env e = max_units - (eval s env e).1.fuel

-- the condition of a contract, where it is a postcondition or a precondition as is asked for
abbrev if_kind : (asked is_post : Bool) → Expr → Option Expr
if_kind true true e = Some e
if_kind false false e = Some e
if_kind _ _ e = None

abbrev of_kind : Bool → Contract → Option Expr
of_kind asked c = if_kind asked c.is_post c.expr

abbrev pub condition_at : ProgramParts → Bool → ℕ → Option Expr
condition_at p asked n = option_and_then (of_kind asked) (slice_get p.contracts n)

-- each with its number
abbrev pub outcome_if : Scene → List Value → ℕ → Option Expr → List (ℕ × Outcome)
outcome_if s env n None = []
outcome_if s env n (Some e) = (n, outcome s env e) ∷ []

abbrev pub units_if : Scene → List Value → Option Expr → ℕ
units_if s env None = 0
units_if s env (Some e) = units s env e

abbrev pub outcomes : Scene → Bool → List Value → List ℕ → List (ℕ × Outcome)
outcomes s asked env [] = []
outcomes s asked env (n ∷ ns) = outcome_if s env n (condition_at s.program asked n) ++ outcomes s asked env ns

abbrev pub all_units : Scene → Bool → List Value → List ℕ → ℕ
all_units s asked env [] = 0
all_units s asked env (n ∷ ns) = units_if s env (condition_at s.program asked n) + all_units s asked env ns

-- what is bound before a call: the receiver and the arguments; and after it, where the operation has a result, that too
abbrev pub bound_before : Call → List Value
bound_before k = Obj k.receiver ∷ k.args

abbrev pub result_if : Option OclType → Value → List Value
result_if None v = []
result_if (Some t) v = v ∷ []

abbrev pub bound_after : ObjectModel → Call → Value → List Value
bound_after m k v = bound_before k ++ result_if (op_result m k.op) v

module _ (p : ProgramParts) (d : Diagram) (k : Call) where
  -- the preconditions, over the present state
  abbrev pub pres : List (ℕ × Outcome)
  pres = outcomes (scene_of p (picture d) (picture d)) false (bound_before k) (contracts_of p k.op)

  abbrev pub pre_units : ℕ
  pre_units = all_units (scene_of p (picture d) (picture d)) false (bound_before k) (contracts_of p k.op)

  -- the postconditions, over the present state and the one at entry, where the call gave a value
  abbrev pub posts : Picture → Value → List (ℕ × Outcome)
  posts entry given = outcomes (scene_of p (picture d) entry) true (bound_after p.model k given) (contracts_of p k.op)

  abbrev pub post_units : Picture → Value → ℕ
  post_units entry given = all_units (scene_of p (picture d) entry) true (bound_after p.model k given) (contracts_of p k.op)
