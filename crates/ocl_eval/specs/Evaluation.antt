-- The value of an expression over two states (OCL 2.3.1, clauses 7 and 11), with its budget and the cells that it reads.
use Rattle.std.specs.Prelude.{ℕ, zero, suc, ⊤, List, [], Option, Some, None}
use Rattle.ocl_values.specs.declared.value.Value.{Value}
use Rattle.ocl_core.specs.declared.expression.Expr.{Expr}
use Rattle.ocl_core.specs.declared.operators.When.{When}
use Rattle.ocl_core.specs.declared.operators.When.TheVariants.{Now}
use Rattle.object_state.specs.declared.cell.Cell.{Cell}
use Rattle.ocl_values.specs.Shape.{IsWellMade}
use Rattle.ocl_eval.specs.declared.outcome.Outcome.TheVariants as answer
use Rattle.ocl_eval.specs.declared.outcome.Outcome.{Outcome as Told}
use Rattle.ocl_eval.specs.Evaluations.{Evaluation, Outcome, exhausted}
use Rattle.ocl_eval.specs.Nodes.{node}
use Rattle.ocl_eval.specs.Scenes.{Scene}

-- with so many levels left: none are at depth 513
unfoldable pub ev : Scene → ℕ → When → List Value → Expr → Evaluation Value
ev s zero at env e = exhausted
ev s (suc n) at env e = node s (ev s n) at env e

-- the deepest level
abbrev pub max_depth : ℕ
max_depth = 512

-- how many units an evaluation has
abbrev pub max_units : ℕ
max_units = 1000000

-- an evaluation that begins with some cells read
unfoldable pub eval_from : Scene → List Value → Expr → List Cell → Outcome Value
eval_from s env e reads = ev s max_depth Now env e (record { fuel = max_units; reads = reads })

abbrev pub eval : Scene → List Value → Expr → Outcome Value
eval s env e = eval_from s env e []

-- what is told of it
abbrev pub told : Option Value → Told
told (Some v) = answer.Done v
told None = answer.Exhausted

abbrev pub IsWellMadeOutcome : Told → Type 0
IsWellMadeOutcome (answer.Done v) = IsWellMade v
IsWellMadeOutcome answer.Exhausted = ⊤
