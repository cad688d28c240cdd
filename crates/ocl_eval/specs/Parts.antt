-- What the functions of the evaluator need of what evaluates the parts.
use Rattle.std.specs.Prelude.{◌≡◌, ℕ, ◌+◌, List, IfOk, Result}
use denote.Ref.{Bor, MutBor}
use Rattle.ocl_values.specs.Shape.{IsWellMade}
use Rattle.ocl_values.specs.declared.value.Value.{Value}
use Rattle.ocl_core.specs.declared.expression.Expr.{Expr}
use Rattle.ocl_core.specs.declared.operators.When.{When}
use Rattle.object_state.specs.declared.cell.Cell.{Cell}
use Rattle.object_state.specs.declared.cell.Look.{Look}
use Rattle.ocl_eval.specs.declared.meter.Meter.{Meter}
use Rattle.ocl_eval.specs.declared.setting.Setting.{Setting}
use Rattle.ocl_eval.specs.declared.stop.Stop.{Stop}
use Rattle.ocl_eval.specs.Evaluation.{ev}
use Rattle.ocl_eval.specs.Evaluations.{Evaluation, Gives}
use Rattle.ocl_eval.specs.Scenes.{Scene}
use Rattle.ocl_core.specs.Trees.{IsSound}
use Rattle.ocl_core.specs.Programs.{IsSoundProgram}

module _ {V : Type 0} (now pre : V → Cell → Look) where
  abbrev pub scene : Setting V → Scene
  scene s = record { program = s.program.now; now = now s.states.now; pre = pre s.states.now }

  -- the evaluation of parts in a setting
  abbrev pub ev_at : Setting V → When → List Value → Expr → Evaluation Value
  ev_at s = ev (scene s) s.levels

  abbrev pub ev_in : Setting V → List Value → Expr → Evaluation Value
  ev_in s = ev_at s s.at

-- what comes of a part
pub record Comes (outcome : Evaluation Value) (old new : List Value) (m m' : Meter) (steps steps' : ℕ) (r : Result Value Stop) : Type 0 where
  pub value : Gives (outcome m) r m'
  pub well_made : IfOk r IsWellMade
  pub locals : new ≡ old
  pub ticks : steps' + m'.fuel ≡ steps + m.fuel

-- a function that evaluates parts at a level
pub record Evaluates {V S : Type 0} (now pre : V → Cell → Look) (count : S → ℕ) (levels : ℕ)
    (may : Bor (Setting V) → Bor Expr → MutBor (List Value) → MutBor Meter → MutBor S → Type 0)
    (does : Bor (Setting V) → Bor Expr → MutBor (List Value) → MutBor Meter → MutBor S → Result Value Stop → MutBor (List Value) → MutBor Meter → MutBor S
    → Type 0) : Type 0 where
  pub callable : (s : Bor (Setting V)) (e : Bor Expr) (locals : MutBor (List Value)) (m : MutBor Meter) (steps : MutBor S) →
      s.now.levels ≡ levels → IsSoundProgram s.now.program.now → IsSound e.now → may s e locals m steps
  pub gives : (s : Bor (Setting V)) (e : Bor Expr) (locals locals' : MutBor (List Value)) (m m' : MutBor Meter) (steps steps' : MutBor S)
      (r : Result Value Stop) →
      s.now.levels ≡ levels → does s e locals m steps r locals' m' steps' →
      Comes (ev_in now pre s.now locals.now e.now) locals.now locals'.now m.now m'.now (count steps.now) (count steps'.now) r
