-- What statements work on: a transaction, what names and local variables stand for, and what is left of the budgets.
use Rattle.std.specs.Prelude.{ℕ, ◌-◌, nat_eq, if◌then◌else◌, List, [], ◌∷◌, ◌++◌, length, map, take, Option, Some, None, Ok, Err}
use Rattle.std.specs.Option.{option_map_or}
use Rattle.use_text.specs.declared.code.Code.{Code}
use Rattle.use_text.specs.declared.code.Family.TheVariants.{B}
use Rattle.use_text.specs.declared.place.Place.{Place}
use Rattle.use_text.specs.Codes.{code_of}
use Rattle.use_text.specs.Refusals.{refusal_at}
use Rattle.ocl_values.specs.declared.value.Value.{Value}
use Rattle.ocl_values.specs.declared.value.Value.TheVariants.{Invalid, Obj}
use Rattle.object_state.specs.declared.objects.Variable.{Variable}
use Rattle.object_state.specs.State.{Diagram, State, object_named, variable}
use Rattle.soil_changes.specs.Acts.{Act, Outcome, ◌>>◌, refuse}
use Rattle.soil_changes.specs.Progress.{Changing, Progress, begun, x_code}
use Rattle.entry_states.specs.declared.frame.Call.{Call}
use Rattle.entry_states.specs.declared.frame.Frame.{Frame}
use Rattle.entry_states.specs.Frames.{left, opened}
use Rattle.soil_exec.specs.declared.fault.ExecFault.{ExecFault}
use Rattle.soil_exec.specs.declared.fault.ExecFault.TheVariants.{Refused}

-- the names that a command takes from the shell, the values of all further variables, how many statements may still begin, and how many
-- units evaluations have spent
pub record Machine : Type 0 where
  pub progress : Progress
  pub shell : List (List ℕ)
  pub locals : List Value
  pub left : ℕ
  pub steps : ℕ

-- acts that may be refused by a rule, at a place, or by a contract
abbrev pub Execution : Type 0 → Type 0
Execution A = Act Machine ExecFault A

-- how many statements a command may carry out, and how deep blocks may nest
abbrev pub max_statements : ℕ
max_statements = 50000

abbrev pub max_levels : ℕ
max_levels = 64

abbrev pub begin : Diagram → List Frame → List (List ℕ) → List Value → ℕ → Machine
begin d fs shell bound steps = record { progress = begun d fs; shell = shell; locals = bound; left = max_statements; steps = steps }

-- a rule of budgets, or of the run of statements, is broken at a place
abbrev pub breaks_b : {A : Type 0} → ℕ → Place → Execution A
breaks_b number at = refuse (Refused (refusal_at (code_of B number) at))

abbrev pub breaks_x : {A : Type 0} → ℕ → Place → Execution A
breaks_x number at = refuse (Refused (refusal_at (x_code number) at))

-- what is there, or a rule is broken
abbrev pub or_breaks_x : {A : Type 0} → Option A → ℕ → Place → Execution A
or_breaks_x (Some a) number at = λ m. (Ok a, m)
or_breaks_x None number at = breaks_x number at

-- an act on the transaction; what refuses it is told with the place
abbrev pub placed : {A : Type 0} → Place → Machine → Outcome Progress Code A → Outcome Machine ExecFault A
placed at m (Ok a, p) = (Ok a, record m { progress = p })
placed at m (Err code, p) = (Err (Refused (refusal_at code at)), record m { progress = p })

abbrev pub changing : {A : Type 0} → Place → Changing A → Execution A
changing at act m = placed at m (act m.progress)

-- a statement more, or a turn: B2 where none is left
abbrev pub count : Place → Execution (Unit {0})
count at m = if nat_eq m.left 0 then breaks_b 2 at m else (Ok tt, record m { left = m.left - 1 })

-- what a name of the shell stands for: a variable, a live object, or nothing
abbrev pub object_or_invalid : Option ℕ → Value
object_or_invalid (Some o) = Obj o
object_or_invalid None = Invalid

abbrev pub shell_value : State → List ℕ → Value
shell_value s name = option_map_or (λ (v : Variable). v.value) (variable s name) (object_or_invalid (object_named s name))

-- what is bound where an expression is evaluated
abbrev pub environment : Machine → List Value
environment m = map (shell_value m.progress.state) m.shell ++ m.locals

-- one more value, innermost
abbrev pub push : Value → Execution (Unit {0})
push v m = (Ok tt, record m { locals = m.locals ++ v ∷ [] })

-- locals that were added since there were so many are taken back
abbrev pub leave : ℕ → Execution (Unit {0})
leave n m = (Ok tt, record m { locals = take n m.locals })

abbrev pub scoped : Execution (Unit {0}) → Execution (Unit {0})
scoped act m = (act >> leave (length m.locals)) m

-- an act with other things bound; then what was bound is bound again, also where it is refused
abbrev pub bound_again : {A : Type 0} → Machine → Outcome Machine ExecFault A → Outcome Machine ExecFault A
bound_again m o = (o.0, record o.1 { shell = m.shell; locals = m.locals })

abbrev pub apart : {A : Type 0} → List Value → Execution A → Execution A
apart vs act m = bound_again m (act (record m { shell = []; locals = vs }))

-- an act in the frame of a call, which is left also where it is refused
abbrev pub with_frames : List Frame → Machine → Machine
with_frames fs m = record m { progress = record m.progress { frames = fs } }

abbrev pub frame_left : {A : Type 0} → Outcome Machine ExecFault A → Outcome Machine ExecFault A
frame_left o = (o.0, with_frames (left o.1.progress.frames) o.1)

abbrev pub in_frame : {A : Type 0} → Call → Execution A → Execution A
in_frame k act m = frame_left (act (with_frames (opened k ∷ m.progress.frames) m))
