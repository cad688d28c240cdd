-- What the invariants of a program come to in a state (OCL 2.3.1, 7.3.3), judged from scratch by what each cell holds.
use Rattle.std.specs.Prelude.{ℕ, ◌+◌, ◌-◌, Bool, true, false, not, if◌then◌else◌, List, [], ◌∷◌, length, map, filter, Option, Some, None, codes}
use Rattle.std.specs.List.{filter_map, list_any, sum_by}
use Rattle.std.specs.Option.{option_map}
use Rattle.ocl_values.specs.declared.value.Value.{Value}
use Rattle.ocl_values.specs.declared.value.Value.TheVariants as V
use Rattle.ocl_core.specs.declared.program.Invariant.{Invariant}
use Rattle.ocl_core.specs.declared.program.ProgramParts.{ProgramParts}
use Rattle.object_state.specs.declared.cell.Cell.{Cell}
use Rattle.object_state.specs.declared.cell.Cell.TheVariants.{Extent}
use Rattle.object_state.specs.declared.cell.Look.{Look}
use Rattle.object_state.specs.declared.cell.Look.TheVariants as L
use Rattle.ocl_eval.specs.declared.outcome.Outcome.{Outcome as Told}
use Rattle.ocl_eval.specs.declared.outcome.Outcome.TheVariants as answer
use Rattle.ocl_eval.specs.Evaluation.{eval, max_units, told}
use Rattle.ocl_eval.specs.Evaluations.{Outcome}
use Rattle.ocl_eval.specs.Scenes.{scene_of}
use Rattle.invariant_cache.specs.declared.report.Instance.{Instance}
use Rattle.invariant_cache.specs.declared.report.Instance.TheVariants.{Fails, Undefined, Exhausted}
use Rattle.invariant_cache.specs.declared.report.Judged.{Judged}
use Rattle.invariant_cache.specs.declared.report.Report.{Report}
use Rattle.invariant_cache.specs.declared.report.Verdict.{Verdict}
use Rattle.invariant_cache.specs.declared.report.Verdict.TheVariants as verdict

-- why an instance does not hold, by the value of the invariant; what is no Boolean counts as invalid
abbrev pub by_value : Value → Option Instance
by_value (V.Bool b) = if b then None else Some Fails
by_value _ = Some Undefined

abbrev pub by_outcome : Told → Option Instance
by_outcome (answer.Done v) = by_value v
by_outcome answer.Exhausted = Some Exhausted

abbrev pub is_failure : ℕ × Instance → Bool
is_failure (o, Fails) = true
is_failure (o, Undefined) = false
is_failure (o, Exhausted) = false

abbrev pub is_exhausted : ℕ × Instance → Bool
is_exhausted (o, Exhausted) = true
is_exhausted (o, Fails) = false
is_exhausted (o, Undefined) = false

abbrev pub is_undefined : ℕ × Instance → Bool
is_undefined (o, Undefined) = true
is_undefined (o, Fails) = false
is_undefined (o, Exhausted) = false

-- the verdict over the instances that do not hold: one that fails weighs most, then one that is exhausted, then one that is undefined
abbrev pub verdict_over : List (ℕ × Instance) → Verdict
verdict_over bad =
    if list_any is_failure bad then verdict.Failed
    else (if list_any is_exhausted bad then verdict.Over
    else (if list_any is_undefined bad then verdict.NotApplicable
    else verdict.Ok))

abbrev pub is_ok : Verdict → Bool
is_ok verdict.Ok = true
is_ok verdict.Failed = false
is_ok verdict.Over = false
is_ok verdict.NotApplicable = false

-- the words for them
abbrev pub verdict_text : Verdict → List ℕ
verdict_text verdict.Ok = codes "OK"
verdict_text verdict.Failed = codes "FAILED"
verdict_text verdict.Over = codes "OVER"
verdict_text verdict.NotApplicable = codes "N/A"

abbrev pub instance_text : Instance → List ℕ
instance_text Fails = codes "Fails"
instance_text Undefined = codes "Undefined"
instance_text Exhausted = codes "Exhausted"

-- the objects that a cell lists
abbrev pub object_of : Value → Option ℕ
object_of (V.Obj o) = Some o
object_of _ = None

abbrev pub objects_in : Look → List ℕ
objects_in (L.Items vs) = filter_map object_of vs
objects_in _ = []

-- the instances of the class of an invariant, those of its descendants included
abbrev pub instances : (Cell → Look) → Invariant → List ℕ
instances now inv = objects_in (now (Extent inv.class))

module _ (p : ProgramParts) (now : Cell → Look) where
  -- the evaluation for an instance, which is all that is bound
  abbrev pub part : Invariant → ℕ → Outcome Value
  part inv o = eval (scene_of p now now) (V.Obj o ∷ []) inv.expr

  -- those of some instances that do not hold
  abbrev pub bad_at : Invariant → ℕ → Option (ℕ × Instance)
  bad_at inv o = option_map (λ why. (o, why)) (by_outcome (told (part inv o).0))

  abbrev pub bad_among : Invariant → List ℕ → List (ℕ × Instance)
  bad_among inv os = filter_map (bad_at inv) os

  abbrev pub judge : Invariant → Judged
  judge inv = let bad = bad_among inv (instances now inv) in record { verdict = verdict_over bad; bad = bad }

  -- the units of the evaluations, and one for the look at the instances
  abbrev pub units : Invariant → ℕ → ℕ
  units inv o = max_units - (part inv o).1.fuel

  abbrev pub work : Invariant → ℕ
  work inv = 1 + sum_by (units inv) (instances now inv)

  -- of all invariants, in the order of the text
  abbrev pub report : Report
  report = record { lines = map judge p.invariants; evaluated = length p.invariants }

  abbrev pub work_of_all : ℕ
  work_of_all = sum_by work p.invariants

-- how many verdicts are not OK
abbrev pub not_ok : Report → ℕ
not_ok r = length (filter (λ j. not (is_ok j.verdict)) r.lines)
