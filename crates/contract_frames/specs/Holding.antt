-- Which contracts hold.
use Rattle.std.specs.Prelude.{◌≡◌, ℕ, ⊤, Bool, false, if◌then◌else◌, List, [], ◌∷◌, map, Option, Some, None, Result, Ok, Err}
use Rattle.std.specs.Option.{option_or}
use Rattle.ocl_values.specs.declared.value.Value.{Value}
use Rattle.ocl_values.specs.declared.value.Value.TheVariants as V
use Rattle.ocl_eval.specs.declared.outcome.Outcome.{Outcome}
use Rattle.ocl_eval.specs.declared.outcome.Outcome.TheVariants.{Done, Exhausted}
use Rattle.contract_frames.specs.declared.fault.FrameFault.{FrameFault}
use Rattle.contract_frames.specs.declared.fault.FrameFault.TheVariants.{Memory, Over, Broken}

-- what a condition's value counts as: true, false, null or invalid
abbrev pub judged : Value → Value
judged (V.Bool b) = V.Bool b
judged V.Null = V.Null
judged _ = V.Invalid

-- why a condition of this value is broken
abbrev pub is_true : Value → Bool
is_true (V.Bool b) = b
is_true _ = false

abbrev pub broken_by : ℕ → Value → Option FrameFault
broken_by n v = if is_true v then None else Some (Broken n (judged v))

-- and of this outcome
abbrev pub fault_of : ℕ → Outcome → Option FrameFault
fault_of n (Done v) = broken_by n v
fault_of n Exhausted = Some (Over n)

-- the first that is not true
abbrev pub first_fault : List (ℕ × Outcome) → Option FrameFault
first_fault [] = None
first_fault (o ∷ os) = option_or (fault_of o.0 o.1) (first_fault os)

-- the numbers of contracts that are all true, or the first that is not
abbrev unless_fault : Option FrameFault → List ℕ → Result (List ℕ) FrameFault
unless_fault None ns = Ok ns
unless_fault (Some f) ns = Err f

abbrev pub all_true : List (ℕ × Outcome) → Result (List ℕ) FrameFault
all_true os = unless_fault (first_fault os) (map (λ o. o.0) os)

-- what is answered, unless memory is wanting
abbrev pub Answers : {A : Type 0} → Result A FrameFault → Result A FrameFault → Type 0
Answers told (Err Memory) = ⊤
Answers told r = r ≡ told

-- what holds unless memory is wanting
abbrev pub NotMemory : {A : Type 0} → Result A FrameFault → Type 0 → Type 0
NotMemory (Err Memory) T = ⊤
NotMemory r T = T
