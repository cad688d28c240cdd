-- The same of a run that may have been stopped. Only proofs use these words.
use Rattle.std.specs.Prelude.{ℕ, ◌≡◌, ◌≤◌, ◌+◌, ◌⊎◌, List, Option, None, Result, Ok, Err, IsSome, IfSome, IfOk, IsErrOf, MatchResult, ⊤}
use Rattle.use_io.specs.Causes.{Rose}
use Rattle.use_io.specs.Shelves.{Files}
use Rattle.use_shell.specs.declared.status.Status.{Status}
use Rattle.use_shell.specs.declared.status.Status.TheVariants.{Done, Usage, ModelRefused, ReadFault, WriteFault, Memory, TooLong, Strict}
use Rattle.use_shell.specs.declared.stop.Stop.{Stop}
use Rattle.use_shell.specs.declared.stop.Stop.TheVariants.{Read, Write, Memory as Wanting}
use Rattle.use_shell.specs.Words.{wanted}
use Rattle.use_shell.specs.Output.{Ending, Setting, of_input, output, refusal_for}
use Rattle.use_shell.specs.Endings.{AppendsFront, EndsWith, HasFailed, HasNotFailed, HasStrictCause, IsLong, IsReadOut, IsTaken, IsTooLong, IsWithinLimit, WhereTold}

abbrev pub Finishes : Ending → Option (List ℕ) → Option (List ℕ) → Result Status Stop → Type 0
Finishes e old new (Ok status) = EndsWith e status old new
Finishes e old new (Err stop) = AppendsFront old new e.bytes

-- where shelf and source tell their bytes
abbrev pub RunFinishes : List (List ℕ) → Option Files → Option (List ℕ) → Option (List ℕ) → Option (List ℕ) → Result Status Stop → Type 0
RunFinishes words files left old new result = IfSome files (λ held. IfSome left (λ input. Finishes (output words held input) old new result))

-- a status that no fault gives
abbrev pub IsFinal : Status → Type 0
IsFinal ReadFault = ⊥
IsFinal WriteFault = ⊥
IsFinal Memory = ⊥
IsFinal _ = ⊤

-- a status of an input that was played
abbrev pub IsPlayed : Status → Type 0
IsPlayed Done = ⊤
IsPlayed TooLong = ⊤
IsPlayed Strict = ⊤
IsPlayed _ = ⊥

-- what stops a run is no fault of reading
abbrev pub IsNoRead : Stop → Type 0
IsNoRead Read = ⊥
IsNoRead Write = ⊤
IsNoRead Wanting = ⊤

-- the causes
pub record StopsByUsage (words : List (List ℕ)) (result : Result Status Stop) : Type 0 where
  pub only : IfOk result (λ status. status ≡ Usage → wanted words ≡ None)
  pub always : wanted words ≡ None → MatchResult result (λ status. status ≡ Usage) IsNoRead

pub record StopsByModel (words : List (List ℕ)) (result : Result Status Stop) (files : Files) : Type 0 where
  pub only : IfOk result (λ status. status ≡ ModelRefused → IsSome (refusal_for words files))
  pub always : IsSome (refusal_for words files) → IfOk result (λ status. status ≡ ModelRefused)

-- where the model is refused, only a fault of the shelf stops the reading
abbrev pub StopsByShelf : List (List ℕ) → Files → ℕ → ℕ → Result Status Stop → Type 0
StopsByShelf words files before now result = IsSome (refusal_for words files) → IsErrOf result Read → Rose before now

-- how a source was played with a setting
pub record CommandsEnd (left now old new : Option (List ℕ)) (steps steps' : ℕ) (result : Result Status Stop) (s : Setting) : Type 0 where
  pub bytes : IfSome left (λ input. Finishes (of_input s input) old new result)
  pub too_long : IfOk result (λ status. status ≡ TooLong → IsTooLong left s)
  pub within : IfOk result (λ status. IsReadOut status → IsWithinLimit left s)
  pub failed : IfOk result (λ status. status ≡ Strict → HasFailed left s)
  pub not_failed : IfOk result (λ status. status ≡ Done → HasNotFailed left s)
  pub taken : IfOk result (λ status. IsReadOut status → IsTaken left now s)
  pub units : IsErrOf result Wanting ⊎ IfSome left (λ input. steps' ≤ steps + (of_input s input).units)

-- the same of the words of a run
pub record RunStops (words : List (List ℕ)) (files : Option Files) (left now : Option (List ℕ)) (result : Result Status Stop) : Type 0 where
  pub long : IfOk result (λ status. status ≡ TooLong → IsLong left)
  pub too_long : IfOk result (λ status. status ≡ TooLong → WhereTold words files (IsTooLong left))
  pub within : IfOk result (λ status. IsReadOut status → WhereTold words files (IsWithinLimit left))
  pub strict : IfOk result (λ status. status ≡ Strict → HasStrictCause words files left)
  pub not_failed : IfOk result (λ status. status ≡ Done → WhereTold words files (HasNotFailed left))
  pub taken : IfOk result (λ status. IsReadOut status → WhereTold words files (IsTaken left now))

pub record StopsUntouched (words : List (List ℕ)) (files : Option Files) (same : Type 0) (result : Result Status Stop) : Type 0 where
  pub words_refused : wanted words ≡ None → same
  pub model_refused : IfSome files (λ held. IsSome (refusal_for words held) → same)
  pub at_usage : IfOk result (λ status. status ≡ Usage → same)
  pub at_model : IfOk result (λ status. status ≡ ModelRefused → same)
