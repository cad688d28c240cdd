-- How a run ends, where source, sink and shelf tell their bytes, and what each answer's cause is.
use Rattle.std.specs.Prelude.{ℕ, ◌≡◌, ◌<◌, ◌≤◌, ◌+◌, ◌⊎◌, true, false, List, ◌++◌, length, Option, Some, None, IsSome, IfSome, ⊤}
use Rattle.std.specs.Option.{option_map}
use Rattle.std.specs.Io.KnownBytes.{Appends, Consumes, IsAtEnd}
use Rattle.use_io.specs.Causes.{Rose}
use Rattle.use_io.specs.Shelves.{Files}
use Rattle.use_text.specs.Cuts.{cuts, ended}
use Rattle.use_shell.specs.declared.status.Status.{Status}
use Rattle.use_shell.specs.declared.status.Status.TheVariants.{Done, Usage, ModelRefused, ReadFault, WriteFault, Memory, Strict}
use Rattle.use_shell.specs.Output.{Ending, Setting, budget, is_too_long, max_input, max_piece, output, play_from, refusal_for, setting_for}
use Rattle.use_shell.specs.Words.{wanted}

-- a front of the bytes was written
pub record AppendsFront (old new : Option (List ℕ)) (bytes : List ℕ) : Type 0 where
  pub front : List ℕ
  pub rest : List ℕ
  pub whole : bytes ≡ front ++ rest
  pub written : Appends old new front

-- the bytes were written whole, and the status is this one
pub record EndsWith (e : Ending) (status : Status) (old new : Option (List ℕ)) : Type 0 where
  pub same : e.status ≡ status
  pub written : Appends old new e.bytes

-- a run ends with its whole output and the output's status, or after a front of it
abbrev pub Ends : Ending → Option (List ℕ) → Option (List ℕ) → Status → Type 0
Ends e old new ReadFault = AppendsFront old new e.bytes
Ends e old new WriteFault = AppendsFront old new e.bytes
Ends e old new Memory = AppendsFront old new e.bytes
Ends e old new status = EndsWith e status old new

-- the same, where shelf and source tell their bytes
abbrev pub RunEnds : List (List ℕ) → Option Files → Option (List ℕ) → Option (List ℕ) → Option (List ℕ) → Status → Type 0
RunEnds words files left old new status = IfSome files (λ held. IfSome left (λ input. Ends (output words held input) old new status))

-- the input was read to its end, or to a command that ended the run
abbrev pub IsReadOut : Status → Type 0
IsReadOut Done = ⊤
IsReadOut Strict = ⊤
IsReadOut _ = ⊥

-- how a run ends whose words are refused: so, or by a fault of its one write
abbrev pub EndsByUsage : Status → Type 0
EndsByUsage Usage = ⊤
EndsByUsage WriteFault = ⊤
EndsByUsage Memory = ⊤
EndsByUsage _ = ⊥

-- how a run ends whose model is refused: so, or by a fault before
abbrev pub EndsByModel : Status → Type 0
EndsByModel ModelRefused = ⊤
EndsByModel ReadFault = ⊤
EndsByModel WriteFault = ⊤
EndsByModel Memory = ⊤
EndsByModel _ = ⊥

-- Usage comes exactly where the words are refused, but for a fault of the write.
pub record HasUsageCause (words : List (List ℕ)) (status : Status) : Type 0 where
  pub only : status ≡ Usage → wanted words ≡ None
  pub always : wanted words ≡ None → EndsByUsage status

-- ModelRefused comes exactly where the words name a model that is refused, but for a fault before: of the shelf, of the one write, or want of
-- memory. `before` and `now` count the shelf's faults.
pub record HasModelCause (words : List (List ℕ)) (before now : ℕ) (status : Status) (files : Files) : Type 0 where
  pub only : status ≡ ModelRefused → IsSome (refusal_for words files)
  pub always : IsSome (refusal_for words files) → EndsByModel status
  pub shelf : IsSome (refusal_for words files) → status ≡ ReadFault → Rose before now

-- What was played, of which something holds: for the words and the model that they name, where the shelf tells its files.
pub record OfSetting (words : List (List ℕ)) (Holds : Setting → Type 0) (files : Files) : Type 0 where
  pub setting : Setting
  pub named : setting_for words files ≡ Some setting
  pub holds : Holds setting

abbrev pub WhereTold : List (List ℕ) → Option Files → (Setting → Type 0) → Type 0
WhereTold words files Holds = IfSome files (OfSetting words Holds)

-- the input is longer than an input may be, in every run whose source tells its bytes
abbrev pub IsLong : Option (List ℕ) → Type 0
IsLong left = IfSome left (λ input. max_input < length input)

-- the input is too long, or it is not
abbrev pub IsTooLong : Option (List ℕ) → Setting → Type 0
IsTooLong left s = IfSome left (λ input. is_too_long s max_input input ≡ true)

abbrev pub IsWithinLimit : Option (List ℕ) → Setting → Type 0
IsWithinLimit left s = IfSome left (λ input. is_too_long s max_input input ≡ false)

-- a command of the input was refused, or a check failed
abbrev pub HasFailed : Option (List ℕ) → Setting → Type 0
HasFailed left s = IfSome left (λ input. (play_from s (cuts input)).failed ≡ true)

-- Strict comes only where it is asked for, and a command was refused or a check failed.
pub record HasStrictCause (words : List (List ℕ)) (files : Option Files) (left : Option (List ℕ)) : Type 0 where
  pub asked : option_map (λ a. a.strict) (wanted words) ≡ Some true
  pub failed : WhereTold words files (HasFailed left)

-- else no command was refused, and no check failed
abbrev pub HasNotFailed : Option (List ℕ) → Setting → Type 0
HasNotFailed left s = s.strict ≡ true → IfSome left (λ input. (play_from s (cuts input)).failed ≡ false)

-- evaluations spent no more than the machine's do, where shelf and source tell their bytes
abbrev pub IsWithinBudget : List (List ℕ) → Option Files → Option (List ℕ) → ℕ → ℕ → Type 0
IsWithinBudget words files left before now = IfSome files (λ held. IfSome left (λ input. now ≤ before + budget words held input))

-- no count of faults rose in a run, or stands at its last value: of source, shelf and sink, before and now
pub record NoneRose (source source_now shelf shelf_now sink sink_now : ℕ) : Type 0 where
  pub of_source : ¬ Rose source source_now
  pub of_shelf : ¬ Rose shelf shelf_now
  pub of_sink : ¬ Rose sink sink_now

-- the output's status, or want of memory
abbrev pub IsComplete : Ending → Status → Type 0
IsComplete e status = (status ≡ e.status) ⊎ (status ≡ Memory)

-- where shelf and source tell their bytes
abbrev pub RunIsComplete : List (List ℕ) → Option Files → Option (List ℕ) → Status → Type 0
RunIsComplete words files left status = IfSome files (λ held. IfSome left (λ input. IsComplete (output words held input) status))

-- The source was taken to its end, and no command that ends in it ended the run.
pub record TakenToEnd (s : Setting) (left now : Option (List ℕ)) : Type 0 where
  pub taken : List ℕ
  pub from : Consumes left now taken
  pub end : IsAtEnd now
  pub goes_on : (play_from s (ended taken)).over ≡ false

-- The source was taken through the piece in which the command ends that ended the run. `before` is what was taken before that piece.
pub record TakenByCommand (s : Setting) (left now : Option (List ℕ)) : Type 0 where
  pub before : List ℕ
  pub front : List ℕ
  pub rest : List ℕ
  pub taken : Consumes left now (before ++ (front ++ rest))
  pub short : length (front ++ rest) ≤ max_piece
  pub goes_on : (play_from s (ended before)).over ≡ false
  pub over : (play_from s (ended (before ++ front))).over ≡ true

abbrev pub IsTaken : Option (List ℕ) → Option (List ℕ) → Setting → Type 0
IsTaken left now s = TakenToEnd s left now ⊎ TakenByCommand s left now

-- no more was taken of the source than the longest input and one piece
pub record IsBounded (left now : Option (List ℕ)) : Type 0 where
  pub taken : List ℕ
  pub from : Consumes left now taken
  pub short : length taken ≤ max_input + max_piece

-- The source failed: what was written are the answers to the commands that end in the bytes that were taken, and none of these ended the run.
pub record AnswersTaken (left now old new : Option (List ℕ)) (s : Setting) : Type 0 where
  pub taken : List ℕ
  pub from : Consumes left now taken
  pub goes_on : (play_from s (ended taken)).over ≡ false
  pub written : Appends old new (play_from s (ended taken)).bytes

-- the source is as it was, where the words or the model are refused
pub record LeavesSource (words : List (List ℕ)) (files : Option Files) (status : Status) (same : Type 0) : Type 0 where
  pub words_refused : wanted words ≡ None → same
  pub model_refused : IfSome files (λ held. IsSome (refusal_for words held) → same)
  pub at_usage : status ≡ Usage → same
  pub at_model : status ≡ ModelRefused → same
