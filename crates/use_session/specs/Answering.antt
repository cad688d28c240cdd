-- What a session stands for, and what calls answer that carry out a step, or tell why statements are refused.
use Rattle.std.specs.Prelude.{◌≡◌, ◌+◌, ◌++◌, ℕ, ⊤, Bool, List, IfOk, IsErr, OnOk, Result, Ok, Err}
use Rattle.std.specs.declared.alloc.AllocError.{AllocError}
use Rattle.use_text.specs.declared.code.Code.{Code}
use Rattle.use_text.specs.declared.code.Family.TheVariants.{B, C}
use Rattle.use_text.specs.declared.place.Place.{Place}
use Rattle.use_text.specs.Codes.{code_of}
use Rattle.use_text.specs.Refusals.{refusal_at}
use Rattle.ocl_core.specs.declared.program.ProgramParts.{ProgramParts}
use Rattle.object_state.specs.State.{Diagram}
use Rattle.entry_states.specs.declared.frame.Frame.{Frame}
use Rattle.undo_log.specs.Kept.{Kept as History}
use Rattle.undo_log.specs.Timelines.{timeline}
use Rattle.contract_frames.specs.declared.fault.FrameFault.{FrameFault}
use Rattle.contract_frames.specs.declared.fault.FrameFault.TheVariants as contract
use Rattle.soil_exec.specs.declared.fault.ExecFault.{ExecFault}
use Rattle.soil_exec.specs.declared.fault.ExecFault.TheVariants as fault
use Rattle.use_session.specs.declared.machine.Machine.{Machine as Kept}
use Rattle.use_session.specs.declared.session.Turn.{Turn}
use Rattle.use_session.specs.declared.session.Turn.TheVariants.{Quiet, Refused}
use Rattle.use_session.specs.Answers.{refusal_line}
use Rattle.contract_texts.specs.ContractLines.{broken_line}
use Rattle.use_session.specs.Kept.{IsKept, machine_of}
use Rattle.use_session.specs.Machine.{Machine, Step}

-- what a session holds: whether it lacked memory before, the program, one state with the frames of the calls that are open, and the history
pub record Held : Type 0 where
  pub over : Bool
  pub program : ProgramParts
  pub store : Diagram
  pub frames : List Frame
  pub history : History

-- the machine that it stands for
abbrev pub machine_in : Held → Machine
machine_in s = record { program = s.program; timeline = timeline s.store.layout s.history s.store.state s.frames }

-- the step was carried out: its bytes are behind those that were there, and its units behind those that were counted
pub record Answered (s : Step) (old : List ℕ) (before : ℕ) (end : Turn) (k : Kept) (new : List ℕ) (after : ℕ) : Type 0 where
  pub turn : end ≡ s.turn
  pub kept : IsKept k
  pub machine : machine_of k ≡ s.machine
  pub bytes : new ≡ old ++ s.bytes
  pub units : after ≡ before + s.units

-- unless memory was wanting: what is kept is then in no stated condition
abbrev pub Answers : Step → List ℕ → ℕ → Result Turn AllocError → Kept → List ℕ → ℕ → Type 0
Answers s bytes steps (Ok turn) k bytes' steps' = Answered s bytes steps turn k bytes' steps'
Answers s bytes steps (Err e) k bytes' steps' = ⊤

-- a refusal is told
abbrev pub IsRefused : Code → List ℕ → List ℕ → Result Turn AllocError → List ℕ → Type 0
IsRefused code line bytes told bytes' = OnOk told (bytes' ≡ bytes ++ line) × IfOk told (λ turn. turn ≡ Refused code)

-- why statements were refused is told; for want of memory nothing is
abbrev pub TellsFault : ProgramParts → ExecFault → List ℕ → Result Turn AllocError → List ℕ → Type 0
TellsFault p fault.Memory bytes told bytes' = IsErr told
TellsFault p (fault.Refused r) bytes told bytes' = IsRefused r.code (refusal_line r) bytes told bytes'
TellsFault p (fault.Broken r n v) bytes told bytes' = IsRefused r.code (broken_line p r n v) bytes told bytes'

-- and why a call is not entered, at a place
abbrev pub TellsFrameFault : ProgramParts → Place → FrameFault → List ℕ → Result Turn AllocError → List ℕ → Type 0
TellsFrameFault p at contract.Memory bytes told bytes' = IsErr told
TellsFrameFault p at (contract.Over n) bytes told bytes' = IsRefused (code_of B 1) (refusal_line (refusal_at (code_of B 1) at)) bytes told bytes'
TellsFrameFault p at (contract.Broken n v) bytes told bytes' = IsRefused (code_of C 1) (broken_line p (refusal_at (code_of C 1) at) n v) bytes told bytes'
TellsFrameFault p at _ bytes told bytes' = IsRefused (code_of C 4) (refusal_line (refusal_at (code_of C 4) at)) bytes told bytes'

-- where no call is open, leaving the top one does nothing
abbrev pub TellsNoneLeft : FrameFault → Result Turn AllocError → Type 0
TellsNoneLeft contract.Memory told = IsErr told
TellsNoneLeft _ told = IfOk told (λ turn. turn ≡ Quiet)
