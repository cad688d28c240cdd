-- What an act on the transaction of a machine does to it, and what a called operation leaves of it.
use Rattle.std.specs.Prelude.{◌≡◌, ℕ, List, [], ◌∷◌, length, Result}
use Rattle.ocl_core.specs.declared.program.ProgramParts.{ProgramParts}
use Rattle.object_state.specs.Valid.{IsValid}
use Rattle.entry_states.specs.declared.frame.Call.{Call}
use Rattle.entry_states.specs.declared.frame.Frame.{Frame}
use Rattle.entry_states.specs.Noting.{AreNoted}
use Rattle.entry_states.specs.Overlays.{Picture, laid_over}
use Rattle.contract_frames.specs.Entering.{IsOpen, TopIsCall}
use Rattle.contract_frames.specs.Judging.{picture}
use Rattle.soil_changes.specs.declared.fault.ChangeFault.{ChangeFault}
use Rattle.soil_changes.specs.Adding.{OnlyAdds}
use Rattle.soil_changes.specs.Progress.{Changing, Gives, Lead, Progress, diagram_of}
use Rattle.soil_exec.specs.declared.calls.Bound.{Bound}
use Rattle.soil_exec.specs.declared.machine.Machine.{Machine as Kept}
use Rattle.soil_exec.specs.Kept.{Follows, IsCurrent}

-- changes lead to a valid state
pub record IsLed (p : Progress) : Type 0 where
  pub lead : Lead p.layout p.start p.changes p.state
  pub valid : IsValid p.layout p.state

-- an act was done on the transaction of a machine, which had made so many changes
pub record WasDone (act : Changing (Unit {0})) (before now : Kept) (since : ℕ) (done : Result (Unit {0}) ChangeFault) : Type 0 where
  pub adds : OnlyAdds act
  pub gives : Gives (act before.transaction) done now.transaction
  pub counted : since ≡ length before.transaction.changes
  pub led : IsLed before.transaction
  pub current : IsCurrent before
  pub rest : now ≡ record before { transaction = now.transaction }

-- what was bound in a machine, and how many changes it had made
pub record IsBoundIn (before : Kept) (b : Bound) : Type 0 where
  pub shell : b.shell ≡ before.shell
  pub env : b.env ≡ before.env
  pub since : b.since ≡ length before.transaction.changes
  pub led : IsLed before.transaction
  pub current : IsCurrent before

-- what stays is as it was, and what was changed since was noted
pub record Returns (old new : Kept) : Type 0 where
  pub follows : Follows old new
  pub noted : AreNoted old.transaction.layout old.transaction.state new.transaction.state old.transaction.frames new.transaction.frames

-- the top call is one that was entered when there was a picture
abbrev pub TopEntered : Call → Picture → List Frame → Picture → Type 0
TopEntered k entry [] now = ⊥
TopEntered k entry (f ∷ fs) now = (f.call ≡ k) × (laid_over f.overlay now ≡ entry)

abbrev pub IsEntered : Call → Progress → Progress → Type 0
IsEntered k entry p = TopEntered k (picture (diagram_of entry)) p.frames (picture (diagram_of p))

-- a call of the program is open
pub record HasTop (p : ProgramParts) (fs : List Frame) : Type 0 where
  pub open_call : IsOpen fs
  pub call : TopIsCall p fs
