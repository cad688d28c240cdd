-- How a transaction ends: its changes stay, or all are taken back.
use Rattle.std.specs.Prelude.{◌≡◌, ⊤, List, Result, Ok, Err}
use Rattle.object_state.specs.declared.change.Change.{Change}
use Rattle.object_state.specs.State.{Diagram}
use Rattle.entry_states.specs.declared.frame.Frame.{Frame}
use Rattle.entry_states.specs.Noting.{AreNoted}
use Rattle.soil_changes.specs.Progress.{Lead, Progress, diagram_of}
use Rattle.soil_exec.specs.declared.fault.ExecFault.{ExecFault}
use Rattle.soil_exec.specs.declared.fault.ExecFault.TheVariants.{Memory}

-- the changes stay
pub record Stay (p : Progress) (d : Diagram) (fs : List Frame) (r : Result (List Change) ExecFault) : Type 0 where
  pub told : r ≡ Ok p.changes
  pub state : d ≡ diagram_of p
  pub frames : fs ≡ p.frames
  pub lead : Lead p.layout p.start p.changes p.state

-- they are taken back, and that is noted
pub record GoBack (p : Progress) (x : ExecFault) (d : Diagram) (fs : List Frame) (y : ExecFault) : Type 0 where
  pub told : y ≡ x
  pub state : d ≡ record { layout = p.layout; state = p.start }
  pub lead : Lead p.layout p.start p.changes p.state
  pub noted : AreNoted p.layout p.state p.start p.frames fs

-- unless memory is wanting
abbrev pub GoesBack : Progress → ExecFault → Diagram → List Frame → Result (List Change) ExecFault → Type 0
GoesBack p x d fs (Ok changes) = ⊥
GoesBack p x d fs (Err Memory) = ⊤
GoesBack p x d fs (Err y) = GoBack p x d fs y

abbrev pub Ends : Progress → Result (Unit {0}) ExecFault → Diagram → List Frame → Result (List Change) ExecFault → Type 0
Ends p (Ok u) d fs r = Stay p d fs r
Ends p (Err Memory) d fs r = r ≡ Err Memory
Ends p (Err x) d fs r = GoesBack p x d fs r
