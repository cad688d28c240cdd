-- What is kept of a machine: one state, the frames of the calls that are open, and changes.
use Rattle.std.specs.Prelude.{◌≡◌, ◌≤◌, List, ◌∷◌, ◌++◌, All, length, map}
use Rattle.ocl_core.specs.declared.program.ProgramParts.{ProgramParts}
use Rattle.invariant_cache.specs.Counts.{StandsFor}
use Rattle.object_state.specs.Layouts.{layout_of}
use Rattle.contract_frames.specs.Entering.{IsCall}
use Rattle.soil_exec.specs.Typed.{IsTyped}
use Rattle.undo_log.specs.Points.{Point}
use Rattle.undo_log.specs.Timelines.{IsWhole, Timeline, timeline}
use Rattle.use_session.specs.Machine.{Machine, max_history, max_open}
use Rattle.use_session.specs.declared.machine.Machine.{Machine as Kept}

-- one state with its frames, and the changes that lead to the states before and after
abbrev pub machine_of : Kept → Machine
machine_of k = record { program = k.program; timeline = timeline k.store.layout k.history k.store.state k.frames }

-- the states of a machine, each with its open calls: the present one, those before, and those after
abbrev pub points : Timeline → List Point
points t = t.present ∷ map (λ x. x.at) (t.past ++ t.future)

-- variables have types of the model, and the calls are of its operations, and not too many
pub record IsProper (p : ProgramParts) (at : Point) : Type 0 where
  pub types : IsTyped p.model at.state
  pub calls : All (λ c. IsCall p c.0) at.calls
  pub few : length at.calls ≤ max_open

pub record IsKept (k : Kept) : Type 0 where
  pub layout : k.store.layout ≡ layout_of k.program.model
  pub capacity : k.history.capacity ≡ max_history
  pub whole : IsWhole k.store.layout k.history k.store.state k.frames
  pub proper : All (IsProper k.program) (points (machine_of k).timeline)
  pub structure : StandsFor k.program.model k.structure k.store.state
  pub cache : length k.program.invariants ≡ k.cache
