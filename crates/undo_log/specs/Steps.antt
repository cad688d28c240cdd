-- One step back and one step on.
use Rattle.std.specs.Prelude.{◌≡◌, List}
use Rattle.object_state.specs.declared.layout.Layout.{Layout}
use Rattle.object_state.specs.Looks.{look}
use Rattle.object_state.specs.State.{State}
use Rattle.entry_states.specs.declared.frame.Frame.{Frame}
use Rattle.entry_states.specs.Frames.{Grown}
use Rattle.undo_log.specs.declared.entry.Entry.{Entry}
use Rattle.entry_states.specs.Leading.{led_on, taken_back}
use Rattle.undo_log.specs.Moves.{frames_after, frames_before, moved_after, moved_before}
use Rattle.undo_log.specs.Points.{GoesBack, GoesOn, back, on, point}

-- the entry that leads on again, and the one that can be taken back, where the frames were gs before the move
abbrev pub entry_on : Entry → List Frame → Entry
entry_on e gs = record { changes = e.changes; moved = moved_before e.moved gs }

abbrev pub entry_back : Entry → List Frame → Entry
entry_back e gs = record { changes = e.changes; moved = moved_after e.moved gs }

-- an entry led on from a state and frames to others
pub record LedOn (l : Layout) (s : State) (fs : List Frame) (e : Entry) (t : State) (hs : List Frame) : Type 0 where
  pub before : back l e (point l t hs) ≡ point l s fs
  pub goes_back : GoesBack l e (point l t hs) hs
  pub grown : Grown fs (frames_before e.moved hs)

-- an entry was taken back, to a state and frames from which another leads on again
pub record LedBack (l : Layout) (s : State) (fs : List Frame) (e again : Entry) (t : State) (hs : List Frame) : Type 0 where
  pub changes : again.changes ≡ e.changes
  pub there : point l t hs ≡ back l e (point l s fs)
  pub after : on l again (point l t hs) ≡ point l s fs
  pub goes_on : GoesOn l again (point l t hs)
  pub grown : Grown (frames_before e.moved fs) hs

-- the state and frames to which an entry is taken back, and is carried out again
abbrev pub TakesBack : Layout → State → List Frame → List Frame → Entry → Type 0
TakesBack l s fs gs e = LedBack l s fs e (entry_on e gs) (taken_back l e.changes s) (frames_before e.moved gs)

abbrev pub CarriesOut : Layout → State → List Frame → List Frame → Entry → Type 0
CarriesOut l s fs gs e =
    (point l (led_on l s e.changes) (frames_after e.moved gs) ≡ on l e (point l s fs))
    × LedOn l s fs (entry_back e gs) (led_on l s e.changes) (frames_after e.moved gs)
