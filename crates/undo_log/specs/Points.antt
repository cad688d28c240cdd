-- The states and open calls that a history leads back and on to.
use Rattle.std.specs.Prelude.{◌≡◌, ⊤, List, [], ◌∷◌, drop}
use Rattle.object_state.specs.declared.change.Change.{Change}
use Rattle.object_state.specs.declared.layout.Layout.{Layout}
use Rattle.object_state.specs.Looks.{look}
use Rattle.object_state.specs.State.{State}
use Rattle.entry_states.specs.declared.frame.Call.{Call}
use Rattle.entry_states.specs.declared.frame.Frame.{Frame}
use Rattle.entry_states.specs.Frames.{TopHas, entered}
use Rattle.entry_states.specs.Overlays.{Picture, laid_over}
use Rattle.undo_log.specs.declared.entry.Entry.{Entry}
use Rattle.undo_log.specs.declared.frame_move.FrameMove.{FrameMove}
use Rattle.undo_log.specs.declared.frame_move.FrameMove.TheVariants.{Stay, Entered, Left}
use Rattle.entry_states.specs.Leading.{CanBeCarriedOut, CanBeTakenBack, led_on, taken_back}
use Rattle.undo_log.specs.Moves.{frames_before}

-- a state, and the calls that are open, the top one first, each with the picture at its entry
pub record Point : Type 0 where
  pub state : State
  pub calls : List (Call × Picture)

-- a state with its open frames
abbrev pub point : Layout → State → List Frame → Point
point l s fs = record { state = s; calls = entered fs (look l s) }

-- the open calls before a move and after it, where q is then the present picture
abbrev pub calls_before : FrameMove → Picture → List (Call × Picture) → List (Call × Picture)
calls_before Stay q calls = calls
calls_before (Entered f) q calls = drop 1 calls
calls_before (Left f) q calls = (f.call, laid_over f.overlay q) ∷ calls

abbrev pub calls_after : FrameMove → Picture → List (Call × Picture) → List (Call × Picture)
calls_after Stay q calls = calls
calls_after (Entered f) q calls = (f.call, laid_over f.overlay q) ∷ calls
calls_after (Left f) q calls = drop 1 calls

-- a call is open, and the top one was entered on a picture
abbrev pub IsOpen : List (Call × Picture) → Type 0
IsOpen [] = ⊥
IsOpen (x ∷ xs) = ⊤

abbrev pub TopIsOn : List (Call × Picture) → Picture → Type 0
TopIsOn [] q = ⊥
TopIsOn (x ∷ xs) q = x.1 ≡ q

-- what a history keeps of moves so that they can be taken back: a move comes without changes, the call that was entered was entered on the
-- present picture, and what the frame saved that was left is saved in the frame that was below it
abbrev pub CanMoveBack : FrameMove → List Change → Picture → List (Call × Picture) → List Frame → Type 0
CanMoveBack Stay cs q calls fs = ⊤
CanMoveBack (Entered f) cs q calls fs = (cs ≡ []) × TopIsOn calls q
CanMoveBack (Left f) cs q calls fs = (cs ≡ []) × TopHas fs f.overlay

-- and so that they can be carried out again: the call that is entered is entered on the present picture, and one that is left is open
abbrev pub CanMoveOn : FrameMove → List Change → Picture → List (Call × Picture) → Type 0
CanMoveOn Stay cs q calls = ⊤
CanMoveOn (Entered f) cs q calls = (cs ≡ []) × (laid_over f.overlay q ≡ q)
CanMoveOn (Left f) cs q calls = (cs ≡ []) × IsOpen calls

module _ (l : Layout) where
  -- the point before an entry that can be taken back, and the one after an entry that can be carried out again
  abbrev pub back : Entry → Point → Point
  back e p = let s = taken_back l e.changes p.state in record { state = s; calls = calls_before e.moved (look l s) p.calls }

  abbrev pub on : Entry → Point → Point
  on e p = let s = led_on l p.state e.changes in record { state = s; calls = calls_after e.moved (look l s) p.calls }

  abbrev pub GoesBack : Entry → Point → List Frame → Type 0
  GoesBack e p fs = CanBeTakenBack l e.changes p.state × CanMoveBack e.moved e.changes (look l p.state) p.calls fs

  abbrev pub GoesOn : Entry → Point → Type 0
  GoesOn e p = CanBeCarriedOut l p.state e.changes × CanMoveOn e.moved e.changes (look l p.state) p.calls

  -- entries can be taken back one after another, the newest first, and carried out again, the next first
  abbrev pub LeadHere : List Entry → Point → List Frame → Type 0
  LeadHere [] p fs = ⊤
  LeadHere (e ∷ es) p fs = GoesBack e p fs × LeadHere es (back e p) (frames_before e.moved fs)

  abbrev pub LeadOn : List Entry → Point → Type 0
  LeadOn [] p = ⊤
  LeadOn (e ∷ es) p = GoesOn e p × LeadOn es (on e p)
