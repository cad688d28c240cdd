-- What a history means beside a state and its open frames: all that was and can be again.
use Rattle.std.specs.Prelude.{ℕ, List, [], ◌∷◌, take}
use Rattle.object_state.specs.declared.change.Change.{Change}
use Rattle.object_state.specs.declared.layout.Layout.{Layout}
use Rattle.object_state.specs.State.{State}
use Rattle.entry_states.specs.declared.frame.Frame.{Frame}
use Rattle.undo_log.specs.declared.entry.Entry.{Entry}
use Rattle.undo_log.specs.Kept.{Kept}
use Rattle.undo_log.specs.Points.{LeadHere, LeadOn, Point, back, on, point}

-- a point, and the changes between it and the one that is nearer to the present
pub record Moment : Type 0 where
  pub at : Point
  pub changes : List Change

-- what was before, the newest first; what is; and what can be again, the next first
pub record Timeline : Type 0 where
  pub past : List Moment
  pub present : Point
  pub future : List Moment

-- after an undo and after a redo, where there is something to undo and to redo
abbrev undone_to : Timeline → List Moment → Timeline
undone_to t [] = t
undone_to t (m ∷ ms) = record { past = ms; present = m.at; future = record { at = t.present; changes = m.changes } ∷ t.future }

abbrev redone_to : Timeline → List Moment → Timeline
redone_to t [] = t
redone_to t (m ∷ ms) = record { past = record { at = t.present; changes = m.changes } ∷ t.past; present = m.at; future = ms }

abbrev pub undone : Timeline → Timeline
undone t = undone_to t t.past

abbrev pub redone : Timeline → Timeline
redone t = redone_to t t.future

-- after a new command whose changes led to a point, where n moments are kept
abbrev pub advanced : ℕ → Timeline → List Change → Point → Timeline
advanced n t cs p = record { past = take n (record { at = t.present; changes = cs } ∷ t.past); present = p; future = [] }

module _ (l : Layout) where
  abbrev pub past_of : List Entry → Point → List Moment
  past_of [] p = []
  past_of (e ∷ es) p = record { at = back l e p; changes = e.changes } ∷ past_of es (back l e p)

  abbrev pub future_of : List Entry → Point → List Moment
  future_of [] p = []
  future_of (e ∷ es) p = record { at = on l e p; changes = e.changes } ∷ future_of es (on l e p)

  abbrev pub timeline : Kept → State → List Frame → Timeline
  timeline h s fs = record { past = past_of h.past (point l s fs); present = point l s fs; future = future_of h.future (point l s fs) }

  -- a history that can be taken back, and carried out again
  abbrev pub IsWhole : Kept → State → List Frame → Type 0
  IsWhole h s fs = LeadHere l h.past (point l s fs) fs × LeadOn l h.future (point l s fs)
