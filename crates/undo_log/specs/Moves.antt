-- Moves of frames, carried out and taken back.
use Rattle.std.specs.Prelude.{List, [], ◌∷◌, drop}
use Rattle.entry_states.specs.declared.frame.Frame.{Frame}
use Rattle.entry_states.specs.Frames.{bare, left}
use Rattle.undo_log.specs.declared.frame_move.FrameMove.{FrameMove}
use Rattle.undo_log.specs.declared.frame_move.FrameMove.TheVariants.{Stay, Entered, Left}

-- the frames before a move, and the move that then leads on again
abbrev pub frames_before : FrameMove → List Frame → List Frame
frames_before Stay fs = fs
frames_before (Entered f) fs = drop 1 fs
frames_before (Left f) fs = f ∷ fs

abbrev pub moved_before : FrameMove → List Frame → FrameMove
moved_before Stay fs = Stay
moved_before (Entered f) [] = Entered f
moved_before (Entered f) (g ∷ gs) = Entered g
moved_before (Left f) fs = Left (bare f)

-- the frames after a move, and the move that can then be taken back
abbrev pub frames_after : FrameMove → List Frame → List Frame
frames_after Stay fs = fs
frames_after (Entered f) fs = f ∷ fs
frames_after (Left f) fs = left fs

abbrev pub moved_after : FrameMove → List Frame → FrameMove
moved_after Stay fs = Stay
moved_after (Entered f) fs = Entered (bare f)
moved_after (Left f) [] = Left f
moved_after (Left f) (g ∷ gs) = Left g
