-- A move taken back or carried out again: the open calls.
use Rattle.std.proofs.Common.{◌≡◌, List, [], ◌∷◌, drop, refl, ap, ◌∙◌, sym, subst}
use Rattle.std.specs.Option.{unwrap_or}
use Rattle.object_state.specs.declared.cell.Cell.{Cell}
use Rattle.object_state.specs.declared.cell.Look.{Look}
use Rattle.object_state.specs.declared.change.Change.{Change}
use Rattle.entry_states.specs.declared.frame.Call.{Call}
use Rattle.entry_states.specs.declared.frame.Frame.{Frame}
use Rattle.entry_states.specs.Frames.{Grown, IsCoveredByTop, TopHas, entered, left}
use Rattle.entry_states.specs.Overlays.{Picture, laid_over}
use Rattle.entry_states.proofs.Keeps.{left_grown, left_has, left_keeps, pushed_keeps}
use Rattle.entry_states.proofs.Noted.{grown_on}
use Rattle.undo_log.specs.declared.frame_move.FrameMove.{FrameMove}
use Rattle.undo_log.specs.declared.frame_move.FrameMove.TheVariants.{Stay, Entered, Left}
use Rattle.undo_log.specs.Moves.{frames_after, frames_before, moved_after, moved_before}
use Rattle.undo_log.specs.Points.{CanMoveBack, CanMoveOn, IsOpen, TopIsOn, calls_after, calls_before}

-- what the frame below has is not seen from below it
top_covers : (fs : List Frame) (es : List (Cell × Look)) (q : Picture) → TopHas fs es → IsCoveredByTop fs es q
top_covers [] es q h = tt
top_covers (f ∷ fs) es q h = λ c none. ap (λ s. unwrap_or s (q c)) (h c none)

pub top_has_more : (fs gs : List Frame) (es : List (Cell × Look)) → TopHas fs es → Grown fs gs → TopHas gs es
top_has_more [] [] es h grown = tt
top_has_more [] (g ∷ gs) es h grown = absurd grown
top_has_more (f ∷ fs) [] es h grown = tt
top_has_more (f ∷ fs) (g ∷ gs) es h grown = λ c none. h c (grown.0 c none)

pub before_grown : (m : FrameMove) (fs gs : List Frame) → Grown fs gs → Grown (frames_before m fs) (frames_before m gs)
before_grown Stay fs gs grown = grown
before_grown (Entered f) [] [] grown = tt
before_grown (Entered f) [] (g ∷ gs) grown = absurd grown
before_grown (Entered f) (k ∷ fs) [] grown = absurd grown
before_grown (Entered f) (k ∷ fs) (g ∷ gs) grown = grown.1
before_grown (Left f) fs gs grown = (λ c h. h, grown)

top_on : (xs ys : List (Call × Picture)) (q : Picture) → xs ≡ ys → TopIsOn xs q → TopIsOn ys q
top_on xs ys q h t = subst (λ zs. TopIsOn zs q) h t

open_on : (xs ys : List (Call × Picture)) → xs ≡ ys → IsOpen xs → IsOpen ys
open_on xs ys h t = subst IsOpen h t

-- a move is taken back, where the picture was r and is q then, and the open calls are those of the frames gs
pub back_calls : (m : FrameMove) (cs : List Change) (q r : Picture) (calls : List (Call × Picture)) (fs gs : List Frame)
    → CanMoveBack m cs r calls fs → (cs ≡ [] → q ≡ r) → calls ≡ entered gs q → Grown fs gs
    → calls_before m q calls ≡ entered (frames_before m gs) q
back_calls Stay cs q r calls fs gs h alone is grown = is
back_calls (Entered f) cs q r calls fs [] h alone is grown = ap (drop 1) is
back_calls (Entered f) cs q r calls fs (g ∷ gs) h alone is grown =
    let shows : laid_over g.overlay q ≡ q = top_on calls (entered (g ∷ gs) q) r is h.1 ∙ sym (alone h.0) in
    ap (drop 1) is ∙ ap (entered gs) shows
back_calls (Left f) cs q r calls fs gs h alone is grown =
    ap (λ xs. (f.call, laid_over f.overlay q) ∷ xs) (is ∙ sym (pushed_keeps f gs q (top_covers gs f.overlay q (top_has_more fs gs f.overlay h.1 grown))))

pub back_after : (m : FrameMove) (cs : List Change) (q r : Picture) (calls : List (Call × Picture)) (fs gs : List Frame)
    → CanMoveBack m cs r calls fs → (cs ≡ [] → q ≡ r) → calls ≡ entered gs q
    → calls_after (moved_before m gs) r (calls_before m q calls) ≡ calls
back_after Stay cs q r calls fs gs h alone is = refl
back_after (Entered f) cs q r calls fs [] h alone is = absurd (top_on calls [] r is h.1)
back_after (Entered f) cs q r calls fs (g ∷ gs) h alone is =
    ap (λ r. (g.call, laid_over g.overlay r) ∷ drop 1 calls) (sym (alone h.0))
    ∙ ap (λ xs. (g.call, laid_over g.overlay q) ∷ drop 1 xs) is ∙ sym is
back_after (Left f) cs q r calls fs gs h alone is = refl

pub back_goes : (m : FrameMove) (cs : List Change) (q r : Picture) (calls : List (Call × Picture)) (fs gs : List Frame)
    → CanMoveBack m cs r calls fs → (cs ≡ [] → q ≡ r) → calls ≡ entered gs q
    → CanMoveOn (moved_before m gs) cs q (calls_before m q calls)
back_goes Stay cs q r calls fs gs h alone is = tt
back_goes (Entered f) cs q r calls fs [] h alone is = absurd (top_on calls [] r is h.1)
back_goes (Entered f) cs q r calls fs (g ∷ gs) h alone is = (h.0, top_on calls (entered (g ∷ gs) q) r is h.1 ∙ sym (alone h.0))
back_goes (Left f) cs q r calls fs gs h alone is = (h.0, tt)

-- a move is carried out, where the picture was r and is q then, and the open calls are those of the frames gs
shows_on : (f : Frame) (cs : List Change) (q r : Picture) → (cs ≡ []) × (laid_over f.overlay r ≡ r) → (cs ≡ [] → q ≡ r) → laid_over f.overlay q ≡ q
shows_on f cs q r h alone = ap (laid_over f.overlay) (alone h.0) ∙ h.1 ∙ sym (alone h.0)

pub on_calls : (m : FrameMove) (cs : List Change) (q r : Picture) (calls : List (Call × Picture)) (gs : List Frame)
    → CanMoveOn m cs r calls → (cs ≡ [] → q ≡ r) → calls ≡ entered gs q
    → calls_after m q calls ≡ entered (frames_after m gs) q
on_calls Stay cs q r calls gs h alone is = is
on_calls (Entered f) cs q r calls gs h alone is =
    ap (λ xs. (f.call, laid_over f.overlay q) ∷ xs) (is ∙ ap (entered gs) (sym (shows_on f cs q r h alone)))
on_calls (Left f) cs q r calls gs h alone is = ap (drop 1) is ∙ sym (left_keeps gs q)

pub on_before : (m : FrameMove) (cs : List Change) (q r : Picture) (calls : List (Call × Picture)) (gs : List Frame)
    → CanMoveOn m cs r calls → (cs ≡ [] → q ≡ r) → calls ≡ entered gs q
    → calls_before (moved_after m gs) r (calls_after m q calls) ≡ calls
on_before Stay cs q r calls gs h alone is = refl
on_before (Entered f) cs q r calls gs h alone is = refl
on_before (Left f) cs q r calls [] h alone is = absurd (open_on calls [] is h.1)
on_before (Left f) cs q r calls (g ∷ gs) h alone is =
    ap (λ r. (g.call, laid_over g.overlay r) ∷ drop 1 calls) (sym (alone h.0))
    ∙ ap (λ xs. (g.call, laid_over g.overlay q) ∷ drop 1 xs) is ∙ sym is

pub on_goes : (m : FrameMove) (cs : List Change) (q r : Picture) (calls : List (Call × Picture)) (gs : List Frame)
    → CanMoveOn m cs r calls → (cs ≡ [] → q ≡ r) → calls ≡ entered gs q
    → CanMoveBack (moved_after m gs) cs q (calls_after m q calls) (frames_after m gs)
on_goes Stay cs q r calls gs h alone is = tt
on_goes (Entered f) cs q r calls gs h alone is = (h.0, shows_on f cs q r h alone)
on_goes (Left f) cs q r calls [] h alone is = absurd (open_on calls [] is h.1)
on_goes (Left f) cs q r calls (g ∷ gs) h alone is = (h.0, left_has (g ∷ gs) g refl)

pub on_grown : (m : FrameMove) (cs : List Change) (q r : Picture) (calls : List (Call × Picture)) (fs gs : List Frame)
    → CanMoveOn m cs r calls → calls ≡ entered gs q → Grown fs gs → Grown fs (frames_before (moved_after m gs) (frames_after m gs))
on_grown Stay cs q r calls fs gs h is grown = grown
on_grown (Entered f) cs q r calls fs gs h is grown = grown
on_grown (Left f) cs q r calls fs [] h is grown = absurd (open_on calls [] is h.1)
on_grown (Left f) cs q r calls fs (g ∷ gs) h is grown = grown_on fs (g ∷ gs) (g ∷ left (g ∷ gs)) grown (λ c h. h, left_grown (g ∷ gs))
