-- The whole past and future.
use Rattle.std.proofs.Common.{◌≡◌, ℕ, zero, suc, List, [], ◌∷◌, take, refl, ap, ◌∙◌, sym, subst}
use Rattle.object_state.specs.declared.change.Change.{Change}
use Rattle.object_state.specs.declared.layout.Layout.{Layout}
use Rattle.object_state.specs.Looks.{look}
use Rattle.object_state.specs.State.{State}
use Rattle.entry_states.specs.declared.frame.Call.{Call}
use Rattle.entry_states.specs.declared.frame.Frame.{Frame}
use Rattle.entry_states.specs.Frames.{Grown}
use Rattle.entry_states.specs.Overlays.{Picture}
use Rattle.undo_log.specs.declared.entry.Entry.{Entry}
use Rattle.undo_log.specs.declared.frame_move.FrameMove.{FrameMove}
use Rattle.undo_log.specs.declared.frame_move.FrameMove.TheVariants.{Stay, Entered, Left}
use Rattle.undo_log.specs.Kept.{Kept}
use Rattle.undo_log.specs.Moves.{frames_before}
use Rattle.undo_log.specs.Points.{CanMoveBack, LeadHere, LeadOn, Point, back, on, point}
use Rattle.undo_log.specs.Steps.{LedBack, LedOn}
use Rattle.undo_log.specs.Timelines.{IsWhole, Moment, Timeline, advanced, future_of, past_of, redone, timeline, undone}
use Rattle.undo_log.proofs.Moved.{before_grown, top_has_more}

abbrev moment : Point → List Change → Moment
moment p cs = record { at = p; changes = cs }

abbrev times : List Moment → Point → List Moment → Timeline
times past p future = record { past = past; present = p; future = future }

module _ (l : Layout) where
  moves_more : (m : FrameMove) (cs : List Change) (q : Picture) (calls : List (Call × Picture)) (fs gs : List Frame) → CanMoveBack m cs q calls fs → Grown fs gs
      → CanMoveBack m cs q calls gs
  moves_more Stay cs q calls fs gs h grown = tt
  moves_more (Entered f) cs q calls fs gs h grown = h
  moves_more (Left f) cs q calls fs gs h grown = (h.0, top_has_more fs gs f.overlay h.1 grown)

  -- what leads here over some frames does so over those that have grown from them
  here_more : (es : List Entry) (p : Point) (fs gs : List Frame) → LeadHere l es p fs → Grown fs gs → LeadHere l es p gs
  here_more [] p fs gs h grown = tt
  here_more (e ∷ es) p fs gs h grown = (
    (h.0.0, moves_more e.moved e.changes (look l p.state) p.calls fs gs h.0.1 grown),
    here_more es (back l e p) (frames_before e.moved fs) (frames_before e.moved gs) h.1 (before_grown e.moved fs gs grown),
  )

  -- one entry more in the past
  here_on : (es : List Entry) (e : Entry) (s t : State) (fs hs : List Frame) → LeadHere l es (point l s fs) fs → LedOn l s fs e t hs
      → LeadHere l (e ∷ es) (point l t hs) hs
  here_on es e s t fs hs here led =
      (led.goes_back, here_more es (back l e (point l t hs)) fs (frames_before e.moved hs) (subst (λ p. LeadHere l es p fs) (sym led.before) here) led.grown)

  past_on : (es : List Entry) (e : Entry) (s t : State) (fs hs : List Frame) → LedOn l s fs e t hs
      → past_of l (e ∷ es) (point l t hs) ≡ moment (point l s fs) e.changes ∷ past_of l es (point l s fs)
  past_on es e s t fs hs led = ap (λ p. moment p e.changes ∷ past_of l es p) led.before

  -- the newest entries
  here_fewer : (n : ℕ) (es : List Entry) (p : Point) (fs : List Frame) → LeadHere l es p fs → LeadHere l (take n es) p fs
  here_fewer zero [] p fs h = tt
  here_fewer zero (e ∷ es) p fs h = tt
  here_fewer (suc n) [] p fs h = tt
  here_fewer (suc n) (e ∷ es) p fs h = (h.0, here_fewer n es (back l e p) (frames_before e.moved fs) h.1)

  past_fewer : (n : ℕ) (es : List Entry) (p : Point) → past_of l (take n es) p ≡ take n (past_of l es p)
  past_fewer zero [] p = refl
  past_fewer zero (e ∷ es) p = refl
  past_fewer (suc n) [] p = refl
  past_fewer (suc n) (e ∷ es) p = ap (λ ms. moment (back l e p) e.changes ∷ ms) (past_fewer n es (back l e p))

  -- over frames that have grown, and open the same calls, it means what it meant
  pub grown_whole : (h : Kept) (s : State) (fs gs : List Frame) → point l s gs ≡ point l s fs → Grown fs gs → IsWhole l h s fs → IsWhole l h s gs
  grown_whole h s fs gs same grown w =
      (subst (λ p. LeadHere l h.past p gs) (sym same) (here_more h.past (point l s fs) fs gs w.0 grown), subst (LeadOn l h.future) (sym same) w.1)

  module _ (s t : State) (fs hs : List Frame) where
    pub undo_whole : (h k m : Kept) (e again : Entry) → h ≡ record k { past = e ∷ k.past } → m ≡ record k { future = again ∷ k.future }
        → IsWhole l h s fs → LedBack l s fs e again t hs → IsWhole l m t hs
    undo_whole h k m e again old new whole led =
        let w = subst (λ h. IsWhole l h s fs) old whole in
        subst (λ m. IsWhole l m t hs) (sym new) (
          here_more k.past (point l t hs) (frames_before e.moved fs) hs (subst (λ p. LeadHere l k.past p (frames_before e.moved fs)) (sym led.there) w.0.1) led.grown,
          (led.goes_on, subst (LeadOn l k.future) (sym led.after) w.1),
        )

    pub undo_times : (h k m : Kept) (e again : Entry) → h ≡ record k { past = e ∷ k.past } → m ≡ record k { future = again ∷ k.future }
        → LedBack l s fs e again t hs → timeline l m t hs ≡ undone (timeline l h s fs)
    undo_times h k m e again old new led =
        ap (λ m. timeline l m t hs) new
        ∙ ap (λ p. times (past_of l k.past (point l t hs)) (point l t hs) (moment p again.changes ∷ future_of l k.future p)) led.after
        ∙ ap (λ cs. times (past_of l k.past (point l t hs)) (point l t hs) (moment (point l s fs) cs ∷ future_of l k.future (point l s fs))) led.changes
        ∙ ap (λ p. times (past_of l k.past p) p (moment (point l s fs) e.changes ∷ future_of l k.future (point l s fs))) led.there
        ∙ ap (λ h. undone (timeline l h s fs)) (sym old)

    pub redo_whole : (h k m : Kept) (e kept : Entry) → h ≡ record k { future = e ∷ k.future } → m ≡ record k { past = kept ∷ k.past }
        → IsWhole l h s fs → point l t hs ≡ on l e (point l s fs) → LedOn l s fs kept t hs → IsWhole l m t hs
    redo_whole h k m e kept old new whole there led =
        let w = subst (λ h. IsWhole l h s fs) old whole in
        subst (λ m. IsWhole l m t hs) (sym new) (here_on k.past kept s t fs hs w.0 led, subst (LeadOn l k.future) (sym there) w.1.1)

    pub redo_times : (h k m : Kept) (e kept : Entry) → h ≡ record k { future = e ∷ k.future } → m ≡ record k { past = kept ∷ k.past }
        → kept.changes ≡ e.changes → point l t hs ≡ on l e (point l s fs) → LedOn l s fs kept t hs → timeline l m t hs ≡ redone (timeline l h s fs)
    redo_times h k m e kept old new same there led =
        ap (λ m. timeline l m t hs) new
        ∙ ap (λ ms. times ms (point l t hs) (future_of l k.future (point l t hs))) (past_on k.past kept s t fs hs led)
        ∙ ap (λ cs. times (moment (point l s fs) cs ∷ past_of l k.past (point l s fs)) (point l t hs) (future_of l k.future (point l t hs))) same
        ∙ ap (λ p. times (moment (point l s fs) e.changes ∷ past_of l k.past (point l s fs)) p (future_of l k.future p)) there
        ∙ ap (λ h. redone (timeline l h s fs)) (sym old)

    pub command_whole : (h m : Kept) (e : Entry) → m ≡ record h { past = take h.capacity (e ∷ h.past); future = [] } → IsWhole l h s fs → LedOn l s fs e t hs
        → IsWhole l m t hs
    command_whole h m e new whole led =
        subst (λ m. IsWhole l m t hs) (sym new) (here_fewer h.capacity (e ∷ h.past) (point l t hs) hs (here_on h.past e s t fs hs whole.0 led), tt)

    pub command_times : (h m : Kept) (e : Entry) → m ≡ record h { past = take h.capacity (e ∷ h.past); future = [] } → LedOn l s fs e t hs
        → timeline l m t hs ≡ advanced h.capacity (timeline l h s fs) e.changes (point l t hs)
    command_times h m e new led =
        ap (λ m. timeline l m t hs) new
        ∙ ap (λ ms. times ms (point l t hs) []) (past_fewer h.capacity (e ∷ h.past) (point l t hs) ∙ ap (take h.capacity) (past_on h.past e s t fs hs led))
