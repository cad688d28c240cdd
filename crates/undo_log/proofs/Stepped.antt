-- One step back, and one step on.
use Rattle.std.proofs.Common.{◌≡◌, List, [], ap, ◌∙◌, sym, refl, subst}
use Rattle.object_state.specs.declared.layout.Layout.{Layout}
use Rattle.object_state.specs.Looks.{look}
use Rattle.object_state.specs.State.{State}
use Rattle.object_state.specs.Valid.{IsValid}
use Rattle.entry_states.specs.declared.frame.Call.{Call}
use Rattle.entry_states.specs.declared.frame.Frame.{Frame}
use Rattle.entry_states.specs.Frames.{entered}
use Rattle.entry_states.specs.Overlays.{Picture}
use Rattle.undo_log.specs.declared.entry.Entry.{Entry}
use Rattle.entry_states.specs.Leading.{led_on, taken_back}
use Rattle.entry_states.specs.Noting.{AreNoted}
use Rattle.undo_log.specs.Moves.{frames_after, moved_after, moved_before}
use Rattle.undo_log.specs.Points.{CanMoveBack, CanMoveOn, GoesBack, GoesOn, Point, back, calls_after, calls_before, on, point}
use Rattle.undo_log.specs.Steps.{CarriesOut, TakesBack, entry_back, entry_on}
use Rattle.entry_states.proofs.Led.{back_and_on, on_and_back}
use Rattle.undo_log.proofs.Moved.{back_after, back_calls, back_goes, before_grown, on_before, on_calls, on_goes, on_grown}

abbrev spot : State → List (Call × Picture) → Point
spot s calls = record { state = s; calls = calls }

module _ (l : Layout) (s : State) (fs gs : List Frame) (e : Entry) (v : IsValid l s) where
  -- where nothing was changed, the picture is the same
  alone_back : e.changes ≡ [] → look l (taken_back l e.changes s) ≡ look l s
  alone_back h = ap (λ cs. look l (taken_back l cs s)) h

  alone_on : e.changes ≡ [] → look l (led_on l s e.changes) ≡ look l s
  alone_on h = ap (λ cs. look l (led_on l s cs)) h

  pub takes_back : GoesBack l e (point l s fs) fs → AreNoted l s (taken_back l e.changes s) fs gs → TakesBack l s fs gs e
  takes_back goes noted =
      let t = taken_back l e.changes s in
      let q = look l t in
      let calls = entered fs (look l s) in
      let is = back_calls e.moved e.changes q (look l s) calls fs gs goes.1 alone_back (sym noted.same) noted.grown in
      let r = back_and_on l e.changes s v goes.0 in
      record {
        changes = refl;
        there = ap (spot t) (sym is);
        after = ap (λ xs. on l (entry_on e gs) (spot t xs)) (sym is)
            ∙ ap (λ (u : State). spot u (calls_after (moved_before e.moved gs) (look l u) (calls_before e.moved q calls))) r.1
            ∙ ap (spot s) (back_after e.moved e.changes q (look l s) calls fs gs goes.1 alone_back (sym noted.same));
        goes_on = (r.0, subst (CanMoveOn (moved_before e.moved gs) e.changes q) is (back_goes e.moved e.changes q (look l s) calls fs gs goes.1 alone_back (sym noted.same)));
        grown = before_grown e.moved fs gs noted.grown;
      }

  pub carries_out : GoesOn l e (point l s fs) → AreNoted l s (led_on l s e.changes) fs gs → CarriesOut l s fs gs e
  carries_out goes noted =
      let t = led_on l s e.changes in
      let q = look l t in
      let calls = entered fs (look l s) in
      let is = on_calls e.moved e.changes q (look l s) calls gs goes.1 alone_on (sym noted.same) in
      let r = on_and_back l e.changes s v goes.0 in (
        ap (spot t) (sym is),
        record {
          before = ap (λ xs. back l (entry_back e gs) (spot t xs)) (sym is)
              ∙ ap (λ (u : State). spot u (calls_before (moved_after e.moved gs) (look l u) (calls_after e.moved q calls))) r.1
              ∙ ap (spot s) (on_before e.moved e.changes q (look l s) calls gs goes.1 alone_on (sym noted.same));
          goes_back = (
            r.0,
            subst (λ xs. CanMoveBack (moved_after e.moved gs) e.changes q xs (frames_after e.moved gs)) is
                (on_goes e.moved e.changes q (look l s) calls gs goes.1 alone_on (sym noted.same)),
          );
          grown = on_grown e.moved e.changes q (look l s) calls fs gs goes.1 (sym noted.same) noted.grown;
        },
      )
