-- Undo, redo and reset: what is answered, from what the store, the frames, the structure and the history became.
use Rattle.std.proofs.Common.{◌≡◌, ℕ, List, [], ◌∷◌, Ok, refl, sym, ap, ◌∙◌, subst}
use Rattle.std.proofs.lemmas.List.{append-nil}
use Rattle.use_text.specs.declared.place.Place.{Place}
use Rattle.class_model.specs.declared.object_model.ObjectModel.{ObjectModel}
use Rattle.invariant_cache.specs.Counts.{Counts, StandsFor}
use Rattle.object_state.specs.declared.change.Change.{Change}
use Rattle.object_state.specs.State.{Diagram, State}
use Rattle.object_state.specs.Valid.{IsValid}
use Rattle.entry_states.specs.declared.frame.Frame.{Frame}
use Rattle.entry_states.specs.Leading.{led_on, taken_back}
use Rattle.entry_states.specs.Noting.{AreNoted}
use Rattle.soil_changes.proofs.Back.{leads}
use Rattle.undo_log.specs.declared.entry.Entry.{Entry}
use Rattle.undo_log.specs.declared.frame_move.FrameMove.{FrameMove}
use Rattle.undo_log.specs.Kept.{Kept as History}
use Rattle.undo_log.specs.Moves.{frames_after, frames_before, moved_after, moved_before}
use Rattle.undo_log.specs.Points.{point}
use Rattle.undo_log.specs.Steps.{entry_back, entry_on}
use Rattle.undo_log.specs.Timelines.{Moment, future_of, past_of}
use Rattle.undo_log.proofs.Stepped.{carries_out, takes_back}
use Rattle.use_session.specs.declared.machine.Machine.{Machine as Kept}
use Rattle.use_session.specs.declared.session.Turn.TheVariants.{Quiet}
use Rattle.use_session.specs.Answering.{Answers}
use Rattle.use_session.specs.Kept.{IsKept, machine_of}
use Rattle.use_session.specs.Machine.{Step, redone as redo_step, reset, silent, undone as undo_step}
use Rattle.use_session.specs.Resetting.{cleared, reset_changes}
use Rattle.use_session.proofs.Emptied.{all_go}
use Rattle.use_session.proofs.Keeping.{again_kept, again_machine, back_kept, back_machine, emptied, emptied_kept, moved, redo_goes, undo_goes}
use Rattle.use_session.proofs.Noted.{ToldBack, ToldOn, noted, noted_back, noted_on}

-- what is kept, by what its parts are equal to
moved_to : (k : Kept) (s : Step) (bytes : List ℕ) (state : State) (gs fs : List Frame) (counts : Counts) (d : Diagram) (history : History)
    → d ≡ record k.store { state = state } → fs ≡ gs
    → Answers s bytes 0 (Ok Quiet) (moved k state gs counts history) bytes 0
    → Answers s bytes 0 (Ok Quiet) (record k { store = d; frames = fs; structure = counts; history = history }) bytes 0
moved_to k s bytes state gs fs counts d history to same a =
    subst (λ (z : Diagram × List Frame). Answers s bytes 0 (Ok Quiet) (record k { store = z.0; frames = z.1; structure = counts; history = history }) bytes 0)
    (λ i. (sym to i, sym same i)) a

module _ (k : Kept) (h : IsKept k) (v : IsValid k.store.layout k.store.state) (at : Place) (bytes : List ℕ) (e : Entry) (left put : History) (gs fs : List Frame)
    (cs ds : List Change) (mv : FrameMove) (d : Diagram) (m : ObjectModel) (counts : Counts) where
  -- the newest entry was taken back
  pub undo_told : k.history ≡ record left { past = e ∷ left.past } → cs ≡ e.changes → mv ≡ moved_before e.moved gs
      → put ≡ record left { future = record { changes = cs; moved = mv } ∷ left.future } → fs ≡ frames_before e.moved gs
      → d ≡ record k.store { state = taken_back k.store.layout e.changes k.store.state }
      → AreNoted k.store.layout k.store.state (taken_back k.store.layout e.changes k.store.state) k.frames gs
      → m ≡ k.program.model → ds ≡ cs → ToldBack m k.structure ds counts
      → Answers (undo_step (machine_of k) at (machine_of k).timeline.past) bytes 0 (Ok Quiet) (record k { store = d; frames = fs; structure = counts; history = put })
      bytes 0
  undo_told was same move is opens to saved model slice told =
      let l = k.store.layout in
      let put_is : put ≡ record left { future = entry_on e gs ∷ left.future } =
      is ∙ (λ i. record left { future = record { changes = same i; moved = move i } ∷ left.future }) in
      let goes = undo_goes k h left put e (entry_on e gs) was put_is in
      let led = takes_back l k.store.state k.frames gs e v goes saved in
      let before = taken_back l e.changes k.store.state in
      let stands = noted_back k h e.changes ds m counts model (slice ∙ same) goes.0 told in
      let now = frames_before e.moved gs in
      moved_to k (undo_step (machine_of k) at (machine_of k).timeline.past) bytes before now fs counts d put to opens
      (subst (λ (xs : List Moment). Answers (undo_step (machine_of k) at xs) bytes 0 (Ok Quiet) (moved k before now counts put) bytes 0)
      (sym (ap (λ (x : History). past_of l x.past (point l k.store.state k.frames)) was))
      (record {
        turn = refl;
        kept = back_kept k h left put e (entry_on e gs) was put_is before now led counts stands;
        machine = back_machine k h left put e (entry_on e gs) was put_is before now led counts stands;
        bytes = sym (append-nil bytes);
        units = refl;
      }))

  -- the next entry was carried out again
  pub redo_told : k.history ≡ record left { future = e ∷ left.future } → cs ≡ e.changes → mv ≡ moved_after e.moved gs
      → put ≡ record left { past = record { changes = cs; moved = mv } ∷ left.past } → fs ≡ frames_after e.moved gs
      → d ≡ record k.store { state = led_on k.store.layout k.store.state e.changes }
      → AreNoted k.store.layout k.store.state (led_on k.store.layout k.store.state e.changes) k.frames gs
      → m ≡ k.program.model → ds ≡ cs → ToldOn m k.structure ds counts
      → Answers (redo_step (machine_of k) at (machine_of k).timeline.future) bytes 0 (Ok Quiet) (record k { store = d; frames = fs; structure = counts; history = put })
      bytes 0
  redo_told was same move is opens to saved model slice told =
      let l = k.store.layout in
      let put_is : put ≡ record left { past = entry_back e gs ∷ left.past } =
      is ∙ (λ i. record left { past = record { changes = same i; moved = move i } ∷ left.past }) in
      let goes = redo_goes k h left put e (entry_back e gs) was put_is in
      let led = carries_out l k.store.state k.frames gs e v goes saved in
      let after = led_on l k.store.state e.changes in
      let stands = noted_on k h e.changes ds m counts model (slice ∙ same) goes.0 told in
      let now = frames_after e.moved gs in
      moved_to k (redo_step (machine_of k) at (machine_of k).timeline.future) bytes after now fs counts d put to opens
      (subst (λ (xs : List Moment). Answers (redo_step (machine_of k) at xs) bytes 0 (Ok Quiet) (moved k after now counts put) bytes 0)
      (sym (ap (λ (x : History). future_of l x.future (point l k.store.state k.frames)) was))
      (record {
        turn = refl;
        kept = again_kept k h left put e (entry_back e gs) was put_is after now refl led.0 led.1 counts stands;
        machine = again_machine k h left put e (entry_back e gs) was put_is after now refl led.0 led.1 counts stands;
        bytes = sym (append-nil bytes);
        units = refl;
      }))

-- all was taken away
module _ (k : Kept) (h : IsKept k) (v : IsValid k.store.layout k.store.state) (bytes : List ℕ) where
  reset_answers : (counts : Counts) (stands : StandsFor k.program.model counts (cleared k.store.state))
      → Answers (silent (reset (machine_of k))) bytes 0 (Ok Quiet) (emptied k h counts) bytes 0
  reset_answers counts stands = record {
    turn = refl;
    kept = emptied_kept k h counts stands;
    machine = refl;
    bytes = sym (append-nil bytes);
    units = refl;
  }

  pub reset_told : (cs ds : List Change) (fs : List Frame) (put : History) (d : Diagram) (m : ObjectModel) (counts : Counts) → cs ≡ reset_changes k.store.state → fs ≡ []
      → put ≡ record k.history { past = []; future = [] } → d ≡ record k.store { state = cleared k.store.state } → m ≡ k.program.model → ds ≡ cs
      → ToldOn m k.structure ds counts
      → Answers (silent (reset (machine_of k))) bytes 0 (Ok Quiet) (record k { store = d; frames = fs; structure = counts; history = put }) bytes 0
  reset_told cs ds fs put d m counts same opens is to model slice told =
      let go = all_go k.store.layout k.store.state v in
      let lead = leads k.store.layout (reset_changes k.store.state) k.store.state (cleared k.store.state) go.0 go.1 in
      let stands = noted k h (reset_changes k.store.state) m counts (cleared k.store.state) model lead
      (subst (λ (l : List Change). ToldOn m k.structure l counts) (slice ∙ same) told) in
      subst (λ (x : History). Answers (silent (reset (machine_of k))) bytes 0 (Ok Quiet) (record k { store = d; frames = fs; structure = counts; history = x }) bytes 0)
      (sym is)
      (moved_to k (silent (reset (machine_of k))) bytes (cleared k.store.state) [] fs counts d (record k.history { past = []; future = [] }) to opens
      (reset_answers counts stands))
