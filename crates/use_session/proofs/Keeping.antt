-- What is kept after a command that is carried out, taken back or carried out again, by what histories mean.
use Rattle.std.proofs.Common.{◌≡◌, ℕ, zero, suc, List, [], ◌∷◌, ◌++◌, length, map, take, refl, sym, ap, ◌∙◌, subst, arith}
use Rattle.std.specs.List.{All, AllByRecursion}
use Rattle.std.proofs.lemmas.List.Elements.{All-from_recursion, All-nil, recursion_from_All}
use Rattle.class_model.specs.InRange.{IsTypeOf}
use Rattle.invariant_cache.specs.Counts.{Counts, StandsFor}
use Rattle.object_state.specs.declared.change.Change.{Change}
use Rattle.object_state.specs.declared.layout.Layout.{Layout}
use Rattle.object_state.specs.declared.objects.Variable.{Variable}
use Rattle.object_state.specs.Layouts.{layout_of}
use Rattle.object_state.specs.State.{State, empty}
use Rattle.entry_states.specs.declared.frame.Call.{Call}
use Rattle.entry_states.specs.declared.frame.Frame.{Frame}
use Rattle.entry_states.specs.Overlays.{Picture}
use Rattle.contract_frames.specs.Entering.{IsCall}
use Rattle.undo_log.specs.declared.entry.Entry.{Entry}
use Rattle.undo_log.specs.Kept.{Kept as History}
use Rattle.undo_log.specs.Points.{GoesBack, GoesOn, LeadHere, LeadOn, Point, on, point}
use Rattle.undo_log.specs.Steps.{LedBack, LedOn}
use Rattle.undo_log.specs.Timelines.{IsWhole, Moment, Timeline, advanced, redone, timeline, undone}
use Rattle.undo_log.proofs.Whole.{command_times, command_whole, redo_times, redo_whole, undo_times, undo_whole}
use Rattle.use_session.specs.declared.machine.Machine.{Machine as Kept}
use Rattle.use_session.specs.Kept.{IsKept, IsProper, machine_of, points}
use Rattle.use_session.specs.Machine.{Machine, kept, max_history, start}
use Rattle.use_session.specs.Resetting.{cleared}

-- what holds of the points of a timeline
module _ (P : Point → Type 0) where
  abbrev pub Holds : List Moment → Type 0
  Holds xs = AllByRecursion P (map (λ x. x.at) xs)

  first_part : (xs ys : List Moment) → Holds (xs ++ ys) → Holds xs
  first_part [] ys h = tt
  first_part (x ∷ xs) ys h = (h.0, first_part xs ys h.1)

  second_part : (xs ys : List Moment) → Holds (xs ++ ys) → Holds ys
  second_part [] ys h = h
  second_part (x ∷ xs) ys h = second_part xs ys h.1

  both_parts : (xs ys : List Moment) → Holds xs → Holds ys → Holds (xs ++ ys)
  both_parts [] ys h k = k
  both_parts (x ∷ xs) ys h k = (h.0, both_parts xs ys h.1 k)

  taken : (n : ℕ) (xs : List Moment) → Holds xs → Holds (take n xs)
  taken zero xs h = tt
  taken (suc n) [] h = tt
  taken (suc n) (x ∷ xs) h = (h.0, taken n xs h.1)

  pub record Parts (xs : List Moment) (now : Point) (ys : List Moment) : Type 0 where
    pub past : Holds xs
    pub present : P now
    pub future : Holds ys

  pub apart : (past : List Moment) (now : Point) (future : List Moment) → All P (now ∷ map (λ x. x.at) (past ++ future)) → Parts past now future
  apart past now future h =
      let all = recursion_from_All P (now ∷ map (λ x. x.at) (past ++ future)) h in record {
        past = first_part past future all.1;
        present = all.0;
        future = second_part past future all.1;
      }

  pub together : (past : List Moment) (now : Point) (future : List Moment) → Parts past now future → All P (now ∷ map (λ x. x.at) (past ++ future))
  together past now future t = All-from_recursion P (now ∷ map (λ x. x.at) (past ++ future)) (t.present, both_parts past future t.past t.future)

  pub advanced_holds : (n : ℕ) (t : Timeline) (cs : List Change) (q : Point) → All P (points t) → P q → All P (points (advanced n t cs q))
  advanced_holds n t cs q h k =
      let parts = apart t.past t.present t.future h in
      let before : List Moment = record { at = t.present; changes = cs } ∷ t.past in
      together (take n before) q [] (record { past = taken n before (parts.present, parts.past); present = k; future = tt })

  undone_parts : (past : List Moment) (now : Point) (future : List Moment) → Parts past now future
      → All P (points (undone (record { past = past; present = now; future = future })))
  undone_parts [] now future t = together [] now future t
  undone_parts (m ∷ ms) now future t =
      together ms m.at (record { at = now; changes = m.changes } ∷ future) (record { past = t.past.1; present = t.past.0; future = (t.present, t.future) })

  redone_parts : (past : List Moment) (now : Point) (future : List Moment) → Parts past now future
      → All P (points (redone (record { past = past; present = now; future = future })))
  redone_parts past now [] t = together past now [] t
  redone_parts past now (m ∷ ms) t =
      together (record { at = now; changes = m.changes } ∷ past) m.at ms (record { past = (t.present, t.past); present = t.future.0; future = t.future.1 })

  pub undone_holds : (t : Timeline) → All P (points t) → All P (points (undone t))
  undone_holds t h = undone_parts t.past t.present t.future (apart t.past t.present t.future h)

  pub redone_holds : (t : Timeline) → All P (points t) → All P (points (redone t))
  redone_holds t h = redone_parts t.past t.present t.future (apart t.past t.present t.future h)

-- the present point of what is kept is proper
pub present_proper : (k : Kept) → IsKept k → IsProper k.program (point k.store.layout k.store.state k.frames)
present_proper k h = h.proper 0 (point k.store.layout k.store.state k.frames) (omega arith)

-- another state, with its frames and what is kept of its multiplicities, and another history
abbrev pub moved : Kept → State → List Frame → Counts → History → Kept
moved k s gs counts history = record k { store = record k.store { state = s }; frames = gs; structure = counts; history = history }

module _ (k : Kept) (h : IsKept k) where
  abbrev L : Layout
  L = k.store.layout

  -- after a command that led to a state and frames
  module _ (e : Entry) (s : State) (gs : List Frame) (led : LedOn L k.store.state k.frames e s gs) (counts : Counts) (stands : StandsFor k.program.model counts s) where
    abbrev pub longer : History
    longer = record k.history { past = take k.history.capacity (e ∷ k.history.past); future = [] }

    times : timeline L longer s gs ≡ advanced max_history (machine_of k).timeline e.changes (point L s gs)
    times =
        command_times L k.store.state s k.frames gs k.history longer e refl led
        ∙ (λ i. advanced (h.capacity i) (machine_of k).timeline e.changes (point L s gs))

    pub on_machine : machine_of (moved k s gs counts longer) ≡ kept (machine_of k) e.changes (point L s gs)
    on_machine = ap (λ (t : Timeline). record (machine_of k) { timeline = t }) times

    pub on_kept : IsProper k.program (point L s gs) → IsKept (moved k s gs counts longer)
    on_kept q = record {
      layout = h.layout;
      capacity = h.capacity;
      whole = command_whole L k.store.state s k.frames gs k.history longer e refl h.whole led;
      proper = subst (λ (t : Timeline). All (IsProper k.program) (points t)) (sym times)
          (advanced_holds (IsProper k.program) max_history (machine_of k).timeline e.changes (point L s gs) h.proper q);
      structure = stands;
      cache = h.cache;
    }

  -- after the newest entry was taken back
  module _ (left put : History) (e again : Entry) (was : k.history ≡ record left { past = e ∷ left.past }) (is : put ≡ record left { future = again ∷ left.future }) where
    pub undo_goes : GoesBack L e (point L k.store.state k.frames) k.frames
    undo_goes = (subst (λ (x : History). LeadHere L x.past (point L k.store.state k.frames) k.frames) was h.whole.0).0

    module _ (s : State) (gs : List Frame) (led : LedBack L k.store.state k.frames e again s gs) (counts : Counts) (stands : StandsFor k.program.model counts s) where
      back_times : timeline L put s gs ≡ undone (machine_of k).timeline
      back_times = undo_times L k.store.state s k.frames gs k.history left put e again was is led

      pub back_machine : machine_of (moved k s gs counts put) ≡ record (machine_of k) { timeline = undone (machine_of k).timeline }
      back_machine = ap (λ (t : Timeline). record (machine_of k) { timeline = t }) back_times

      pub back_kept : IsKept (moved k s gs counts put)
      back_kept = record {
        layout = h.layout;
        capacity = ap (λ (x : History). x.capacity) is ∙ sym (ap (λ (x : History). x.capacity) was) ∙ h.capacity;
        whole = undo_whole L k.store.state s k.frames gs k.history left put e again was is h.whole led;
        proper = subst (λ (t : Timeline). All (IsProper k.program) (points t)) (sym back_times)
            (undone_holds (IsProper k.program) (machine_of k).timeline h.proper);
        structure = stands;
        cache = h.cache;
      }

  -- after the next entry was carried out again
  module _ (left put : History) (e again : Entry) (was : k.history ≡ record left { future = e ∷ left.future }) (is : put ≡ record left { past = again ∷ left.past }) where
    pub redo_goes : GoesOn L e (point L k.store.state k.frames)
    redo_goes = (subst (λ (x : History). LeadOn L x.future (point L k.store.state k.frames)) was h.whole.1).0

    module _ (s : State) (gs : List Frame) (same : again.changes ≡ e.changes) (there : point L s gs ≡ on L e (point L k.store.state k.frames))
        (led : LedOn L k.store.state k.frames again s gs) (counts : Counts) (stands : StandsFor k.program.model counts s) where
      on_times : timeline L put s gs ≡ redone (machine_of k).timeline
      on_times = redo_times L k.store.state s k.frames gs k.history left put e again was is same there led

      pub again_machine : machine_of (moved k s gs counts put) ≡ record (machine_of k) { timeline = redone (machine_of k).timeline }
      again_machine = ap (λ (t : Timeline). record (machine_of k) { timeline = t }) on_times

      pub again_kept : IsKept (moved k s gs counts put)
      again_kept = record {
        layout = h.layout;
        capacity = ap (λ (x : History). x.capacity) is ∙ sym (ap (λ (x : History). x.capacity) was) ∙ h.capacity;
        whole = redo_whole L k.store.state s k.frames gs k.history left put e again was is h.whole there led;
        proper = subst (λ (t : Timeline). All (IsProper k.program) (points t)) (sym on_times)
            (redone_holds (IsProper k.program) (machine_of k).timeline h.proper);
        structure = stands;
        cache = h.cache;
      }

  -- after all was taken away
  abbrev pub emptied : Counts → Kept
  emptied counts = moved k (cleared k.store.state) [] counts (record k.history { past = []; future = [] })

  pub emptied_kept : (counts : Counts) → StandsFor k.program.model counts (cleared k.store.state) → IsKept (emptied counts)
  emptied_kept counts stands = record {
    layout = h.layout;
    capacity = h.capacity;
    whole = (tt, tt);
    proper = together (IsProper k.program) [] (point L (cleared k.store.state) []) [] (record {
      past = tt;
      present = record { types = All-nil (λ e. IsTypeOf k.program.model e.1.of_type); calls = All-nil (λ (c : Call × Picture). IsCall k.program c.0); few = omega arith };
      future = tt;
    });
    structure = stands;
    cache = h.cache;
  }

-- before the first command
module _ (k : Kept) (state : k.store.state ≡ empty) (history : k.history ≡ record { past = []; future = []; capacity = max_history }) (none_open : k.frames ≡ []) where
  pub begun_machine : machine_of k ≡ start k.program
  begun_machine = λ i. record { program = k.program; timeline = timeline k.store.layout (history i) (state i) (none_open i) }

  pub begun_kept : k.store.layout ≡ layout_of k.program.model → StandsFor k.program.model k.structure empty → length k.program.invariants ≡ k.cache → IsKept k
  begun_kept layout stands cache =
      let none = together (IsProper k.program) [] (record { state = empty; calls = [] }) [] (record {
        past = tt;
        present = record { types = All-nil (λ (e : List ℕ × Variable). IsTypeOf k.program.model e.1.of_type); calls = All-nil (λ (c : Call × Picture). IsCall k.program c.0); few = omega arith };
        future = tt;
      }) in
      record {
        layout = layout;
        capacity = ap (λ (x : History). x.capacity) history;
        whole = subst (λ (z : History × State × List Frame). IsWhole k.store.layout z.0 z.1 z.2) (λ i. (sym history i, sym state i, sym none_open i)) (tt, tt);
        proper = subst (λ (m : Machine). All (IsProper k.program) (points m.timeline)) (sym begun_machine) none;
        structure = subst (λ (s : State). StandsFor k.program.model k.structure s) (sym state) stands;
        cache = cache;
      }
