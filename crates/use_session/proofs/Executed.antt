-- Statements: what they were carried out to, or refused with, is what the step gives.
use Rattle.std.proofs.Common.{◌≡◌, ℕ, ◌≤◌, All, List, [], ◌∷◌, length, Result, Ok, Err, refl, sym, ap, ◌∙◌, subst, take, true≢false}
use Rattle.std.specs.declared.alloc.AllocError.{AllocError}
use Rattle.std.proofs.lemmas.List.{append-nil}
use Rattle.use_text.specs.declared.code.Code.{Code}
use Rattle.ocl_values.specs.declared.value.Value.{Value}
use Rattle.ocl_core.specs.declared.statement.Stmt.{Stmt}
use Rattle.invariant_cache.specs.Counts.{Counts, StandsFor}
use Rattle.object_state.specs.declared.change.Change.{Change}
use Rattle.object_state.specs.Looks.{look}
use Rattle.object_state.specs.State.{Diagram, State}
use Rattle.object_state.specs.Valid.{IsValid}
use Rattle.entry_states.specs.declared.frame.Call.{Call}
use Rattle.entry_states.specs.declared.frame.Frame.{Frame}
use Rattle.entry_states.specs.Frames.{entered}
use Rattle.entry_states.specs.Noting.{AreNoted}
use Rattle.entry_states.specs.Overlays.{Picture}
use Rattle.contract_frames.specs.Entering.{IsCall}
use Rattle.soil_changes.specs.Acts.{Outcome}
use Rattle.soil_changes.specs.Progress.{Lead}
use Rattle.soil_changes.proofs.Back.{carried}
use Rattle.soil_exec.specs.declared.fault.ExecFault.{ExecFault}
use Rattle.soil_exec.specs.declared.fault.ExecFault.TheVariants as fault
use Rattle.soil_exec.specs.Exec.{Executes, Refuses, Tells, exec}
use Rattle.soil_exec.specs.Machine.{Machine as Execution}
use Rattle.soil_exec.specs.Typed.{IsTyped}
use Rattle.soil_exec.proofs.Unseen.{bare, exec_unseen}
use Rattle.undo_log.specs.declared.entry.Entry.{Entry}
use Rattle.undo_log.specs.declared.frame_move.FrameMove.TheVariants.{Stay}
use Rattle.undo_log.specs.Kept.{Kept as History}
use Rattle.undo_log.specs.Points.{Point, point}
use Rattle.undo_log.specs.Steps.{LedOn}
use Rattle.undo_log.specs.Timelines.{future_of, past_of}
use Rattle.undo_log.proofs.Stepped.{carries_out}
use Rattle.undo_log.proofs.Whole.{grown_whole}
use Rattle.contract_texts.specs.ContractLines.{broken_line}
use Rattle.use_session.specs.declared.machine.Machine.{Machine as Kept}
use Rattle.use_session.specs.declared.session.Turn.{Turn}
use Rattle.use_session.specs.declared.session.Turn.TheVariants.{Quiet, Refused}
use Rattle.use_session.specs.Answering.{Answers, IsRefused, TellsFault}
use Rattle.use_session.specs.Answers.{refusal_line}
use Rattle.use_session.specs.Kept.{IsKept, IsProper, machine_of, points}
use Rattle.use_session.specs.Lines.{fault_in, refusal_in}
use Rattle.use_session.specs.Machine.{Machine, accepted, bound, execute, executed as told, faulted_after, kept, max_open, open_calls}
use Rattle.use_session.proofs.Keeping.{longer, moved, on_kept, on_machine, present_proper}
use Rattle.use_session.proofs.Told.{line_answers}

abbrev pub entry : List Change → Entry
entry cs = record { changes = cs; moved = Stay }

-- how a step goes on that was carried out, and one that was refused
accepts : (m : Machine) (line : ℕ) (o : Outcome Execution ExecFault (Unit {0})) → o.0 ≡ Ok tt
    → told m line o ≡ accepted (kept m o.1.progress.changes (record { state = o.1.progress.state; calls = open_calls m })) [] o.1.steps
accepts m line (Ok u, x) e = refl
accepts m line (Err f, x) e = absurd (differ e)
  where
    differ : ◌≡◌ {A = Result (Unit {0}) ExecFault} (Err f) (Ok tt) → ⊥
    differ e = cc

refuses : (m : Machine) (line : ℕ) (o : Outcome Execution ExecFault (Unit {0})) (f : ExecFault) → o.0 ≡ Err f
    → told m line o ≡ faulted_after o.1.steps m (fault_in line f)
refuses m line (Ok u, x) f e = absurd (differ e)
  where
    differ : ◌≡◌ {A = Result (Unit {0}) ExecFault} (Ok u) (Err f) → ⊥
    differ e = cc
refuses m line (Err g, x) f e = let same : g ≡ f = cc in ap (λ (h : ExecFault). faulted_after x.steps m (fault_in line h)) same

-- a step sees nothing of frames
unseen : (m : Machine) (line : ℕ) (o : Outcome Execution ExecFault (Unit {0})) → told m line o ≡ told m line (o.0, bare o.1)
unseen m line (Ok tt, x) = refl
unseen m line (Err f, x) = refl

module _ (k : Kept) (h : IsKept k) (v : IsValid k.store.layout k.store.state) (begins : ℕ) (body : List Stmt) (shell : List (List ℕ)) (values : List Value)
    (is_bound : values ≡ bound (machine_of k)) (bytes : List ℕ) (steps : ℕ) where
  -- what the statements come to over the store and the frames that are kept
  abbrev outcome : Outcome Execution ExecFault (Unit {0})
  outcome = exec k.program body shell values k.store k.frames

  same_step : told (machine_of k) begins outcome ≡ execute (machine_of k) begins body shell
  same_step =
      let m = machine_of k in
      let plain = exec k.program body shell values k.store [] in
      let same = exec_unseen k.program body shell values k.store k.frames [] in
      unseen m begins outcome ∙ (λ i. told m begins (same.0 i, same.1 i)) ∙ sym (unseen m begins plain)
      ∙ (λ i. told m begins (exec k.program body shell (is_bound i) (record k.store { layout = h.layout i }) []))

  module _ (cs : List Change) (d : Diagram) (fs : List Frame) (steps' : ℕ) (done : Executes k.store k.frames outcome steps cs d fs steps')
      (layout : d.layout ≡ k.store.layout) (lead : Lead k.store.layout k.store.state cs d.state)
      (typed : IsTyped k.program.model k.store.state → IsTyped k.program.model d.state)
      (counts : Counts) (stands : StandsFor k.program.model counts d.state) where
    abbrev now : Point
    now = point k.store.layout d.state fs

    led : LedOn k.store.layout k.store.state k.frames (entry cs) d.state fs
    led =
        let l = k.store.layout in
        let on = carried l cs k.store.state d.state lead in
        let noted = subst (λ (t : State). AreNoted l k.store.state t k.frames fs) (sym on.1) done.noted in
        subst (λ (t : State). LedOn l k.store.state k.frames (entry cs) t fs) on.1
        (carries_out l k.store.state k.frames fs (entry cs) v (on.0, tt) noted).1

    abbrev behind : Kept
    behind = moved k d.state fs counts (longer k h (entry cs) d.state fs led counts stands)

    proper : IsProper k.program now
    proper =
        let before = present_proper k h in record {
          types = typed before.types;
          calls = subst (λ (calls : List (Call × Picture)). All (λ c. IsCall k.program c.0) calls) (sym done.noted.same) before.calls;
          few = subst (λ (calls : List (Call × Picture)). length calls ≤ max_open) (sym done.noted.same) before.few;
        }

    step : accepted (kept (machine_of k) cs now) [] outcome.1.steps ≡ execute (machine_of k) begins body shell
    step =
        (λ i. accepted (kept (machine_of k) (done.changes i) (record { state = ap (λ (e : Diagram). e.state) done.state i; calls = done.noted.same i })) [] outcome.1.steps)
        ∙ sym (accepts (machine_of k) begins outcome done.done) ∙ same_step

    answered : Answers (accepted (kept (machine_of k) cs now) [] outcome.1.steps) bytes steps (Ok Quiet) behind bytes steps'
    answered = record {
      turn = refl;
      kept = on_kept k h (entry cs) d.state fs led counts stands proper;
      machine = on_machine k h (entry cs) d.state fs led counts stands;
      bytes = sym (append-nil bytes);
      units = done.steps;
    }

    -- the changes are kept
    pub executed_answers : (history : History) → history ≡ record k.history { past = take k.history.capacity (entry cs ∷ k.history.past); future = [] }
        → Answers (execute (machine_of k) begins body shell) bytes steps (Ok Quiet) (record k { store = d; frames = fs; structure = counts; history = history }) bytes steps'
    executed_answers history same =
        subst (λ s. Answers s bytes steps (Ok Quiet) (record k { store = d; frames = fs; structure = counts; history = history }) bytes steps') step
        (subst (λ (z : Diagram × History). Answers (accepted (kept (machine_of k) cs now) [] outcome.1.steps) bytes steps (Ok Quiet)
        (record k { store = z.0; frames = fs; structure = counts; history = z.1 }) bytes steps') (λ i. (record d { layout = sym layout i }, sym same i)) answered)

  -- nothing is changed: what is kept stands for what it stood for, and its frames may have grown
  module _ (d : Diagram) (fs : List Frame) (same : d ≡ k.store) (noted : AreNoted k.store.layout k.store.state d.state k.frames fs) where
    abbrev stayed : Kept
    stayed = record k { frames = fs }

    same_point : point k.store.layout k.store.state fs ≡ point k.store.layout k.store.state k.frames
    same_point =
        ap (λ (calls : List (Call × Picture)). record { state = k.store.state; calls = calls })
        (ap (λ (e : Diagram). entered fs (look k.store.layout e.state)) (sym same) ∙ noted.same)

    stayed_machine : machine_of stayed ≡ machine_of k
    stayed_machine = ap (λ (p : Point). record {
      program = k.program;
      timeline = record { past = past_of k.store.layout k.history.past p; present = p; future = future_of k.store.layout k.history.future p };
    }) same_point

    stayed_kept : IsKept stayed
    stayed_kept = record {
      layout = h.layout;
      capacity = h.capacity;
      whole = grown_whole k.store.layout k.history k.store.state k.frames fs same_point noted.grown h.whole;
      proper = subst (λ (m : Machine). All (IsProper k.program) (points m.timeline)) (sym stayed_machine) h.proper;
      structure = h.structure;
      cache = h.cache;
    }

  statements_refused : (f : ExecFault) (line : List ℕ) (code : Code) (d : Diagram) (fs : List Frame) (steps' : ℕ)
      → faulted_after outcome.1.steps (machine_of k) (fault_in begins f) ≡ record { machine = machine_of k; bytes = line; turn = Refused code; units = outcome.1.steps }
      → Refuses k.store k.frames outcome steps f d fs steps' → (result : Result Turn AllocError) (bytes' : List ℕ) → IsRefused code line bytes result bytes'
      → Answers (execute (machine_of k) begins body shell) bytes steps result (record k { store = d; frames = fs }) bytes' steps'
  statements_refused f line code d fs steps' same is result bytes' told =
      subst (λ s. Answers s bytes steps result (record k { store = d; frames = fs }) bytes' steps')
      (sym same ∙ sym (refuses (machine_of k) begins outcome f is.refused) ∙ same_step)
      (subst (λ (z : Diagram). Answers (record { machine = machine_of k; bytes = line; turn = Refused code; units = outcome.1.steps }) bytes steps result
      (record k { store = z; frames = fs }) bytes' steps') (sym is.state)
      (line_answers (machine_of k) line code outcome.1.steps bytes steps result (stayed d fs is.state is.noted) bytes' steps' told.0 told.1
      (stayed_kept d fs is.state is.noted) (stayed_machine d fs is.state is.noted) is.steps))

  -- whatever the fault
  pub fault_answers : (x : ExecFault) (d : Diagram) (fs : List Frame) (steps' : ℕ) → Tells k.store k.frames outcome steps (Err x) d fs steps'
      → (result : Result Turn AllocError) (bytes' : List ℕ) → TellsFault k.program (fault_in begins x) bytes result bytes'
      → Answers (execute (machine_of k) begins body shell) bytes steps result (record k { store = d; frames = fs }) bytes' steps'
  fault_answers fault.Memory d fs steps' h (Ok turn) bytes' t = absurd (true≢false (sym t))
  fault_answers fault.Memory d fs steps' h (Err e) bytes' t = tt
  fault_answers (fault.Refused r) d fs steps' h result bytes' t = statements_refused (fault.Refused r) (refusal_line (refusal_in begins r)) r.code d fs steps' refl h result bytes' t
  fault_answers (fault.Broken r n v) d fs steps' h result bytes' t =
      statements_refused (fault.Broken r n v) (broken_line k.program (refusal_in begins r) n v) r.code d fs steps' refl h result bytes' t
