-- No step changes the program.
use Rattle.std.proofs.Common.{◌≡◌, ℕ, ◌+◌, Bool, true, false, List, [], ◌∷◌, Option, Some, None, refl, sym, ap, ◌∙◌, subst}
use Rattle.std.specs.Prelude.{◌&&◌, if◌then◌else◌, nat_eq, length, OnOk, Result, Ok, Err}
use Rattle.std.specs.declared.alloc.AllocError.{AllocError}
use Rattle.use_text.specs.declared.code.Code.{Code}
use Rattle.use_text.specs.declared.code.Family.TheVariants.{C}
use Rattle.use_text.specs.Codes.{code_of}
use Rattle.use_text.specs.Refusals.{refusal_at}
use Rattle.use_text.specs.declared.cut.Cut.{Cut}
use Rattle.use_text.specs.declared.place.Place.{Place}
use Rattle.use_syntax.specs.Reading.{Reading, parsed, refused as unread}
use Rattle.ocl_values.specs.declared.value.Value.{Value}
use Rattle.class_model.specs.declared.types.OclType.{OclType}
use Rattle.ocl_core.specs.declared.program.ProgramParts.{ProgramParts}
use Rattle.command_cache.specs.declared.commands.Prepared.{Prepared}
use Rattle.command_cache.specs.Prepared.{AreKept}
use Rattle.ocl_eval.specs.Evaluation.{eval}
use Rattle.ocl_eval.specs.Evaluations as evaluations
use Rattle.ocl_rules.specs.Typings.{Typing}
use Rattle.entry_states.specs.declared.frame.Call.{Call}
use Rattle.entry_states.specs.Overlays.{Picture}
use Rattle.contract_frames.specs.declared.fault.FrameFault.{FrameFault}
use Rattle.contract_frames.specs.declared.fault.FrameFault.TheVariants as contract
use Rattle.contract_frames.specs.Holding.{all_true}
use Rattle.contract_frames.specs.Judging.{pre_units, pres}
use Rattle.soil_check.specs.declared.checked.Checked.{Checked}
use Rattle.soil_check.specs.declared.checked.Checked.TheVariants as c
use Rattle.soil_changes.specs.Acts.{Outcome}
use Rattle.soil_exec.specs.declared.fault.ExecFault.{ExecFault}
use Rattle.soil_exec.specs.declared.fault.ExecFault.TheVariants as fault
use Rattle.soil_exec.specs.Calls.{entering, giving}
use Rattle.soil_exec.specs.Exec.{exec}
use Rattle.soil_exec.specs.Machine.{Machine as Execution}
use Rattle.undo_log.specs.Timelines.{Moment}
use Rattle.use_session.specs.declared.machine.Machine.{Machine as Kept}
use Rattle.use_session.specs.declared.session.Turn.{Turn}
use Rattle.use_session.specs.declared.starts.Start.{Start}
use Rattle.use_session.specs.Answering.{Answers}
use Rattle.use_session.specs.Kept.{machine_of}
use Rattle.use_session.specs.Commands.{is_exit, reading_of, start_of, unbuilt, word_place}
use Rattle.use_session.specs.FileWords.{file_name, first_place, is_open, judged}
use Rattle.use_session.specs.Lines.{fault_in}
use Rattle.use_session.specs.Machine.{Machine, Step, answered, answered_reading, bound, carried_out, checked, diagram, entered, entered_unless, environment, executed, faulted_after, first, left, left_by, max_open, open_calls, opened, redone, refused, scene, step, undone, valued}
use Rattle.use_session.specs.Unbuilt.{is_unbuilt}

module _ (m : Machine) where
  abbrev Stays : Step → Type 0
  Stays s = s.machine.program ≡ m.program

  either : (b : Bool) (s t : Step) → Stays s → Stays t → Stays (if b then s else t)
  either true s t h g = h
  either false s t h g = g

  faulted_stays : (units : ℕ) (f : ExecFault) → Stays (faulted_after units m f)
  faulted_stays units (fault.Refused r) = refl
  faulted_stays units (fault.Broken r n v) = refl
  faulted_stays units fault.Memory = refl

  valued_stays : (at : Place) (t : OclType) (o : evaluations.Outcome Value) → Stays (valued m at t o)
  valued_stays at t (Some v, meter) = refl
  valued_stays at t (None, meter) = refl

  executed_stays : (line : ℕ) (o : Outcome Execution ExecFault (Unit {0})) → Stays (executed m line o)
  executed_stays line (Ok u, x) = refl
  executed_stays line (Err f, x) = faulted_stays x.steps (fault_in line f)

  entered_unless_stays : (at : Place) (units : ℕ) (k : Call) (r : Result (List ℕ) FrameFault) → Stays (entered_unless m at units k r)
  entered_unless_stays at units k (Ok ns) = refl
  entered_unless_stays at units k (Err (contract.Broken n v)) = refl
  entered_unless_stays at units k (Err (contract.Over n)) = refl
  entered_unless_stays at units k (Err contract.TooMany) = refl
  entered_unless_stays at units k (Err contract.Nothing) = refl
  entered_unless_stays at units k (Err contract.Memory) = refl

  entered_stays : (at : Place) (o : Outcome Execution ExecFault Call) → Stays (entered m at o)
  entered_stays at (Ok k, x) =
      entered_unless_stays at (x.steps + pre_units m.program (diagram m) k) k (all_true (pres m.program (diagram m) k))
  entered_stays at (Err f, x) = faulted_stays x.steps f

  left_by_stays : (units : ℕ) (v : Value) (calls : List (Call × Picture)) → Stays (left_by m units v calls)
  left_by_stays units v [] = refl
  left_by_stays units v (c ∷ cs) = refl

  left_stays : (o : Outcome Execution ExecFault Value) → Stays (left m o)
  left_stays (Ok v, x) = left_by_stays x.steps v (open_calls m)
  left_stays (Err f, x) = faulted_stays x.steps f

  undone_stays : (at : Place) (past : List Moment) → Stays (undone m at past)
  undone_stays at [] = refl
  undone_stays at (before ∷ past) = refl

  redone_stays : (at : Place) (future : List Moment) → Stays (redone m at future)
  redone_stays at [] = refl
  redone_stays at (next ∷ future) = refl

  carried_out_stays : (line : ℕ) (at : Start) (word : Place) (x : Checked) → Stays (carried_out m line at word x)
  carried_out_stays line at word c.Empty = refl
  carried_out_stays line at word (c.Query e t shell) = valued_stays at.second t (eval (scene m) (environment m shell) e)
  carried_out_stays line at word (c.Explain e t shell) = refl
  carried_out_stays line at word (c.Statements body shell) = executed_stays line (exec m.program body shell (bound m) (diagram m) [])
  carried_out_stays line at word (c.Enter receiver op args shell) =
      either (nat_eq (length (open_calls m)) max_open) (refused m (refusal_at (code_of C 4) word))
      (entered m word (entering m.program word receiver op args (first m shell))) refl (entered_stays word (entering m.program word receiver op args (first m shell)))
  carried_out_stays line at word (c.Exit e shell) = left_stays (giving m.program word e (first m shell))
  carried_out_stays line at word (c.Check detail) = refl
  carried_out_stays line at word (c.Info topic) = refl
  carried_out_stays line at word c.Undo = undone_stays at.first m.timeline.past
  carried_out_stays line at word c.Redo = redone_stays at.first m.timeline.future
  carried_out_stays line at word c.Reset = refl
  carried_out_stays line at word (c.Show number) = refl
  carried_out_stays line at word (c.Drop number) = refl
  carried_out_stays line at word c.Quit = refl

  answered_stays : (line : ℕ) (at : Start) (word : Place) (x : Typing Checked) → Stays (answered m line at word x)
  answered_stays line at word (Err r) = refl
  answered_stays line at word (Ok x) =
      either (is_unbuilt x) (refused m (unbuilt at.first)) (carried_out m line at word x) refl (carried_out_stays line at word x)

  reading_stays : (line : ℕ) (text : List ℕ) (r : Reading) → Stays (answered_reading m line text r)
  reading_stays line text (unread r) = refl
  reading_stays line text (parsed ts t) =
      let word = word_place (start_of line ts) ts in
      either (is_exit ts && nat_eq (length (open_calls m)) 0) (refused m (refusal_at (code_of C 3) word))
      (answered m line (start_of line ts) word (checked m text ts t)) refl (answered_stays line (start_of line ts) word (checked m text ts t))

  opened_stays : (at : Place) (r : Result (List ℕ) Code) → Stays (opened m at r)
  opened_stays at (Ok name) = refl
  opened_stays at (Err code) = refl

  pub step_stays : (cut : Cut) → Stays (step m cut)
  step_stays cut =
      let file = opened m (first_place cut.first_line cut.text) (judged (file_name cut.text)) in
      either (is_open cut) file (answered_reading m cut.first_line cut.text (reading_of cut))
      (opened_stays (first_place cut.first_line cut.text) (judged (file_name cut.text))) (reading_stays cut.first_line cut.text (reading_of cut))

-- so what is kept of the program before a command is so behind it
pub moves_on : (k k' : Kept) (cut : Cut) (commands : List (Option Prepared)) (bytes : List ℕ) (steps : ℕ) (told : Result Turn AllocError) (bytes' : List ℕ) (steps' : ℕ)
    → Answers (step (machine_of k) cut) bytes steps told k' bytes' steps' → OnOk told (AreKept k.program commands) → OnOk told (AreKept k'.program commands)
moves_on k k' cut commands bytes steps (Ok turn) bytes' steps' a h =
    subst (λ (p : ProgramParts). AreKept p commands) (sym (ap (λ (m : Machine). m.program) a.machine ∙ step_stays (machine_of k) cut)) h
moves_on k k' cut commands bytes steps (Err e) bytes' steps' a h = h
