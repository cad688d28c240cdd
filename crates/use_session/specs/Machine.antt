-- The machine that answers commands, and its step. It keeps its states in lists.
use Rattle.std.specs.Prelude.{ℕ, ◌+◌, ◌-◌, ◌&&◌, Bool, nat_eq, if◌then◌else◌, List, [], ◌∷◌, ◌++◌, length, map, None, Option, Some, Result, Ok, Err}
use Rattle.std.specs.List.{flat_map, list_all}
use Rattle.use_text.specs.declared.code.Code.{Code}
use Rattle.use_text.specs.declared.code.Family.TheVariants.{B, C, U}
use Rattle.use_text.specs.declared.cut.Cut.{Cut}
use Rattle.use_text.specs.declared.place.Place.{Place}
use Rattle.use_text.specs.declared.refusal.Refusal.{Refusal}
use Rattle.use_text.specs.declared.token.Token.{Token}
use Rattle.use_text.specs.Codes.{code_of}
use Rattle.use_text.specs.Refusals.{refusal_at}
use Rattle.grammar_core.specs.Trees.{ParseTree}
use Rattle.use_syntax.specs.Reading.{Reading, parsed as read_as, refused as unread}
use Rattle.ocl_values.specs.declared.value.Value.{Value}
use Rattle.class_model.specs.declared.types.OclType.{OclType}
use Rattle.ocl_core.specs.declared.expression.Expr.{Expr}
use Rattle.ocl_core.specs.declared.program.ProgramParts.{ProgramParts}
use Rattle.ocl_core.specs.declared.statement.Stmt.{Stmt}
use Rattle.ocl_rules.specs.Typings.{Typing}
use Rattle.invariant_cache.specs.Broken.{broken}
use Rattle.invariant_cache.specs.Verdicts.{report, work_of_all}
use Rattle.object_state.specs.declared.change.Change.{Change}
use Rattle.object_state.specs.Layouts.{layout_of}
use Rattle.object_state.specs.Looks.{look}
use Rattle.object_state.specs.State.{Diagram, State, empty}
use Rattle.entry_states.specs.declared.frame.Call.{Call}
use Rattle.entry_states.specs.Overlays.{Picture}
use Rattle.ocl_eval.specs.declared.outcome.Outcome.{Outcome as Told}
use Rattle.ocl_eval.specs.Evaluation.{eval, max_units}
use Rattle.ocl_eval.specs.Evaluations as evaluations
use Rattle.ocl_eval.specs.Scenes.{Scene, scene_of}
use Rattle.contract_frames.specs.declared.fault.FrameFault.{FrameFault}
use Rattle.contract_frames.specs.declared.fault.FrameFault.TheVariants as contract
use Rattle.contract_frames.specs.Holding.{all_true}
use Rattle.contract_frames.specs.Judging.{post_units, posts, pre_units, pres}
use Rattle.soil_check.specs.declared.checked.Checked.{Checked}
use Rattle.soil_check.specs.declared.checked.Checked.TheVariants as c
use Rattle.soil_check.specs.Commands.{command_in}
use Rattle.soil_changes.specs.Acts.{Outcome}
use Rattle.soil_exec.specs.declared.fault.ExecFault.{ExecFault}
use Rattle.soil_exec.specs.declared.fault.ExecFault.TheVariants as fault
use Rattle.soil_exec.specs.Calls.{entering, giving}
use Rattle.soil_exec.specs.Exec.{exec}
use Rattle.soil_exec.specs.Machine as execution
use Rattle.soil_exec.specs.Machine.{shell_value}
use Rattle.undo_log.specs.Points.{Point}
use Rattle.undo_log.specs.Timelines as timelines
use Rattle.undo_log.specs.Timelines.{Moment, Timeline, advanced}
use Rattle.use_session.specs.declared.session.Turn.{Turn}
use Rattle.use_session.specs.declared.session.Turn.TheVariants.{CheckFailed, Fetch, Quiet, Quit, Refused}
use Rattle.use_session.specs.declared.starts.Start.{Start}
use Rattle.use_session.specs.Answers.{info_text, refusal_line, value_line}
use Rattle.use_session.specs.Commands.{is_exit, reading_of, start_of, unbuilt, word_place}
use Rattle.contract_texts.specs.ContractLines.{broken_line, is_met, post_line, pre_line}
use Rattle.use_session.specs.FileWords.{file_name, first_place, is_open, judged}
use Rattle.use_session.specs.Frames.{bound_by, top_bindings}
use Rattle.use_session.specs.Lines.{fault_in, refusal_in}
use Rattle.use_session.specs.Reports.{check_text, finds_nothing}
use Rattle.use_session.specs.Resetting.{cleared}
use Rattle.use_session.specs.Shell.{known}
use Rattle.use_session.specs.Unbuilt.{is_unbuilt}

-- What a machine keeps: the model's program; the states before the commands that are kept, the newest first, each with the calls that were
-- open, with the pictures at their entries, and the changes that led on from it; the present state, likewise; and the states after the commands
-- that were taken back, the next first, each with the changes that lead on to it.
pub record Machine : Type 0 where
  pub program : ProgramParts
  pub timeline : Timeline

-- the machine before the first command
abbrev pub start : ProgramParts → Machine
start p = record { program = p; timeline = record { past = []; present = record { state = empty; calls = [] }; future = [] } }

-- so many commands can be taken back, and so many calls may be open
abbrev pub max_history : ℕ
max_history = 1000

abbrev pub max_open : ℕ
max_open = 64

-- the present state, and the calls that are open
abbrev pub present : Machine → State
present m = m.timeline.present.state

abbrev pub open_calls : Machine → List (Call × Picture)
open_calls m = m.timeline.present.calls

-- what a command leads to: the machine behind it, the bytes that it writes, how it ended, and the units that its evaluations spend
pub record Step : Type 0 where
  pub machine : Machine
  pub bytes : List ℕ
  pub turn : Turn
  pub units : ℕ

-- an accepted command
abbrev pub accepted : Machine → List ℕ → ℕ → Step
accepted m bytes units = record { machine = m; bytes = bytes; turn = Quiet; units = units }

abbrev pub silent : Machine → Step
silent m = accepted m [] 0

-- a command that leaves the machine as it is, and writes nothing
abbrev pub ended_by : Machine → Turn → Step
ended_by m turn = record { machine = m; bytes = []; turn = turn; units = 0 }

-- a refused command leaves the machine as it was
abbrev pub refused_after : ℕ → Machine → Refusal → Step
refused_after units m r = record { machine = m; bytes = refusal_line r; turn = Refused r.code; units = units }

abbrev pub refused : Machine → Refusal → Step
refused m r = refused_after 0 m r

-- the diagram of the present state
abbrev pub diagram : Machine → Diagram
diagram m = record { layout = layout_of m.program.model; state = present m }

-- what each cell of the present state holds
abbrev pub picture : Machine → Picture
picture m = look (layout_of m.program.model) (present m)

-- what an evaluation sees: now and at entry are the same
abbrev pub scene : Machine → Scene
scene m = scene_of m.program (picture m) (picture m)

-- what is bound in a command: what names of the shell stand for, and then what the top call binds
abbrev pub bound : Machine → List Value
bound m = bound_by (open_calls m)

abbrev pub environment : Machine → List (List ℕ) → List Value
environment m shell = map (shell_value (present m)) shell ++ bound m

-- the units that an evaluation spent
abbrev pub spent : ℕ → ℕ
spent left = max_units - left

-- `? e`: the value, or B1 where the budget of the evaluation is spent, at its first token
abbrev pub valued : Machine → Place → OclType → evaluations.Outcome Value → Step
valued m at t (Some v, meter) = accepted m (value_line m.program.model (present m) v t) (spent meter.fuel)
valued m at t (None, meter) = refused_after (spent meter.fuel) m (refusal_at (code_of B 1) at)

abbrev pub query : Machine → Place → Expr → OclType → List (List ℕ) → Step
query m at e t shell = valued m at t (eval (scene m) (environment m shell) e)

-- `check`: all multiplicities and invariants are judged anew
abbrev pub turn_of_check : Bool → Turn
turn_of_check nothing_found = if nothing_found then Quiet else CheckFailed

abbrev pub check_step : Machine → Bool → Step
check_step m detail =
    let violations = broken m.program.model (present m) in
    let verdicts = report m.program (picture m) in
    record {
      machine = m;
      bytes = check_text m.program (present m) detail violations verdicts;
      turn = turn_of_check (finds_nothing violations verdicts);
      units = work_of_all m.program (picture m);
    }

-- a command is kept, and drops the oldest beyond the limit and all that could be carried out again
abbrev pub kept : Machine → List Change → Point → Machine
kept m cs p = record m { timeline = advanced max_history m.timeline cs p }

-- a command that a contract refuses, by its number and what it came to
abbrev pub broken_after : ℕ → Machine → Refusal → ℕ → Value → Step
broken_after units m r n v = record { machine = m; bytes = broken_line m.program r n v; turn = Refused r.code; units = units }

-- by what refuses statements; no execution wants memory
abbrev pub faulted_after : ℕ → Machine → ExecFault → Step
faulted_after units m (fault.Refused r) = refused_after units m r
faulted_after units m (fault.Broken r n v) = broken_after units m r n v
faulted_after units m fault.Memory = accepted m [] units

-- `!` and statements in a command that begins in a line: all of them, or none; the calls that are open stay open
abbrev pub executed : Machine → ℕ → Outcome execution.Machine ExecFault (Unit {0}) → Step
executed m line (Ok tt, x) = accepted (kept m x.progress.changes (record { state = x.progress.state; calls = open_calls m })) [] x.steps
executed m line (Err f, x) = faulted_after x.steps m (fault_in line f)

abbrev pub execute : Machine → ℕ → List Stmt → List (List ℕ) → Step
execute m line body shell = executed m line (exec m.program body shell (bound m) (diagram m) [])

-- what the evaluations of a command begin with that enters or leaves a call
abbrev pub first : Machine → List (List ℕ) → execution.Machine
first m shell = execution.begin (diagram m) [] shell (bound m) 0

-- `openter`: C4 where too many calls are open; the receiver and the arguments; C1 or B1 where a precondition is not true
abbrev pub with_calls : Machine → List (Call × Picture) → Machine
with_calls m calls = kept m [] (record { state = present m; calls = calls })

abbrev pub entered_unless : Machine → Place → ℕ → Call → Result (List ℕ) FrameFault → Step
entered_unless m at units k (Ok ns) = accepted (with_calls m ((k, picture m) ∷ open_calls m)) (flat_map (pre_line m.program) ns) units
entered_unless m at units k (Err (contract.Broken n v)) = broken_after units m (refusal_at (code_of C 1) at) n v
entered_unless m at units k (Err (contract.Over n)) = refused_after units m (refusal_at (code_of B 1) at)
entered_unless m at units k (Err _) = refused_after units m (refusal_at (code_of C 4) at)

abbrev pub entered : Machine → Place → Outcome execution.Machine ExecFault Call → Step
entered m at (Ok k, x) = entered_unless m at (x.steps + pre_units m.program (diagram m) k) k (all_true (pres m.program (diagram m) k))
entered m at (Err f, x) = faulted_after x.steps m f

abbrev pub enter : Machine → Place → Expr → ℕ → List Expr → List (List ℕ) → Step
enter m at receiver op args shell =
    if nat_eq (length (open_calls m)) max_open then refused m (refusal_at (code_of C 4) at)
    else entered m at (entering m.program at receiver op args (first m shell))

-- `opexit`: the value; and then the call is left, whatever its postconditions come to
abbrev pub turn_of_posts : List (ℕ × Told) → Turn
turn_of_posts os = if list_all is_met os then Quiet else CheckFailed

abbrev pub left_by : Machine → ℕ → Value → List (Call × Picture) → Step
left_by m units v [] = accepted m [] units
left_by m units v (c ∷ cs) =
    let os = posts m.program (diagram m) c.0 c.1 v in
    record {
      machine = with_calls m cs;
      bytes = flat_map (post_line m.program) os;
      turn = turn_of_posts os;
      units = units + post_units m.program (diagram m) c.0 c.1 v;
    }

abbrev pub left : Machine → Outcome execution.Machine ExecFault Value → Step
left m (Ok v, x) = left_by m x.steps v (open_calls m)
left m (Err f, x) = faulted_after x.steps m f

abbrev pub exit : Machine → Place → Option Expr → List (List ℕ) → Step
exit m at e shell = left m (giving m.program at e (first m shell))

-- `undo`: the newest state of the past becomes the present, whole, with the calls that were open
abbrev pub undone : Machine → Place → List Moment → Step
undone m at [] = refused m (refusal_at (code_of U 1) at)
undone m at (before ∷ past) = silent (record m { timeline = timelines.undone m.timeline })

-- `redo`: the next state of the future becomes the present
abbrev pub redone : Machine → Place → List Moment → Step
redone m at [] = refused m (refusal_at (code_of U 2) at)
redone m at (next ∷ future) = silent (record m { timeline = timelines.redone m.timeline })

-- `reset` leaves the counters, and no open call and nothing that could be taken back or carried out again
abbrev pub reset : Machine → Machine
reset m = record m { timeline = record { past = []; present = record { state = cleared (present m); calls = [] }; future = [] } }

-- a checked command of a form that is built, which begins in a line, and whose word stands at a place
abbrev pub carried_out : Machine → ℕ → Start → Place → Checked → Step
carried_out m line at word (c.Query e t shell) = query m at.second e t shell
carried_out m line at word (c.Statements body shell) = execute m line body shell
carried_out m line at word (c.Enter receiver op args shell) = enter m word receiver op args shell
carried_out m line at word (c.Exit e shell) = exit m word e shell
carried_out m line at word (c.Check detail) = check_step m detail
carried_out m line at word (c.Info topic) = accepted m (info_text m.program (present m) (open_calls m) topic) 0
carried_out m line at word c.Undo = undone m at.first m.timeline.past
carried_out m line at word c.Redo = redone m at.first m.timeline.future
carried_out m line at word c.Reset = silent (reset m)
carried_out m line at word c.Quit = ended_by m Quit
carried_out m line at word _ = silent m

-- rules of names and types come first, then forms that are not built, then the run of the command
abbrev pub answered : Machine → ℕ → Start → Place → Typing Checked → Step
answered m line at word (Err r) = refused m (refusal_in line r)
answered m line at word (Ok command) = if is_unbuilt command then refused m (unbuilt at.first) else carried_out m line at word command

-- what a command is checked among
abbrev pub checked : Machine → List ℕ → List Token → ParseTree → Typing Checked
checked m text ts t = command_in m.program (known (present m)) (top_bindings m.program.model (open_calls m)) text ts t

-- that no call is open which a command leaves is told before them
abbrev pub answered_at : Machine → ℕ → Start → Place → Bool → Typing Checked → Step
answered_at m line at word exits command =
    if exits && nat_eq (length (open_calls m)) 0 then refused m (refusal_at (code_of C 3) word) else answered m line at word command

abbrev pub answered_tokens : Machine → ℕ → List Token → Typing Checked → Step
answered_tokens m line ts command = answered_at m line (start_of line ts) (word_place (start_of line ts) ts) (is_exit ts) command

-- rules of cuts, tokens and grammar come first of all
abbrev pub answered_reading : Machine → ℕ → List ℕ → Reading → Step
answered_reading m line text (unread r) = refused m (refusal_in line r)
answered_reading m line text (read_as ts t) = answered_tokens m line ts (checked m text ts t)

-- `open F`: the name of the file that is wanted at a place, or the rule that it breaks
abbrev pub opened : Machine → Place → Result (List ℕ) Code → Step
opened m at (Ok name) = ended_by m (Fetch name at)
opened m at (Err code) = refused m (refusal_at code at)

-- one step of the machine
abbrev pub step : Machine → Cut → Step
step m cut =
    if is_open cut then opened m (first_place cut.first_line cut.text) (judged (file_name cut.text))
    else answered_reading m cut.first_line cut.text (reading_of cut)

-- how many objects are live, and how many links there are
abbrev pub counts : Machine → ℕ × ℕ
counts m = (length (present m).objects, length (present m).links)
