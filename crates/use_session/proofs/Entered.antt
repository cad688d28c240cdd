-- Calls that are entered and left: what is answered, from what the frames and the history became.
use Rattle.std.proofs.Common.{◌≡◌, ℕ, ◌+◌, ◌<◌, ◌≤◌, All, Bool, List, [], ◌∷◌, ◌++◌, drop, length, take, Result, Ok, Err, if◌then◌else◌, refl, sym, ap, ◌∙◌, subst, true≢false, arith}
use Rattle.std.specs.declared.alloc.AllocError.{AllocError}
use Rattle.std.specs.List.{flat_map}
use Rattle.std.proofs.lemmas.Bool.{ne_eqb}
use Rattle.std.proofs.lemmas.List.{append-nil}
use Rattle.std.proofs.lemmas.List.Elements.{All-cons, All-tail}
use Rattle.use_text.specs.declared.code.Code.{Code}
use Rattle.use_text.specs.declared.code.Family.TheVariants.{B, C}
use Rattle.use_text.specs.declared.place.Place.{Place}
use Rattle.use_text.specs.Codes.{code_of}
use Rattle.use_text.specs.Refusals.{refusal_at}
use Rattle.ocl_values.specs.declared.value.Value.{Value}
use Rattle.ocl_core.specs.declared.program.ProgramParts.{ProgramParts}
use Rattle.object_state.specs.Looks.{look}
use Rattle.object_state.specs.State.{Diagram}
use Rattle.object_state.specs.Valid.{IsValid}
use Rattle.entry_states.specs.declared.frame.Call.{Call}
use Rattle.entry_states.specs.declared.frame.Frame.{Frame}
use Rattle.entry_states.specs.Frames.{entered, left, opened}
use Rattle.entry_states.specs.Overlays.{Picture, laid_over}
use Rattle.entry_states.proofs.Keeps.{left_keeps}
use Rattle.entry_states.proofs.Noted.{none_noted}
use Rattle.ocl_eval.specs.declared.outcome.Outcome.{Outcome as Told}
use Rattle.contract_frames.specs.declared.fault.FrameFault.{FrameFault}
use Rattle.contract_frames.specs.declared.fault.FrameFault.TheVariants as contract
use Rattle.contract_frames.specs.Entering.{IsCall, entering, entering_units, leaving, top_post_units, top_posts}
use Rattle.contract_frames.specs.Holding as holding
use Rattle.contract_frames.specs.Holding.{NotMemory, all_true}
use Rattle.contract_frames.specs.Judging.{post_units, posts, pre_units, pres}
use Rattle.contract_texts.specs.ContractLines.{broken_line, post_line, pre_line}
use Rattle.undo_log.specs.declared.entry.Entry.{Entry}
use Rattle.undo_log.specs.declared.frame_move.FrameMove.{FrameMove}
use Rattle.undo_log.specs.declared.frame_move.FrameMove.TheVariants.{Entered, Left}
use Rattle.undo_log.specs.Kept.{Kept as History}
use Rattle.undo_log.specs.Points.{point}
use Rattle.undo_log.specs.Steps.{LedOn}
use Rattle.undo_log.proofs.Stepped.{carries_out}
use Rattle.use_session.specs.declared.machine.Machine.{Machine as Kept}
use Rattle.use_session.specs.declared.session.Turn.{Turn}
use Rattle.use_session.specs.declared.session.Turn.TheVariants.{Quiet, Refused}
use Rattle.use_session.specs.Answering.{Answers, IsRefused, TellsFrameFault, TellsNoneLeft}
use Rattle.use_session.specs.Answers.{refusal_line}
use Rattle.use_session.specs.Kept.{IsKept, IsProper, machine_of}
use Rattle.use_session.specs.Machine.{Step, diagram, entered_unless, kept, left_by, max_open, open_calls, picture, turn_of_posts, with_calls}
use Rattle.use_session.proofs.Framed.{as_many}
use Rattle.use_session.proofs.Keeping.{longer, moved, on_kept, on_machine, present_proper}
use Rattle.use_session.proofs.Told.{line_answers}

-- a move without changes
abbrev pub move : FrameMove → Entry
move m = record { changes = []; moved = m }

all_behind : (p : ProgramParts) (cs : List (Call × Picture)) → All (λ c. IsCall p c.0) cs → All (λ c. IsCall p c.0) (drop 1 cs)
all_behind p [] h = h
all_behind p (c ∷ cs) h = All-tail (λ (c : Call × Picture). IsCall p c.0) c cs h

fewer : (cs : List (Call × Picture)) (n : ℕ) → length cs ≤ n → length (drop 1 cs) ≤ n
fewer [] n h = h
fewer (c ∷ cs) n h = omega (arith, h)

-- what is given, where something is
abbrev ok_or : {A E : Type 0} → Result A E → A → A
ok_or (Ok a) d = a
ok_or (Err e) d = d

-- what is told of a call that is to be entered where fewer are open than may be
entering_below : (p : ProgramParts) (d : Diagram) (c : Call) (n : ℕ) → n < max_open → entering p d c n max_open ≡ all_true (pres p d c)
entering_below p d c n h = ap (λ (b : Bool). if b then Err contract.TooMany else all_true (pres p d c)) (ne_eqb n max_open (λ e. omega (arith, e, h)))

units_below : (p : ProgramParts) (d : Diagram) (c : Call) (n : ℕ) → n < max_open → entering_units p d c n max_open ≡ pre_units p d c
units_below p d c n h = ap (λ (b : Bool). if b then 0 else pre_units p d c) (ne_eqb n max_open (λ e. omega (arith, e, h)))

module _ (k : Kept) (h : IsKept k) (v : IsValid k.store.layout k.store.state) where
  -- after a move to other frames
  module _ (m : FrameMove) (gs : List Frame) (led : LedOn k.store.layout k.store.state k.frames (move m) k.store.state gs) where
    abbrev moved_on : Kept
    moved_on = moved k k.store.state gs k.structure (longer k h (move m) k.store.state gs led k.structure h.structure)

    moved_kept : IsProper k.program (point k.store.layout k.store.state gs) → IsKept moved_on
    moved_kept q = on_kept k h (move m) k.store.state gs led k.structure h.structure q

    moved_machine : machine_of moved_on ≡ kept (machine_of k) [] (point k.store.layout k.store.state gs)
    moved_machine = on_machine k h (move m) k.store.state gs led k.structure h.structure

  same_diagram : k.store ≡ diagram (machine_of k)
  same_diagram = λ i. record k.store { layout = h.layout i }

  -- a call is entered
  module _ (c : Call) (is : IsCall k.program c) (few : length k.frames < max_open) where
    enter_led : LedOn k.store.layout k.store.state k.frames (move (Entered (opened c))) k.store.state (opened c ∷ k.frames)
    enter_led =
        (carries_out k.store.layout k.store.state k.frames k.frames (move (Entered (opened c))) v (tt, (refl, refl))
        (none_noted k.store.layout k.store.state k.frames)).1

    enter_proper : IsProper k.program (point k.store.layout k.store.state (opened c ∷ k.frames))
    enter_proper =
        let before = present_proper k h in
        let calls = entered k.frames (look k.store.layout k.store.state) in
        record {
          types = before.types;
          calls = All-cons (λ (c : Call × Picture). IsCall k.program c.0) (c, look k.store.layout k.store.state) calls is before.calls;
          few = omega (arith, few, as_many k.frames (look k.store.layout k.store.state));
        }

    entered_machine : machine_of (moved_on (Entered (opened c)) (opened c ∷ k.frames) enter_led) ≡ with_calls (machine_of k) ((c, picture (machine_of k)) ∷ open_calls (machine_of k))
    entered_machine =
        moved_machine (Entered (opened c)) (opened c ∷ k.frames) enter_led
        ∙ (λ i. with_calls (machine_of k) ((c, look (h.layout i) k.store.state) ∷ open_calls (machine_of k)))

    module _ (at : Place) (bytes bytes' : List ℕ) (steps steps' : ℕ) where
      abbrev answer : Step
      answer = entered_unless (machine_of k) at (pre_units k.program (diagram (machine_of k)) c) c (all_true (pres k.program (diagram (machine_of k)) c))

      pub enter_answers : (ns : List ℕ) (fs : List Frame) (put : History) → Ok ns ≡ entering k.program k.store c (length k.frames) max_open
          → fs ≡ opened c ∷ k.frames
          → put ≡ record k.history { past = take k.history.capacity (move (Entered (opened c)) ∷ k.history.past); future = [] }
          → bytes' ≡ bytes ++ flat_map (pre_line k.program) ns → steps' ≡ steps + entering_units k.program k.store c (length k.frames) max_open
          → Answers answer bytes steps (Ok Quiet) (record k { frames = fs; history = put }) bytes' steps'
      enter_answers ns fs put told pushed noted written counted =
          let all : Ok ns ≡ all_true (pres k.program (diagram (machine_of k)) c) =
          told ∙ entering_below k.program k.store c (length k.frames) few ∙ (λ i. all_true (pres k.program (same_diagram i) c)) in
          let units = counted ∙ ap (λ u. steps + u) (units_below k.program k.store c (length k.frames) few ∙ (λ i. pre_units k.program (same_diagram i) c)) in
          subst (λ (r : Result (List ℕ) FrameFault). Answers (entered_unless (machine_of k) at (pre_units k.program (diagram (machine_of k)) c) c r) bytes steps (Ok Quiet)
          (record k { frames = fs; history = put }) bytes' steps') all
          (subst (λ (z : List Frame × History). Answers (entered_unless (machine_of k) at (pre_units k.program (diagram (machine_of k)) c) c (Ok ns)) bytes steps (Ok Quiet)
          (record k { frames = z.0; history = z.1 }) bytes' steps') (λ i. (sym pushed i, sym noted i))
          (record {
            turn = refl;
            kept = moved_kept (Entered (opened c)) (opened c ∷ k.frames) enter_led enter_proper;
            machine = entered_machine;
            bytes = written;
            units = units;
          }))

      -- or it is not entered
      refused_entry : (line : List ℕ) (code : Code) (r : Result (List ℕ) FrameFault)
          → entered_unless (machine_of k) at (pre_units k.program (diagram (machine_of k)) c) c r
          ≡ record { machine = machine_of k; bytes = line; turn = Refused code; units = pre_units k.program (diagram (machine_of k)) c }
          → r ≡ entering k.program k.store c (length k.frames) max_open → steps' ≡ steps + entering_units k.program k.store c (length k.frames) max_open
          → (told : Result Turn AllocError) (fs : List Frame) → fs ≡ k.frames → IsRefused code line bytes told bytes'
          → Answers answer bytes steps told (record k { frames = fs }) bytes' steps'
      refused_entry line code r same is counted told fs stay t =
          let all = is ∙ entering_below k.program k.store c (length k.frames) few ∙ (λ i. all_true (pres k.program (same_diagram i) c)) in
          let units = counted ∙ ap (λ u. steps + u) (units_below k.program k.store c (length k.frames) few ∙ (λ i. pre_units k.program (same_diagram i) c)) in
          subst (λ (z : List Frame × Step). Answers z.1 bytes steps told (record k { frames = z.0 }) bytes' steps')
          (λ i. (sym stay i, (sym same ∙ (λ j. entered_unless (machine_of k) at (pre_units k.program (diagram (machine_of k)) c) c (all j))) i))
          (line_answers (machine_of k) line code (pre_units k.program (diagram (machine_of k)) c) bytes steps told k bytes' steps' t.0 t.1 h refl units)

      pub fault_answers : (f : FrameFault) → holding.Answers {A = List ℕ} (entering k.program k.store c (length k.frames) max_open) (Err f)
          → NotMemory {A = List ℕ} (Err f) (steps' ≡ steps + entering_units k.program k.store c (length k.frames) max_open)
          → (told : Result Turn AllocError) (fs : List Frame) → fs ≡ k.frames → TellsFrameFault k.program at f bytes told bytes'
          → Answers answer bytes steps told (record k { frames = fs }) bytes' steps'
      fault_answers contract.Memory is u (Ok turn) fs stay t = absurd (true≢false (sym t))
      fault_answers contract.Memory is u (Err e) fs stay t = tt
      fault_answers (contract.Over n) is u told fs stay t = refused_entry (refusal_line (refusal_at (code_of B 1) at)) (code_of B 1) (Err (contract.Over n)) refl is u told fs stay t
      fault_answers (contract.Broken n w) is u told fs stay t =
          refused_entry (broken_line k.program (refusal_at (code_of C 1) at) n w) (code_of C 1) (Err (contract.Broken n w)) refl is u told fs stay t
      fault_answers contract.TooMany is u told fs stay t = refused_entry (refusal_line (refusal_at (code_of C 4) at)) (code_of C 4) (Err contract.TooMany) refl is u told fs stay t
      fault_answers contract.Nothing is u told fs stay t = refused_entry (refusal_line (refusal_at (code_of C 4) at)) (code_of C 4) (Err contract.Nothing) refl is u told fs stay t

  -- the top call is left
  module _ (w : Value) (bytes bytes' : List ℕ) (steps steps' : ℕ) where
    leave_led : (f : Frame) (fs : List Frame) → k.frames ≡ f ∷ fs → LedOn k.store.layout k.store.state k.frames (move (Left f)) k.store.state (left k.frames)
    leave_led f fs top =
        subst (λ (zs : List Frame). LedOn k.store.layout k.store.state zs (move (Left f)) k.store.state (left zs)) (sym top)
        (carries_out k.store.layout k.store.state (f ∷ fs) (f ∷ fs) (move (Left f)) v (tt, (refl, tt)) (none_noted k.store.layout k.store.state (f ∷ fs))).1

    leave_proper : IsProper k.program (point k.store.layout k.store.state (left k.frames))
    leave_proper =
        let before = present_proper k h in
        let q = look k.store.layout k.store.state in
        record {
          types = before.types;
          calls = subst (λ (cs : List (Call × Picture)). All (λ c. IsCall k.program c.0) cs) (sym (left_keeps k.frames q))
              (all_behind k.program (entered k.frames q) before.calls);
          few = subst (λ (cs : List (Call × Picture)). length cs ≤ max_open) (sym (left_keeps k.frames q)) (fewer (entered k.frames q) max_open before.few);
        }

    -- by the frames that are open
    told_left : (zs : List Frame) (f : Frame) (os : List (ℕ × Told)) → Ok (f, os) ≡ leaving k.program k.store zs w
        → (fs : List Frame) × ((zs ≡ f ∷ fs) × (os ≡ top_posts k.program k.store zs w))
    told_left [] f os h = absurd (differ h)
      where
        differ : ◌≡◌ {A = Result (Frame × List (ℕ × Told)) FrameFault} (Ok (f, os)) (Err contract.Nothing) → ⊥
        differ e = cc
    told_left (g ∷ gs) f os h =
        (gs, (ap (λ (x : Frame). x ∷ gs) (sym (ap (λ (r : Result (Frame × List (ℕ × Told)) FrameFault). (ok_or r (f, os)).0) h)), ap (λ (r : Result (Frame × List (ℕ × Told)) FrameFault). (ok_or r (f, os)).1) h))

    -- what is told of the calls that are open, by their frames
    abbrev by_calls : List (Call × Picture) → Step
    by_calls calls = left_by (machine_of k) 0 w calls

    step_of : (f : Frame) (fs : List Frame) → k.frames ≡ f ∷ fs → by_calls (open_calls (machine_of k))
        ≡ by_calls ((f.call, laid_over f.overlay (look k.store.layout k.store.state)) ∷ entered fs (laid_over f.overlay (look k.store.layout k.store.state)))
    step_of f fs top = ap (λ (zs : List Frame). by_calls (entered zs (look k.store.layout k.store.state))) top

    pub leave_answers : (f : Frame) (os : List (ℕ × Told)) (fs : List Frame) (put : History) → Ok (f, os) ≡ leaving k.program k.store k.frames w → fs ≡ left k.frames
        → put ≡ record k.history { past = take k.history.capacity (move (Left f) ∷ k.history.past); future = [] }
        → bytes' ≡ bytes ++ flat_map (post_line k.program) os → steps' ≡ steps + top_post_units k.program k.store k.frames w
        → (turn : Turn) → turn ≡ turn_of_posts os
        → Answers (by_calls (open_calls (machine_of k))) bytes steps (Ok turn) (record k { frames = fs; history = put }) bytes' steps'
    leave_answers f os fs put told went noted written counted turn ends =
        let q = look k.store.layout k.store.state in
        let found = told_left k.frames f os told in
        let rest = found.0 in
        let top = found.1.0 in
        let led = leave_led f rest top in
        let d = diagram (machine_of k) in
        let judged : os ≡ posts k.program d f.call (laid_over f.overlay q) w =
        found.1.1 ∙ (λ i. top_posts k.program k.store (top i) w)
        ∙ (λ i. posts k.program (same_diagram i) f.call (laid_over f.overlay q) w) in
        let units : steps' ≡ steps + post_units k.program d f.call (laid_over f.overlay q) w =
        counted ∙ (λ i. steps + top_post_units k.program k.store (top i) w)
        ∙ (λ i. steps + post_units k.program (same_diagram i) f.call (laid_over f.overlay q) w) in
        let calls : entered (left k.frames) q ≡ entered rest (laid_over f.overlay q) =
        left_keeps k.frames q ∙ (λ i. drop 1 (entered (top i) q)) in
        subst (λ (s : Step). Answers s bytes steps (Ok turn) (record k { frames = fs; history = put }) bytes' steps') (sym (step_of f rest top))
        (subst (λ (z : List Frame × History). Answers (by_calls ((f.call, laid_over f.overlay q) ∷ entered rest (laid_over f.overlay q))) bytes steps (Ok turn)
        (record k { frames = z.0; history = z.1 }) bytes' steps') (λ i. (sym went i, sym noted i))
        (record {
          turn = ends ∙ ap turn_of_posts judged;
          kept = moved_kept (Left f) (left k.frames) led leave_proper;
          machine = moved_machine (Left f) (left k.frames) led ∙ ap (with_calls (machine_of k)) calls;
          bytes = written ∙ ap (λ (os : List (ℕ × Told)). bytes ++ flat_map (post_line k.program) os) judged;
          units = units ∙ on_nothing steps (post_units k.program d f.call (laid_over f.overlay q) w);
        }))
      where
        on_nothing : (n u : ℕ) → n + u ≡ n + (0 + u)
        on_nothing n u = omega arith

  -- where none is open, nothing is done
  module _ (w : Value) (bytes : List ℕ) (steps : ℕ) where
    pub none_answers : length (open_calls (machine_of k)) ≡ 0 → Answers (left_by (machine_of k) 0 w (open_calls (machine_of k))) bytes steps (Ok Quiet) k bytes steps
    none_answers none =
        subst (λ (calls : List (Call × Picture)). Answers (left_by (machine_of k) 0 w calls) bytes steps (Ok Quiet) k bytes steps) (sym (no_calls (open_calls (machine_of k)) none))
        (record { turn = refl; kept = h; machine = refl; bytes = sym (append-nil bytes); units = no_more steps })
      where
        no_more : (n : ℕ) → n ≡ n + 0
        no_more n = omega arith

        no_calls : (calls : List (Call × Picture)) → length calls ≡ 0 → calls ≡ []
        no_calls [] e = refl
        no_calls (c ∷ cs) e = absurd (omega (arith, e))

  -- where one is open, it is left unless memory is wanting
  module _ (w : Value) (s : Step) (bytes bytes' : List ℕ) (steps steps' : ℕ) (new : Kept) (some : length k.frames ≡ 0 → ⊥) where
    never : (zs : List Frame) (f : FrameFault) → (length zs ≡ 0 → ⊥) → Err f ≡ leaving k.program k.store zs w → ⊥
    never [] f n e = n refl
    never (g ∷ gs) f n e = differ e
      where
        differ : ◌≡◌ {A = Result (Frame × List (ℕ × Told)) FrameFault} (Err f) (leaving k.program k.store (g ∷ gs) w) → ⊥
        differ e = cc

    pub leave_faults : (f : FrameFault) → holding.Answers {A = Frame × List (ℕ × Told)} (leaving k.program k.store k.frames w) (Err f)
        → (told : Result Turn AllocError) → TellsNoneLeft f told → Answers s bytes steps told new bytes' steps'
    leave_faults contract.Memory is (Ok turn) t = absurd (true≢false (sym t))
    leave_faults contract.Memory is (Err e) t = tt
    leave_faults (contract.Over n) is told t = absurd (never k.frames (contract.Over n) some is)
    leave_faults (contract.Broken n x) is told t = absurd (never k.frames (contract.Broken n x) some is)
    leave_faults contract.TooMany is told t = absurd (never k.frames contract.TooMany some is)
    leave_faults contract.Nothing is told t = absurd (never k.frames contract.Nothing some is)
