use Rattle.std.proofs.Common.{◌≡◌, ◌≤◌, List, length, ap, subst, ◌∙◌, arith}
use Rattle.std.proofs.lemmas.List.{length-map}
use Rattle.class_model.specs.declared.object_model.ObjectModel.{ObjectModel}
use Rattle.object_state.specs.declared.layout.Layout.{Layout}
use Rattle.object_state.specs.Layouts.{assoc_layout}
use Rattle.undo_log.specs.declared.entry.Entry.{Entry}
use Rattle.undo_log.specs.Kept.{Kept as History}
use Rattle.undo_log.specs.Points.{point}
use Rattle.undo_log.specs.Points.{LeadOn}
use Rattle.undo_log.specs.Timelines.{future_of}
use Rattle.use_text.specs.declared.code.Family.TheVariants.{U}
use Rattle.use_text.specs.Codes.{code_of}
use Rattle.use_text.specs.Refusals.{refusal_at}
use Rattle.use_session.specs.Kept.{machine_of}
use Rattle.use_session.specs.Machine.{redone}
use Rattle.object_state.specs.Looks.{look}
use Rattle.entry_states.specs.Leading.{led_on}
use Rattle.use_session.proofs.Framed.{few_frames}
use Rattle.use_session.proofs.Keeping.{present_proper}
use Rattle.use_session.proofs.Stepped.{redo_told}
use Rattle.use_session.proofs.Told.{unmoved}
use Rattle.use_session.proofs.machine.Machine.redo.Goals as goal

pub carry_out_again-requires-clause-few : goal.carry_out_again-requires-clause-few
carry_out_again-requires-clause-few c =
    let k = c.args.self.now in
    let long : length k.store.layout.assocs ≡ length k.program.model.assocs = ap (λ (z : Layout). length z.assocs) c.requires.layout ∙ length-map k.program.model.assocs assoc_layout in
    let few : length k.program.model.assocs ≤ 200 = subst (λ (m : ObjectModel). length m.assocs ≤ 200) c.model.ensures c.has_numbers_in_range.ensures.small.assocs in
    omega arith

pub carry_out_again-requires-clause-on : goal.carry_out_again-requires-clause-on
carry_out_again-requires-clause-on c =
    let k = c.args.self.now in
    (subst (λ (h : History). LeadOn k.store.layout h.future (point k.store.layout k.store.state k.frames)) c.in-Some.ensures.taken c.requires.whole.1).0.0

pub carry_out-requires : goal.carry_out-requires
carry_out-requires c =
    let k = c.args.self.now in
    few_frames c.carry_out_again.new.frames k.frames (look k.store.layout (led_on k.store.layout k.store.state c.in-Some.entry.changes)) (look k.store.layout k.store.state)
    c.in_ok-again-in-Some.ensures.noted.same (present_proper k c.requires).few

pub returns-in_ok-moved-in-Some : goal.returns-in_ok-moved-in-Some
returns-in_ok-moved-in-Some c =
    redo_told c.args.self.now c.requires c.state_is_valid.ensures c.args.place c.args.out.now.items c.in-Some.entry c.step_forward.new.self c.put_back.new.self
    c.carry_out_again.new.frames c.carry_out.new.frames c.in_ok-again-in-Some.again c.as_slice.result.now c.in_ok-moved-in-Some.moved c.carry_out_again.new.store
    c.model-model.result.now c.note_all.new.structure c.in-Some.ensures.taken c.in_ok-again-in-Some.ensures.same c.in_ok-moved-in-Some.ensures.moved
    c.put_back.ensures c.in_ok-moved-in-Some.ensures.frames c.in_ok-again-in-Some.ensures.state c.in_ok-again-in-Some.ensures.noted c.model-model.ensures
    c.as_slice.ensures c.in_ok-note_all-in-Some.ensures

pub returns-in-None : goal.returns-in-None
returns-in-None c =
    let k = c.args.self.now in
    let none = c.in-None.ensures.taken in
    unmoved k c.requires (redone (machine_of k) c.args.place (machine_of k).timeline.future) (refusal_at (code_of U 2) c.args.place) c.args.out.now.items
    c.step_forward.new.self c.refuse_at.result c.refuse_at.new.out.items
    (ap (λ (es : List Entry). redone (machine_of k) c.args.place (future_of k.store.layout es (point k.store.layout k.store.state k.frames))) none.0) none.1
    c.refuse_at.ensures.bytes c.refuse_at.ensures.turn
