use Rattle.std.proofs.Common.{◌≡◌, ◌≤◌, List, length, ap, subst, ◌∙◌, arith}
use Rattle.std.proofs.lemmas.List.{length-map}
use Rattle.class_model.specs.declared.object_model.ObjectModel.{ObjectModel}
use Rattle.object_state.specs.declared.layout.Layout.{Layout}
use Rattle.object_state.specs.Layouts.{assoc_layout}
use Rattle.undo_log.specs.declared.entry.Entry.{Entry}
use Rattle.undo_log.specs.Kept.{Kept as History}
use Rattle.undo_log.specs.Points.{point}
use Rattle.undo_log.specs.Points.{LeadHere}
use Rattle.undo_log.specs.Timelines.{past_of}
use Rattle.use_text.specs.declared.code.Family.TheVariants.{U}
use Rattle.use_text.specs.Codes.{code_of}
use Rattle.use_text.specs.Refusals.{refusal_at}
use Rattle.use_session.specs.Kept.{machine_of}
use Rattle.use_session.specs.Machine.{undone}
use Rattle.object_state.specs.Looks.{look}
use Rattle.entry_states.specs.Leading.{taken_back}
use Rattle.use_session.proofs.Framed.{few_frames}
use Rattle.use_session.proofs.Keeping.{present_proper}
use Rattle.use_session.proofs.Stepped.{undo_told}
use Rattle.use_session.proofs.Told.{unmoved}
use Rattle.use_session.proofs.machine.Machine.undo.Goals as goal

pub take_back-requires-clause-few : goal.take_back-requires-clause-few
take_back-requires-clause-few c =
    let k = c.args.self.now in
    let long : length k.store.layout.assocs ≡ length k.program.model.assocs = ap (λ (z : Layout). length z.assocs) c.requires.layout ∙ length-map k.program.model.assocs assoc_layout in
    let few : length k.program.model.assocs ≤ 200 = subst (λ (m : ObjectModel). length m.assocs ≤ 200) c.model.ensures c.has_numbers_in_range.ensures.small.assocs in
    omega arith

pub take_back-requires-clause-back : goal.take_back-requires-clause-back
take_back-requires-clause-back c =
    let k = c.args.self.now in
    (subst (λ (h : History). LeadHere k.store.layout h.past (point k.store.layout k.store.state k.frames) k.frames) c.in-Some.ensures.taken c.requires.whole.0).0.0

pub take_back-requires-in-Some : goal.take_back-requires-in-Some
take_back-requires-in-Some c =
    let k = c.args.self.now in
    few_frames c.take_back.new.frames k.frames (look k.store.layout (taken_back k.store.layout c.in-Some.entry.changes k.store.state)) (look k.store.layout k.store.state)
    c.in_ok-again-in-Some.ensures.noted.same (present_proper k c.requires).few

pub returns-in_ok-moved-in-Some : goal.returns-in_ok-moved-in-Some
returns-in_ok-moved-in-Some c =
    undo_told c.args.self.now c.requires c.state_is_valid.ensures c.args.place c.args.out.now.items c.in-Some.entry c.step_back.new.self c.put_forward.new.self
    c.take_back.new.frames c.take_back-in-Some.new.frames c.in_ok-again-in-Some.again c.as_slice.result.now c.in_ok-moved-in-Some.moved c.take_back.new.store
    c.model-model.result.now c.note_all_back.new.structure c.in-Some.ensures.taken c.in_ok-again-in-Some.ensures.same c.in_ok-moved-in-Some.ensures.moved
    c.put_forward.ensures c.in_ok-moved-in-Some.ensures.frames c.in_ok-again-in-Some.ensures.state c.in_ok-again-in-Some.ensures.noted c.model-model.ensures
    c.as_slice.ensures c.in_ok-note_all_back-in-Some.ensures

pub returns-in-None : goal.returns-in-None
returns-in-None c =
    let k = c.args.self.now in
    let none = c.in-None.ensures.taken in
    unmoved k c.requires (undone (machine_of k) c.args.place (machine_of k).timeline.past) (refusal_at (code_of U 1) c.args.place) c.args.out.now.items
    c.step_back.new.self c.refuse_at.result c.refuse_at.new.out.items
    (ap (λ (es : List Entry). undone (machine_of k) c.args.place (past_of k.store.layout es (point k.store.layout k.store.state k.frames))) none.0) none.1
    c.refuse_at.ensures.bytes c.refuse_at.ensures.turn
