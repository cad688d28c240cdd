use Rattle.std.proofs.Common.{◌≡◌, ◌≤◌, length, ap, subst, ◌∙◌, arith}
use Rattle.std.proofs.lemmas.List.{length-map}
use Rattle.class_model.specs.declared.object_model.ObjectModel.{ObjectModel}
use Rattle.object_state.specs.declared.layout.Layout.{Layout}
use Rattle.object_state.specs.Layouts.{assoc_layout}
use Rattle.use_session.proofs.Stepped.{reset_told}
use Rattle.use_session.proofs.machine.Machine.reset.Goals as goal

pub clear-requires : goal.clear-requires
clear-requires c =
    let k = c.args.self.now in
    let long : length k.store.layout.assocs ≡ length k.program.model.assocs = ap (λ (z : Layout). length z.assocs) c.requires.layout ∙ length-map k.program.model.assocs assoc_layout in
    let few : length k.program.model.assocs ≤ 200 = subst (λ (m : ObjectModel). length m.assocs ≤ 200) c.model.ensures c.has_numbers_in_range.ensures.small.assocs in
    omega arith

pub returns : goal.returns
returns c = λ bytes.
    reset_told c.args.self.now c.requires c.state_is_valid.ensures bytes c.in_ok-gone.gone c.as_slice.result.now c.new.result c.clear-2.new.self c.clear.new.store
    c.model-model.result.now c.note_all.new.structure c.in_ok-gone.ensures.changes c.new.ensures c.clear-2.ensures c.in_ok-gone.ensures.state c.model-model.ensures
    c.as_slice.ensures c.in_ok-note_all.ensures
