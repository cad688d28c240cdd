use Rattle.std.proofs.Common.{◌<◌, ◌++◌, All, length, ap, sym, subst, ◌∙◌}
use Rattle.class_model.specs.declared.object_model.ObjectModel.{ObjectModel}
use Rattle.object_state.specs.Looks.{look}
use Rattle.entry_states.specs.Frames.{entered}
use Rattle.soil_check.specs.declared.checked.Topic.{Topic}
use Rattle.contract_texts.specs.Calls.{opstack_text}
use Rattle.use_session.specs.Answers.{info_text}
use Rattle.use_session.proofs.Framed.{all_known, calls_of}
use Rattle.use_session.proofs.Keeping.{present_proper}
use Rattle.use_session.proofs.Unlinked.{on_ok}
use Rattle.use_session.proofs.machine.Machine.append_info.Goals as goal

pub append_calls-requires : goal.append_calls-requires
append_calls-requires c =
    let k = c.args.self.now in
    subst (λ (m : ObjectModel). All (λ f. f.call.op < length m.ops) k.frames) (sym c.model-model.ensures)
    (all_known k.program k.frames (look k.store.layout k.store.state) (present_proper k c.requires.kept).calls)

pub returns-in-Opstack : goal.returns-in-Opstack
returns-in-Opstack c =
    let k = c.args.self.now in
    let q = look k.store.layout k.store.state in
    let out = c.args.out.now.items in
    on_ok c.append_calls.result (λ e. e ∙ (λ i. out ++ opstack_text (c.model-model.ensures i) k.store.state (sym (calls_of k.frames q) i))
    ∙ ap (λ (t : Topic). out ++ info_text k.program k.store.state (entered k.frames q) t) (sym c.in-Opstack.is)) c.append_calls.ensures
