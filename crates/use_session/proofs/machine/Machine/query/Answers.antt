use Rattle.std.proofs.Common.{◌++◌, ap, sym, ◌∙◌}
use Rattle.class_model.specs.declared.object_model.ObjectModel.{ObjectModel}
use Rattle.object_state.specs.Looks.{look}
use Rattle.object_state.specs.Layouts.{layout_of}
use Rattle.ocl_eval.specs.Evaluation.{eval}
use Rattle.ocl_eval.proofs.Spending.{leaves_at_most}
use Rattle.use_session.specs.Answers.{value_line}
use Rattle.use_session.specs.Kept.{machine_of}
use Rattle.use_session.specs.Machine.{environment, scene}
use Rattle.use_session.proofs.Evaluated.{done_answers, exhausted_answers}
use Rattle.use_session.proofs.machine.Machine.query.Goals as goal

pub returns-in_ok-append_value_line-in-Done : goal.returns-in_ok-append_value_line-in-Done
returns-in_ok-append_value_line-in-Done g c =
    let k = c.args.self.now in
    let env = environment (machine_of k) c.args.shell.now in
    let o = eval (scene (machine_of k)) env c.args.expr.now in
    let now = look (layout_of k.program.model) k.store.state in
    done_answers k c.requires.kept c.args.place c.args.of_type.now c.args.out.now.items c.append_value_line.new.out.items c.args.steps.now c.evaluated.new.steps o
    c.in-Done.value (sym c.in-Done.is ∙ c.in_ok-evaluated.ensures.value) (leaves_at_most k.program now now env c.args.expr.now) c.in_ok-evaluated.ensures.units (c.in_ok-append_value_line-in-Done.ensures
    ∙ ap (λ (m : ObjectModel). c.args.out.now.items ++ value_line m k.store.state c.in-Done.value c.args.of_type.now) c.model-model.ensures)

pub returns-in-Exhausted : goal.returns-in-Exhausted
returns-in-Exhausted g c =
    let k = c.args.self.now in
    let env = environment (machine_of k) c.args.shell.now in
    let o = eval (scene (machine_of k)) env c.args.expr.now in
    let now = look (layout_of k.program.model) k.store.state in
    exhausted_answers k c.requires.kept c.args.place c.args.of_type.now c.args.out.now.items c.refuse_at.new.out.items c.args.steps.now c.evaluated.new.steps o
    (sym c.in-Exhausted.is ∙ c.in_ok-evaluated.ensures.value) (leaves_at_most k.program now now env c.args.expr.now) c.in_ok-evaluated.ensures.units c.refuse_at.result
    c.refuse_at.ensures.bytes c.refuse_at.ensures.turn
