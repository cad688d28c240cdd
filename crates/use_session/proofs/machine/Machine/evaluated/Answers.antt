use Rattle.std.proofs.Common.{◌≡◌, ◌+◌, ◌++◌, ap, map, subst, sym, ◌∙◌}
use Rattle.ocl_values.specs.declared.value.Value.{Value}
use Rattle.object_state.specs.Looks.{look}
use Rattle.ocl_core.specs.Programs.{IsSoundProgram}
use Rattle.ocl_eval.specs.Evaluation.{eval, eval_from, told}
use Rattle.ocl_eval.specs.Evaluations.{Outcome}
use Rattle.ocl_eval.specs.Scenes.{scene_of}
use Rattle.soil_exec.specs.Machine.{shell_value}
use Rattle.use_session.specs.Kept.{machine_of}
use Rattle.use_session.specs.Machine.{environment, scene}
use Rattle.use_session.proofs.Evaluated.{is_sound}
use Rattle.use_session.proofs.Framed.{top_is_call}
use Rattle.use_session.proofs.Keeping.{present_proper}
use Rattle.use_session.proofs.Unlinked.{if_ok, on_ok}
use Rattle.use_session.proofs.machine.Machine.evaluated.Goals as goal

pub evaluate_in-requires-clause-program : goal.evaluate_in-requires-clause-program
evaluate_in-requires-clause-program g c = subst IsSoundProgram (sym c.as_parts.ensures) (is_sound c.args.self.now.program c.is_checked.ensures)

pub environment-requires : goal.environment-requires
environment-requires g c =
    let k = c.args.self.now in
    c.in_ok-bound.ensures.well_made k.program (top_is_call k.program k.frames (look k.store.layout k.store.state) (present_proper k c.requires.kept).calls)

pub returns-clause-value : goal.returns-clause-value
returns-clause-value g c =
    let k = c.args.self.now in
    let q = look k.store.layout k.store.state in
    let env = c.in_ok-env.ensures ∙ ap (λ vs. map (shell_value k.store.state) c.args.shell.now ++ vs) (c.in_ok-bound.ensures.values q) in
    let same : ◌≡◌ {A = Outcome Value} (eval_from (scene_of c.as_parts.result.now q q) c.in_ok-env.env c.args.expr.now c.new-reads.result)
    (eval (scene (machine_of k)) (environment (machine_of k) c.args.shell.now) c.args.expr.now) =
    λ i. eval_from (scene_of (c.as_parts.ensures i) (look (c.requires.kept.layout i) k.store.state) (look (c.requires.kept.layout i) k.store.state)) (env i)
    c.args.expr.now (c.new-reads.ensures i) in
    if_ok c.evaluate_in.result (λ x is. is ∙ ap (λ (o : Outcome Value). told o.0) same) c.evaluate_in.ensures.value

pub returns-clause-units : goal.returns-clause-units
returns-clause-units g c =
    let k = c.args.self.now in
    let q = look k.store.layout k.store.state in
    let env = c.in_ok-env.ensures ∙ ap (λ vs. map (shell_value k.store.state) c.args.shell.now ++ vs) (c.in_ok-bound.ensures.values q) in
    let same : ◌≡◌ {A = Outcome Value} (eval_from (scene_of c.as_parts.result.now q q) c.in_ok-env.env c.args.expr.now c.new-reads.result)
    (eval (scene (machine_of k)) (environment (machine_of k) c.args.shell.now) c.args.expr.now) =
    λ i. eval_from (scene_of (c.as_parts.ensures i) (look (c.requires.kept.layout i) k.store.state) (look (c.requires.kept.layout i) k.store.state)) (env i)
    c.args.expr.now (c.new-reads.ensures i) in
    on_ok c.evaluate_in.result (λ is. ap (λ (o : Outcome Value). c.evaluate_in.new.steps + o.1.fuel) (sym same) ∙ is) c.evaluate_in.ensures.units
