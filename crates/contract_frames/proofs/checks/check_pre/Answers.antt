use Rattle.std.proofs.Common.{◌≡◌, ◌+◌, ℕ, List, false, subst}
use Rattle.std.specs.Prelude.{IfOk, OnOk}
use Rattle.ocl_eval.specs.declared.outcome.Outcome.{Outcome}
use Rattle.ocl_eval.specs.Scenes.{scene_of}
use Rattle.contract_frames.specs.Judging.{all_units, outcomes, picture, pre_units, pres}
use Rattle.contract_frames.proofs.checks.check_pre.Goals as goal

pub returns-clause-value : goal.returns-clause-value
returns-clause-value g c =
    let q = picture c.args.store.now in
    let same : outcomes (scene_of c.args.program.now q q) false c.in_ok-env.env c.contracts.result.now ≡ pres c.args.program.now c.args.store.now c.args.call.now =
    λ i. outcomes (scene_of c.args.program.now q q) false (c.in_ok-env.ensures i) (c.contracts.ensures i) in
    subst (λ (xs : List (ℕ × Outcome)). IfOk c.outcomes.result (λ os. os ≡ xs)) same c.outcomes.ensures.value

pub returns-clause-units : goal.returns-clause-units
returns-clause-units g c =
    let q = picture c.args.store.now in
    let same : all_units (scene_of c.args.program.now q q) false c.in_ok-env.env c.contracts.result.now ≡ pre_units c.args.program.now c.args.store.now c.args.call.now =
    λ i. all_units (scene_of c.args.program.now q q) false (c.in_ok-env.ensures i) (c.contracts.ensures i) in
    subst (λ n. OnOk c.outcomes.result (c.outcomes.new.steps ≡ c.args.steps.now + n)) same c.outcomes.ensures.units
