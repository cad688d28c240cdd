use Rattle.std.proofs.Common.{ℕ, ◌+◌, List, subst, ◌∙◌}
use Rattle.ocl_eval.specs.declared.outcome.Outcome as told
use Rattle.contract_frames.specs.Judging.{pre_units, pres}
use Rattle.soil_changes.specs.Acts.{each}
use Rattle.soil_exec.specs.Calls.{holds}
use Rattle.soil_exec.specs.Kept.{Gives, stand}
use Rattle.soil_exec.proofs.machine.Machine.pres_hold.Goals as goal

pub returns : goal.returns
returns g c =
    let p = c.args.setting.now.program.now in
    let self = c.args.self.now in
    let k = c.args.call.now in
    let n = g.V.Evaluator.count c.args.steps.now in
    let after = stand self (g.V.Evaluator.count c.check_pre.new.steps) in
    let os = c.as_slice.ensures ∙ c.in_ok-outcomes.ensures.value ∙ (λ i. pres p (c.store-store.ensures i) k) in
    let units = c.in_ok-outcomes.ensures.units ∙ (λ i. n + pre_units p (c.store-store.ensures i) k) in
    subst (λ (z : List (ℕ × told.Outcome) × ℕ). Gives (each (holds c.args.place 1) z.0 (record (stand self n) { steps = z.1 })) c.hold.result after)
    (λ i. (os i, units i)) (c.hold.ensures after)
