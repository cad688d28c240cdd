use Rattle.std.proofs.Common.{ℕ, ◌+◌, List, ap, subst, ◌∙◌}
use Rattle.ocl_eval.specs.declared.outcome.Outcome as told
use Rattle.contract_frames.specs.Entering.{top_post_units, top_posts}
use Rattle.contract_frames.specs.Judging.{picture}
use Rattle.soil_changes.specs.Progress.{diagram_of}
use Rattle.soil_changes.specs.Acts.{each}
use Rattle.soil_exec.specs.Calls.{holds}
use Rattle.soil_exec.specs.Kept.{Gives, stand}
use Rattle.soil_exec.proofs.Held.{top_units, tops}
use Rattle.soil_exec.proofs.machine.Machine.posts_hold.Goals as goal

pub returns : goal.returns
returns g c = λ k entry is.
    let p = c.args.setting.now.program.now in
    let self = c.args.self.now in
    let d = diagram_of self.transaction in
    let given = c.args.given.now in
    let pre = picture (diagram_of entry.progress) in
    let n = g.V.Evaluator.count c.args.steps.now in
    let after = stand self (g.V.Evaluator.count c.check_post.new.steps) in
    let os = c.as_slice.ensures ∙ c.in_ok-outcomes.ensures.value ∙ (λ i. top_posts p (c.store.ensures i) (c.frames.ensures i) given)
    ∙ tops p d k pre given self.transaction.frames is in
    let units = c.in_ok-outcomes.ensures.units ∙ (λ i. n + top_post_units p (c.store.ensures i) (c.frames.ensures i) given)
    ∙ ap (λ (u : ℕ). n + u) (top_units p d k pre given self.transaction.frames is) in
    subst (λ (z : List (ℕ × told.Outcome) × ℕ). Gives (each (holds c.args.place 2) z.0 (record (stand self n) { steps = z.1 })) c.hold.result after)
    (λ i. (os i, units i)) (c.hold.ensures after)
