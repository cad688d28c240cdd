use Rattle.std.proofs.Common.{◌≡◌, ◌+◌, ◌-◌, ℕ, List, length, true, ap, ◌∙◌, subst}
use Rattle.std.specs.Prelude.{IfOk, OnOk}
use Rattle.ocl_eval.specs.declared.outcome.Outcome.{Outcome}
use Rattle.ocl_eval.specs.Scenes.{scene_of}
use Rattle.entry_states.specs.Frames.{shown}
use Rattle.entry_states.specs.Overlays.{laid_over}
use Rattle.contract_frames.specs.Judging.{all_units, outcomes, picture}
use Rattle.contract_frames.specs.Entering.{top_post_units, top_posts}
use Rattle.contract_frames.proofs.Tops.{entry_is, top_are, top_spend}
use Rattle.contract_frames.proofs.checks.check_post.Goals as goal

pub returns-clause-value : goal.returns-clause-value
returns-clause-value g c =
    let w = c.new-old.result in
    let p = c.args.program.now in
    let d = c.args.store.now in
    let fs = c.args.frames.now in
    let f = c.in-Some.top.now in
    let shows = c.new-old.ensures in
    let old : shown w.frames.now (length w.frames.now - w.level) (picture w.now.now) ≡ laid_over f.overlay (picture d) =
    (λ i. shown (shows.frames i) (length (shows.frames i) - shows.level i) (picture (shows.now i)))
    ∙ entry_is fs f (picture d) (c.depth.result - 1) c.in-Some.ensures (ap (λ n. n - 1) c.depth.ensures) shows.picture in
    let same : outcomes (scene_of p (picture d) (shown w.frames.now (length w.frames.now - w.level) (picture w.now.now))) true c.in_ok-env.env c.contracts.result.now
    ≡ top_posts p d fs c.args.given.now =
    (λ i. outcomes (scene_of p (picture d) (old i)) true (c.in_ok-env.ensures i) (c.contracts.ensures i)) ∙ top_are p d c.args.given.now fs f c.in-Some.ensures in
    subst (λ (xs : List (ℕ × Outcome)). IfOk c.outcomes.result (λ os. os ≡ xs)) same c.outcomes.ensures.value

pub returns-clause-units : goal.returns-clause-units
returns-clause-units g c =
    let w = c.new-old.result in
    let p = c.args.program.now in
    let d = c.args.store.now in
    let fs = c.args.frames.now in
    let f = c.in-Some.top.now in
    let shows = c.new-old.ensures in
    let old : shown w.frames.now (length w.frames.now - w.level) (picture w.now.now) ≡ laid_over f.overlay (picture d) =
    (λ i. shown (shows.frames i) (length (shows.frames i) - shows.level i) (picture (shows.now i)))
    ∙ entry_is fs f (picture d) (c.depth.result - 1) c.in-Some.ensures (ap (λ n. n - 1) c.depth.ensures) shows.picture in
    let same : all_units (scene_of p (picture d) (shown w.frames.now (length w.frames.now - w.level) (picture w.now.now))) true c.in_ok-env.env c.contracts.result.now
    ≡ top_post_units p d fs c.args.given.now =
    (λ i. all_units (scene_of p (picture d) (old i)) true (c.in_ok-env.ensures i) (c.contracts.ensures i)) ∙ top_spend p d c.args.given.now fs f c.in-Some.ensures in
    subst (λ n. OnOk c.outcomes.result (c.outcomes.new.steps ≡ c.args.steps.now + n)) same c.outcomes.ensures.units
