use Rattle.std.proofs.Common.{◌++◌, ◌+◌, ap, drop, get_or, ◌∙◌}
use Rattle.ocl_eval.specs.Scenes.{scene_of}
use Rattle.contract_frames.specs.Judging.{all_units, outcome_if, outcomes, picture, units_if}
use Rattle.contract_frames.proofs.Listed.{outcomes_next, units_next}
use Rattle.contract_frames.proofs.conditions.outcomes.Goals as goal

pub contracts-preserved : goal.contracts-preserved
contracts-preserved g c =
    let s = scene_of c.args.case.now.program.now (picture c.args.case.now.store.now) (g.P.World.picture c.args.case.now.entry.now) in
    let ns = c.args.numbers.now in
    let i = c.contracts.number-index in
    let env = c.contracts.env in
    let same = c.in_ok-add_outcome.ensures.env in
    let found = c.condition-expr.ensures.value in
    record {
      value =
          ap (λ e. c.add_outcome.new.outcomes ++ outcomes s c.args.asked e (drop (i + 1) ns)) same
          ∙ outcomes_next s c.args.asked env ns i c.contracts-test.true c.contracts.outcomes c.add_outcome.new.outcomes
          (c.in_ok-add_outcome.ensures.added ∙ ap (λ o. c.contracts.outcomes ++ outcome_if s env (get_or ns i 0) o) found)
          ∙ c.contracts.invariant.value;
      units =
          ap (λ e. c.add_outcome.new.steps + all_units s c.args.asked e (drop (i + 1) ns)) same
          ∙ units_next s c.args.asked env ns i c.contracts-test.true c.contracts.steps c.add_outcome.new.steps
          (c.in_ok-add_outcome.ensures.units ∙ ap (λ o. c.contracts.steps + units_if s env o) found)
          ∙ c.contracts.invariant.units;
      env = same ∙ c.contracts.invariant.env;
    }
