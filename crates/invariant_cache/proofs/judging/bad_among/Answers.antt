use Rattle.std.proofs.Common.{ap, ◌∙◌, arith}
use Rattle.std.proofs.lemmas.List.{take_all}
use Rattle.invariant_cache.specs.Verdicts.{bad_among, units}
use Rattle.invariant_cache.proofs.Judgements.{all_units, more_bad, more_units}
use Rattle.invariant_cache.proofs.judging.bad_among.Goals as goal

pub instances-init : goal.instances-init
instances-init g c = record { bad = c.new-bad.ensures; units = omega arith; one = c.in_ok-env.ensures }

pub instances-preserved : goal.instances-preserved
instances-preserved g c =
    let now = g.W.World.picture c.args.world.now in
    record {
      bad = more_bad c.args.program.now now c.args.invariant.now c.args.objects.now c.instances.object-index c.instances.bad c.add_bad.new.bad c.by_outcome.result
          c.in_ok-outcome.outcome c.instances-test.true c.instances.invariant.bad c.in_ok-add_bad.ensures c.by_outcome.ensures c.in_ok-outcome.ensures.outcome;
      units = more_units (units c.args.program.now now c.args.invariant.now) c.args.objects.now c.instances.object-index 0 c.args.steps.now c.instances.steps
          c.outcome_for.new.steps c.instances-test.true c.instances.invariant.units c.in_ok-outcome.ensures.units;
      one = c.in_ok-outcome.ensures.one;
    }

pub returns-clause-bad : goal.returns-clause-bad
returns-clause-bad g c = c.instances.invariant.bad
    ∙ ap (bad_among c.args.program.now (g.W.World.picture c.args.world.now) c.args.invariant.now)
    (take_all c.instances.object-index c.args.objects.now c.instances-test.false)

pub returns-clause-units : goal.returns-clause-units
returns-clause-units g c = all_units (units c.args.program.now (g.W.World.picture c.args.world.now) c.args.invariant.now) c.args.objects.now
    c.instances.object-index c.args.steps.now c.instances.steps c.instances-test.false c.instances.invariant.units
