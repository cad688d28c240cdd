use Rattle.std.proofs.Common.{◌≡◌, ap, ◌∙◌, arith}
use Rattle.std.specs.List.{sum_by}
use Rattle.invariant_cache.specs.Verdicts.{bad_among, instances, units, verdict_over}
use Rattle.invariant_cache.proofs.judging.judge.Goals as goal

pub returns-clause-judged : goal.returns-clause-judged
returns-clause-judged g c =
    let now = g.W.World.picture c.args.world.now in
    let objects = c.as_slice.ensures.value ∙ c.in_ok-objects.ensures.objects in
    let bad = c.in_ok-bad.ensures.bad ∙ ap (bad_among c.args.program.now now c.args.invariant.now) objects in
    let verdict = c.verdict_over-verdict.ensures ∙ ap verdict_over (c.as_slice-2.ensures ∙ bad) in
    λ i. record { verdict = verdict i; bad = bad i }

pub returns-clause-units : goal.returns-clause-units
returns-clause-units g c =
    let now = g.W.World.picture c.args.world.now in
    let objects = c.as_slice.ensures.value ∙ c.in_ok-objects.ensures.objects in
    let same : sum_by (units c.args.program.now now c.args.invariant.now) c.as_slice.result.now
    ≡ sum_by (units c.args.program.now now c.args.invariant.now) (instances now c.args.invariant.now)
    = ap (sum_by (units c.args.program.now now c.args.invariant.now)) objects in
    let one = c.in_ok-objects.ensures.units in
    let all = c.in_ok-bad.ensures.units in
    omega arith
