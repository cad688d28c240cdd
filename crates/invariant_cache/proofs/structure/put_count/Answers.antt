use Rattle.std.proofs.Common.{cond, Some, ap, ◌∙◌}
use Rattle.invariant_cache.specs.Counts.{counted}
use Rattle.invariant_cache.proofs.Navigations.{same_at}
use Rattle.invariant_cache.proofs.structure.put_count.Goals as goal

pub returns : goal.returns
returns c = λ n. c.in_ok-insert.ensures.updates.0 n
    ∙ ap (λ b. cond b (Some c.args.count) (counted c.args.counts.now.entries n)) (same_at c.args.navigation n)
