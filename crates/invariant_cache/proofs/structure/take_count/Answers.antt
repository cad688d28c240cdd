use Rattle.std.proofs.Common.{cond, None, ap, ◌∙◌}
use Rattle.invariant_cache.specs.Counts.{counted}
use Rattle.invariant_cache.proofs.Navigations.{same_at}
use Rattle.invariant_cache.proofs.structure.take_count.Goals as goal

pub returns : goal.returns
returns c = λ n. c.remove.ensures.updates.0 n
    ∙ ap (λ b. cond b (None) (counted c.args.counts.now.entries n)) (same_at c.args.navigation n)
