use Rattle.std.proofs.Common.{None}
use Rattle.invariant_cache.proofs.Recounted.{recounts_if, recounts_unless}
use Rattle.invariant_cache.proofs.structure.Structure.end_at.Goals as goal

pub returns-then-may_start : goal.returns-then-may_start
returns-then-may_start c = recounts_if c.args.model.now c.args.navigation _ None _ _ c.if-may_start.ensures (c.forget.ensures c.args.model.now)

pub returns-else-may_start : goal.returns-else-may_start
returns-else-may_start c = recounts_unless c.args.model.now c.args.navigation _ None c.args.self.now c.if-may_start.ensures
