use Rattle.std.proofs.Common.{Some}
use Rattle.invariant_cache.proofs.Answered.{on_ok}
use Rattle.invariant_cache.proofs.Recounted.{recounts_if, recounts_unless}
use Rattle.invariant_cache.proofs.structure.Structure.begin_at.Goals as goal

pub returns-then-may_start : goal.returns-then-may_start
returns-then-may_start c = on_ok c.set_count.result (λ told. recounts_if c.args.model.now c.args.navigation _ (Some 0) _ _ c.if-may_start.ensures told)
    c.set_count.ensures

pub returns-else-may_start : goal.returns-else-may_start
returns-else-may_start c = recounts_unless c.args.model.now c.args.navigation _ (Some 0) c.args.self.now c.if-may_start.ensures
