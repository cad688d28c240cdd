use Rattle.std.proofs.Common.{Some, None}
use Rattle.invariant_cache.proofs.Answered.{on_ok}
use Rattle.invariant_cache.proofs.Recounted.{recounts_at, recounts_from}
use Rattle.invariant_cache.proofs.structure.Structure.set_count.Goals as goal

pub returns-in-None : goal.returns-in-None
returns-in-None c = recounts_from c.args.model.now _ _ _ _ c.self.view_is
    (recounts_at c.args.model.now _ _ c.args.navigation (Some c.args.count) None c.in_ok-put_count.ensures c.take_broken.ensures c.in-None.ensures)

pub returns-in-Some : goal.returns-in-Some
returns-in-Some c = on_ok c.put_broken.result (λ told. recounts_from c.args.model.now _ _ _ _ c.self.view_is
    (recounts_at c.args.model.now _ _ c.args.navigation (Some c.args.count) (Some c.in-Some.count) c.in_ok-put_count.ensures told c.in-Some.ensures))
    c.put_broken.ensures
