use Rattle.invariant_cache.specs.Noting.{one_more}
use Rattle.invariant_cache.proofs.Answered.{on_ok}
use Rattle.invariant_cache.proofs.Recounted.{linked_two}
use Rattle.invariant_cache.proofs.structure.Structure.add_link.Goals as goal

pub returns : goal.returns
returns c = on_ok c.add_one-2.result (λ told. linked_two c.args.model.now c.args.link.now one_more _ _ _ _ _ c.to_first.ensures c.to_second.ensures
    c.in_ok-add_one.ensures told) c.add_one-2.ensures
