use Rattle.std.proofs.Common.{Some, arith}
use Rattle.invariant_cache.specs.Noting.{started}
use Rattle.invariant_cache.proofs.Recounted.{recounts_none, started_all, started_none, started_two}
use Rattle.invariant_cache.proofs.structure.Structure.begin.Goals as goal

pub assocs-init : goal.assocs-init
assocs-init c = recounts_none c.args.model.now (started c.args.model.now c.args.class c.args.object (Some 0) 0) c.args.self.now
    (λ n. started_none c.args.model.now c.args.class c.args.object (Some 0) n _)

pub assocs-preserved : goal.assocs-preserved
assocs-preserved c = started_two c.args.model.now c.args.class c.args.object (Some 0) c.assocs.assoc _ _ _ _ c.assocs.invariant c.in_ok-begin_at.ensures c.in_ok-begin_at-2.ensures

pub returns : goal.returns
returns c = started_all c.args.model.now c.args.class c.args.object (Some 0) c.assocs.assoc _ _ _ (omega arith) c.assocs.invariant
