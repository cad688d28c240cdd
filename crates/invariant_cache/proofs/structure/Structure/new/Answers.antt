use Rattle.invariant_cache.proofs.Followed.{begins}
use Rattle.invariant_cache.proofs.structure.Structure.new.Goals as goal

pub returns : goal.returns
returns c = λ m. begins m c.new.result.entries c.new-2.result.entries c.new.ensures.empty c.new-2.ensures.empty
