use Rattle.std.proofs.Common.{None, refl}
use Rattle.invariant_cache.proofs.Recounted.{recounts_at, recounts_from}
use Rattle.invariant_cache.proofs.structure.Structure.forget.Goals as goal

pub returns : goal.returns
returns c = λ m. recounts_from m _ _ _ _ c.self.view_is (recounts_at m _ _ c.args.navigation None None c.take_count.ensures c.take_broken.ensures refl)
