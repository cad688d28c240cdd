use Rattle.std.proofs.Common.{None}
use Rattle.invariant_cache.specs.Noting.{Recounts, started}
use Rattle.invariant_cache.proofs.structure.Structure.end.Given as goal

abbrev pub invariant-assocs : goal.invariant-assocs
invariant-assocs l = Recounts l.model (started l.model l.class l.object None l.assoc) l.fn.self l.self
