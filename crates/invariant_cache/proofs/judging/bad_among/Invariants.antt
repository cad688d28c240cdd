use Rattle.std.proofs.Common.{◌≡◌, ◌+◌, length, take}
use Rattle.std.specs.List.{sum_by}
use Rattle.invariant_cache.specs.Verdicts.{bad_among, units}
use Rattle.invariant_cache.proofs.judging.bad_among.Given as goal

abbrev pub invariant-instances : goal.invariant-instances
invariant-instances g l = record {
  bad : l.bad ≡ bad_among l.program (g.W.World.picture l.world) l.fn.invariant (take l.object-index l.objects);
  units : l.steps ≡ l.fn.steps + sum_by (units l.program (g.W.World.picture l.world) l.fn.invariant) (take l.object-index l.objects);
  one : length l.env ≡ 1;
}
