use Rattle.std.proofs.Common.{◌≡◌, ◌+◌, map, take}
use Rattle.std.specs.List.{sum_by}
use Rattle.invariant_cache.specs.Verdicts.{judge, work}
use Rattle.invariant_cache.proofs.cache.Cache.refresh.Given as goal

abbrev pub invariant-judged : goal.invariant-judged
invariant-judged g l = record {
  lines : l.lines ≡ map (judge l.program (g.W.World.picture l.world)) (take l.invariant-index l.program.invariants);
  units : l.steps ≡ l.fn.steps + sum_by (work l.program (g.W.World.picture l.world)) (take l.invariant-index l.program.invariants);
}
