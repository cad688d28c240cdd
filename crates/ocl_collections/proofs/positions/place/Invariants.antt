use Rattle.std.proofs.Common.{◌≡◌, ◌+◌, drop}
use Rattle.ocl_collections.specs.Positions.{place_from}
use Rattle.ocl_collections.proofs.positions.place.Given as goal

abbrev pub invariant-seek : goal.invariant-seek
invariant-seek l = place_from (l.i + 1) (drop l.i l.items) l.x ≡ place_from 1 l.items l.x
