use Rattle.std.proofs.Common.{◌≡◌}
use Rattle.soil_scope.specs.Scenes.{first_token}
use Rattle.soil_scope.proofs.Firsts.{depth}
use Rattle.soil_scope.proofs.places.first_leaf.Given as goal

abbrev pub invariant-down : goal.invariant-down
invariant-down l = first_token l.leaf ≡ first_token l.node

abbrev pub decreases-down : goal.decreases-down
decreases-down l = depth l.leaf
