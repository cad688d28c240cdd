use Rattle.std.proofs.Common.{◌≡◌, drop}
use Rattle.ocl_collections.specs.Membership.{excludes_all}
use Rattle.ocl_collections.proofs.membership.none_within.Given as goal

abbrev pub invariant-seek : goal.invariant-seek
invariant-seek l = excludes_all l.items (drop l.y-index l.others) ≡ excludes_all l.items l.others
