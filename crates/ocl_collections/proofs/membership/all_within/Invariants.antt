use Rattle.std.proofs.Common.{◌≡◌, drop}
use Rattle.ocl_collections.specs.Membership.{includes_all}
use Rattle.ocl_collections.proofs.membership.all_within.Given as goal

abbrev pub invariant-seek : goal.invariant-seek
invariant-seek l = includes_all l.items (drop l.y-index l.others) ≡ includes_all l.items l.others
