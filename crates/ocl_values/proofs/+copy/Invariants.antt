use Rattle.std.proofs.Common.{◌≡◌, take}
use Rattle.ocl_values.proofs.+copy.Given as goal

abbrev pub invariant-shape::copy_collection-copy : goal.invariant-shape::copy_collection-copy
invariant-shape::copy_collection-copy l = l.list.items ≡ take l.v-index l.all
