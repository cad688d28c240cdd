use Rattle.std.proofs.Common.{◌≡◌, take}
use Rattle.ocl_core.proofs.+copy.Given as goal

abbrev pub invariant-copies::copy_all-copy : goal.invariant-copies::copy_all-copy
invariant-copies::copy_all-copy l = l.list.items ≡ take l.e-index l.all

abbrev pub invariant-copies::copy_parts-copy : goal.invariant-copies::copy_parts-copy
invariant-copies::copy_parts-copy l = l.list.items ≡ take l.p-index l.all
