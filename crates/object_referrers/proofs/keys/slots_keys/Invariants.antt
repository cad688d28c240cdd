use Rattle.std.proofs.Common.{◌≡◌, ◌++◌, drop}
use Rattle.object_referrers.specs.Places.{slots_keys}
use Rattle.object_referrers.proofs.keys.slots_keys.Given as goal

abbrev pub invariant-slots : goal.invariant-slots
invariant-slots l = l.keys.items ++ slots_keys l.object (drop l.i l.attrs) (drop l.i l.values) ≡ slots_keys l.object l.attrs l.values
