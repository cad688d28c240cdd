use Rattle.std.proofs.Common.{◌≡◌, take, length}
use Rattle.command_cache.proofs.bound.are_same_names.Given as goal

abbrev pub invariant-names : goal.invariant-names
invariant-names l = (take l.i l.a ≡ take l.i l.b) × (length l.a ≡ length l.b)
