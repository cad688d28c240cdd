use Rattle.std.proofs.Common.{◌≡◌, List, ℕ, take}
use Rattle.std.specs.HashMap.{get_by_text}
use Rattle.soil_scope.specs.Shells.{slot_of}
use Rattle.soil_scope.proofs.shell.slots_of.Given as goal

abbrev pub invariant-names : goal.invariant-names
invariant-names l = (t : List ℕ) → get_by_text l.slots t ≡ slot_of (take l.i l.names) t
