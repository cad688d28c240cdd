-- Names of the shell that are found in a map, if they are more than a few. Only proofs use this word.
use Rattle.std.specs.Prelude.{◌≡◌, ◌<◌, ℕ, List, length}
use Rattle.std.specs.HashMap.{get_by_text}
use Rattle.soil_scope.specs.declared.shell.ShellNames.TheInside.{Inside}
use Rattle.soil_scope.specs.Shells.{slot_of}

abbrev pub AreSlots : Inside → Type 0
AreSlots s = 8 < length s.names → (name : List ℕ) → get_by_text s.slots name ≡ slot_of s.names name
