-- Files in memory, by name.
use Rattle.std.specs.Prelude.{ℕ, List, map, Vec, String, string_bytes}
use Rattle.std.specs.FinMap.{from_entries}
use Rattle.std.specs.declared.alloc.Global.{Global}
use Rattle.use_io.specs.Shelves.{Files}

-- a file's name and its bytes
abbrev pub Named : Type 0
Named = List ℕ × List ℕ

abbrev pub named : List (String Global × Vec ℕ Global) → List Named
named files = map (λ f. (string_bytes f.0, f.1.items)) files

-- the files of a list; of two with one name the first counts
abbrev pub files_of : List Named → Files
files_of files = from_entries files

abbrev pub held_by : List (String Global × Vec ℕ Global) → Files
held_by files = files_of (named files)
