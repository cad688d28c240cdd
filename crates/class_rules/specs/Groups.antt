-- Things by name.
use Rattle.std.specs.Prelude.{ℕ, List, [], unwrap_or}
use Rattle.std.specs.BTreeMap.{BTreeMap, get}
use Rattle.std.specs.Cmp.Lexicographic.{slice_cmp}
use Rattle.std.specs.Ordering.{nat_cmp}

-- the things of a name
abbrev pub listed : {A : Type 0} → BTreeMap (List ℕ) (List A) → List ℕ → List A
listed groups name = unwrap_or (get (slice_cmp nat_cmp) groups name) []
