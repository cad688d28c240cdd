-- The links at the ends of objects.
use Rattle.std.specs.Prelude.{ℕ, List, [], ◌∷◌, Option, Some, None}
use Rattle.std.specs.BTreeMap.{is_at}
use Rattle.std.specs.Map.{lookup}
use Rattle.object_state.specs.State.{link_cmp}
use Rattle.object_store.specs.declared.ends.Row.{Row}
use Rattle.object_store.specs.declared.ends.Row.TheVariants.{One, Many}

-- the stamp of each link of a row, with the object at the other end
abbrev pub entries_in : Row → List (ℕ × ℕ)
entries_in (One stamp other) = (stamp, other) ∷ []
entries_in (Many objects) = objects.entries

-- those of a row that may be there
abbrev pub entries_of : Option Row → List (ℕ × ℕ)
entries_of None = []
entries_of (Some row) = entries_in row

-- those of an association and an object
abbrev pub row_at : List ((ℕ × ℕ) × Row) → ℕ × ℕ → List (ℕ × ℕ)
row_at ends k = entries_of (lookup (is_at (link_cmp k)) ends)
