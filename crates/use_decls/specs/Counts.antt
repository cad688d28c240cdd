-- Counts by group. Only proofs use these words.
use Rattle.std.specs.Prelude.{ℕ, unwrap_or}
use Rattle.std.specs.BTreeMap.{BTreeMap, get}
use Rattle.use_decls.specs.declared.positions.Group.{Group}
use Rattle.use_decls.specs.contracts.positions.GroupOrd.TheImpl.{ghosts as group_ghosts}

abbrev pub count_in : BTreeMap Group ℕ → Group → ℕ
count_in counts g = unwrap_or (get group_ghosts.cmp counts g) 0
