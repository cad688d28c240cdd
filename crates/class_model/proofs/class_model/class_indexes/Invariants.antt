use Rattle.std.proofs.Common.{◌≡◌, ◌<◌, ℕ, length, get_or}
use Rattle.class_model.specs.declared.class_index.ClassIndex.{ClassIndex}
use Rattle.class_model.specs.Indexes.{IsIndexOf}
use Rattle.class_model.proofs.class_model.class_indexes.Given as goal

abbrev pub invariant-classes : goal.invariant-classes
invariant-classes l = (length l.indexes.items ≡ l.class) × ((c : ℕ) (d : ClassIndex) → c < l.class → IsIndexOf l.model c (get_or l.indexes.items c d))
