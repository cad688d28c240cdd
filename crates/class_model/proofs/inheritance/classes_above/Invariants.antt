use Rattle.std.proofs.Common.{◌≡◌, filter}
use Rattle.std.specs.List.{range_with_len}
use Rattle.class_model.specs.Indexes.{above}
use Rattle.class_model.proofs.inheritance.classes_above.Given as goal

abbrev pub invariant-classes : goal.invariant-classes
invariant-classes l = l.classes.items ≡ filter (above l.rows l.class) (range_with_len 0 l.other)
