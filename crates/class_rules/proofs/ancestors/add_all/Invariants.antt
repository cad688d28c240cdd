use Rattle.std.proofs.Common.{◌≡◌, take}
use Rattle.std.specs.Prelude.{fold}
use Rattle.std.specs.Ordering.{nat_cmp}
use Rattle.std.specs.BTreeSet.{insert_key}
use Rattle.class_rules.proofs.ancestors.add_all.Given as goal

abbrev pub invariant-classes : goal.invariant-classes
invariant-classes l = l.todo.keys ≡ fold (insert_key nat_cmp) l.fn.todo.keys (take l.class-index l.classes)
