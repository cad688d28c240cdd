use Rattle.std.proofs.Common.{◌≡◌, take}
use Rattle.class_builder.proofs.class_table.class_numbers.Given as goal

abbrev pub invariant-numbers : goal.invariant-numbers
invariant-numbers l = l.found.items ≡ take l.number-index l.numbers
