use Rattle.std.proofs.Common.{◌≡◌, false, take}
use Rattle.std.specs.List.{list_any}
use Rattle.class_rules.specs.Ancestors.{parent_numbers}
use Rattle.class_rules.specs.Declaring.{is_disputed, ops_numbered}
use Rattle.class_rules.specs.Groups.{listed}
use Rattle.class_rules.proofs.overriding.some_class_disputed.Given as goal

abbrev pub invariant-numbers : goal.invariant-numbers
invariant-numbers l =
    list_any (λ n. list_any (λ op. is_disputed (parent_numbers l.hierarchy) (listed l.groups op.name.text) n) (ops_numbered l.hierarchy n)) (take l.number-index
    l.numbers)
    ≡ false
