use Rattle.std.proofs.Common.{◌≡◌, false, take}
use Rattle.std.specs.List.{list_any}
use Rattle.class_rules.specs.Ancestors.{parent_numbers}
use Rattle.class_rules.specs.Declaring.{is_disputed}
use Rattle.class_rules.specs.Groups.{listed}
use Rattle.class_rules.proofs.overriding.some_disputed.Given as goal

abbrev pub invariant-ops : goal.invariant-ops
invariant-ops l = list_any (λ op. is_disputed (parent_numbers l.hierarchy) (listed l.groups op.name.text) l.number) (take l.op-index l.ops) ≡ false
