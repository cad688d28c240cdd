use Rattle.std.proofs.Common.{◌≡◌, ℕ, List, map, take}
use Rattle.std.specs.List.{flat_map}
use Rattle.class_rules.specs.Groups.{listed}
use Rattle.class_rules.specs.Operations.{ops_named}
use Rattle.class_rules.proofs.clash.ops_by_name.Given as goal

abbrev pub invariant-classes : goal.invariant-classes
invariant-classes l = (t : List ℕ) → map (λ op. op.now) (listed l.groups t) ≡ flat_map (λ c. ops_named t c.now.ops) (take l.class-index l.classes)
