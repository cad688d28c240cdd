use Rattle.std.proofs.Common.{◌≡◌, ℕ, List, take}
use Rattle.class_rules.specs.Features.{roles_of_class}
use Rattle.class_rules.specs.Groups.{listed}
use Rattle.class_rules.proofs.index.roles_by_class.Given as goal

abbrev pub invariant-assocs : goal.invariant-assocs
invariant-assocs l = (t : List ℕ) → listed l.roles t ≡ roles_of_class (take l.assoc-index l.assocs) t
