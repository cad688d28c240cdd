use Rattle.std.proofs.Common.{◌≡◌, ℕ, List, take}
use Rattle.class_rules.specs.Declaring.{declaring}
use Rattle.class_rules.specs.Groups.{listed}
use Rattle.class_rules.proofs.overriding.declaring.Given as goal

abbrev pub invariant-numbers : goal.invariant-numbers
invariant-numbers l = (t : List ℕ) → listed l.groups t ≡ declaring l.hierarchy (take l.number-index l.numbers) t
