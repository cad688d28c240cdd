use Rattle.std.proofs.Common.{◌≡◌, ℕ, List, take}
use Rattle.std.specs.HashMap.{get_by_text}
use Rattle.class_model.specs.Features.{literals_in}
use Rattle.class_model.specs.Indexes.{one_or_several}
use Rattle.class_model.proofs.literals.only_literals.Given as goal

abbrev pub invariant-enums : goal.invariant-enums
invariant-enums l = (t : List ℕ) → get_by_text l.map t ≡ one_or_several (literals_in (take l.i l.enums) t)
