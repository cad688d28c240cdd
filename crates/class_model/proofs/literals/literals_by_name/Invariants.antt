use Rattle.std.proofs.Common.{◌≡◌, ◌<◌, ℕ, List, length, get_or}
use Rattle.std.specs.HashMap.{HashMap}
use Rattle.class_model.specs.declared.object_model.Enumeration.{Enumeration}
use Rattle.class_model.specs.Indexes.{IsLiteralTable}
use Rattle.class_model.proofs.OnlyLiterals.{AreTablesTo}
use Rattle.class_model.proofs.literals.literals_by_name.Given as goal

abbrev pub invariant-enums : goal.invariant-enums
invariant-enums l = AreTablesTo l.enums l.tables.items l.enumeration-index
