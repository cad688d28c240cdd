-- A model whose indexes are right.
use Rattle.std.specs.Prelude.{◌≡◌, ℕ, List}
use Rattle.std.specs.HashMap.{get_by_text}
use Rattle.class_model.specs.declared.class_model.ClassModel.TheInside.{Inside}
use Rattle.class_model.specs.Features.{assoc_named, class_named, enum_named, literals_in}
use Rattle.class_model.specs.Indexes.{AreIndexes, AreLiteralTables, IsTable, one_or_several}
use Rattle.class_model.specs.InRange.{IsInRange}
use Rattle.class_model.specs.Inheritance.{parents_of}

pub record IsIndexed (m : Inside) : Type 0 where
  pub in_range : IsInRange m.model
  pub table : IsTable (parents_of m.model) m.table
  pub classes : AreIndexes m.model m.classes.items
  pub classes_by_name : (t : List ℕ) → get_by_text m.classes_by_name t ≡ class_named m.model t
  pub enums_by_name : (t : List ℕ) → get_by_text m.enums_by_name t ≡ enum_named m.model t
  pub assocs_by_name : (t : List ℕ) → get_by_text m.assocs_by_name t ≡ assoc_named m.model t
  pub literals : AreLiteralTables m.model.enums m.literals.items
  pub only_literals : (t : List ℕ) → get_by_text m.only_literals t ≡ one_or_several (literals_in m.model.enums t)
