-- The ends of associations.
use Rattle.class_model.specs.declared.numbers.End.{End}
use Rattle.class_model.specs.declared.numbers.End.TheVariants.{First, Second}
use Rattle.class_model.specs.declared.object_model.Association.{Association}
use Rattle.class_model.specs.declared.object_model.AssociationEnd.{AssociationEnd}

-- the other end
abbrev pub opposite : End → End
opposite First = Second
opposite Second = First

-- what an association has at an end
abbrev pub end_of : Association → End → AssociationEnd
end_of a First = a.first
end_of a Second = a.second
