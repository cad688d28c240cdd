-- The value of a navigation: what stands at an end of an association (OCL 2.3.1, 7.5.3).
use Rattle.std.specs.Prelude.{ℕ, nat_lt, Bool, if◌then◌else◌, List, [], ◌∷◌, length}
use Rattle.ocl_values.specs.Shape.{canon}
use Rattle.ocl_values.specs.declared.value.Kind.{Kind}
use Rattle.ocl_values.specs.declared.value.Kind.TheVariants.{Set, OrderedSet}
use Rattle.ocl_values.specs.declared.value.Value.{Value}
use Rattle.ocl_values.specs.declared.value.Value.TheVariants.{Null, Invalid}
use Rattle.class_model.specs.Multiplicities.{greatest_is_one}
use Rattle.class_model.specs.Parts.{is_ordered, multiplicity}
use Rattle.class_model.specs.declared.numbers.End.{End}
use Rattle.class_model.specs.declared.object_model.ObjectModel.{ObjectModel}

-- the one object that may stand there, or null for none; more than one are invalid
abbrev pub at_most_one : List Value → Value
at_most_one [] = Null
at_most_one (v ∷ []) = v
at_most_one (v ∷ w ∷ rest) = Invalid

abbrev pub kind_at : ObjectModel → ℕ → End → Kind
kind_at m a e = if is_ordered m a e then OrderedSet else Set

-- the objects at an end; of what is no association of the model the value is invalid
abbrev pub navigated : ObjectModel → ℕ → End → List Value → Value
navigated m a e vs =
    if nat_lt a (length m.assocs)
    then (if greatest_is_one (multiplicity m a e) then at_most_one vs else canon (kind_at m a e) vs)
    else Invalid
