-- What stands before a dot or an arrow: a value, or the elements of a collection.
use Rattle.std.specs.Prelude.{ℕ, ◌&&◌, not, Bool, if◌then◌else◌, List, is_some}
use Rattle.ocl_values.specs.declared.value.Kind.TheVariants.{Set}
use Rattle.class_model.specs.declared.types.OclType.{OclType, more_of-OclType}
use Rattle.class_model.specs.declared.types.OclType.TheVariants as T
use Rattle.ocl_core.specs.declared.expression.Expr.TheVariants as E
use Rattle.ocl_rules.specs.CollectionOperations.{kind_or}
use Rattle.ocl_rules.specs.declared.typed.Typed.{Typed}
use Rattle.ocl_scope.specs.Calls.{definedness, is_collection}
use Rattle.ocl_shapes.specs.declared.elements.Elements.{Elements}

-- the type of a collection's elements; a value that is no collection is the one element
abbrev pub element_or_itself : OclType → OclType
element_or_itself (T.Coll' k shape (more_of-OclType element rest)) = element
element_or_itself T.Any = T.Any
element_or_itself T.Void = T.Void
element_or_itself T.Bool = T.Bool
element_or_itself T.Int = T.Int
element_or_itself T.Str = T.Str
element_or_itself (T.Enum e) = T.Enum e
element_or_itself (T.Class c) = T.Class c

-- before an arrow a value that is no collection is a set of it
abbrev pub as_set : Typed → Typed
as_set x = if is_collection x.of_type then x else record { expr = E.ToSet x.expr; of_type = x.of_type }

abbrev pub elements_of : Typed → Elements
elements_of x = record { kind = kind_or Set x.of_type; element = element_or_itself x.of_type; source = as_set x }

-- whether a call behind a dot is one of the elements of a collection: tests of definedness are of the collection itself
abbrev pub asks_elements : OclType → List ℕ → Bool
asks_elements t name = is_collection t && not (is_some (definedness name))
