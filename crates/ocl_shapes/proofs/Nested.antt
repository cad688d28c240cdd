-- A collection has levels, and elements.
use Rattle.std.proofs.Common.{◌≡◌, ◌<◌, true, false, refl, arith}
use Rattle.ocl_values.specs.declared.value.Kind.{Kind}
use Rattle.class_model.specs.declared.types.OclType.{OclType, more_of-OclType}
use Rattle.class_model.specs.declared.types.OclType.TheVariants as T
use Rattle.ocl_rules.specs.Forms.{levels}
use Rattle.ocl_scope.specs.Calls.{is_collection}
use Rattle.ocl_shapes.specs.Sources.{element_or_itself}

none_nested : (t : OclType) → false ≡ true → 0 < levels t
none_nested t e = absurd (cc)

pub nested : (t : OclType) → is_collection t ≡ true → 0 < levels t
nested (T.Coll' k shape (more_of-OclType element rest)) e = omega arith
nested T.Any e = none_nested T.Any e
nested T.Void e = none_nested T.Void e
nested T.Bool e = none_nested T.Bool e
nested T.Int e = none_nested T.Int e
nested T.Str e = none_nested T.Str e
nested (T.Enum n) e = none_nested (T.Enum n) e
nested (T.Class n) e = none_nested (T.Class n) e

pub element_of_coll : (k : Kind) (t : OclType) → element_or_itself (T.Coll k t) ≡ t
unfolding Rattle.class_model.specs.declared.types.OclType.TheBlock.hidden-the_row-OclType-0 denote.Hole.Carrier.hidden
element_of_coll k t = refl
