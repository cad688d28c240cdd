-- What is visited of a collection.
use Rattle.std.proofs.Common.{◌≡◌, Ok, refl}
use Rattle.use_text.specs.declared.place.Place.{Place}
use Rattle.ocl_values.specs.declared.value.Kind.{Kind}
use Rattle.class_model.specs.declared.types.OclType.{OclType}
use Rattle.class_model.specs.declared.types.OclType.TheVariants as T
use Rattle.soil_types.specs.Statements.{element_by}

pub element_of_coll : (place : Place) (k : Kind) (t : OclType) → element_by place (T.Coll k t) ≡ Ok t
unfolding Rattle.class_model.specs.declared.types.OclType.TheBlock.hidden-the_row-OclType-0 denote.Hole.Carrier.hidden
element_of_coll place k t = refl
