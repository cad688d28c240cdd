-- An argument as an operation takes it; any other value, null included, makes the result invalid.
use Rattle.std.specs.Prelude.{List, ℤ}
use Rattle.ocl_values.specs.declared.value.Kind.{Kind}
use Rattle.ocl_values.specs.declared.value.Value.{Value, items-the_row-Value}
use Rattle.ocl_values.specs.declared.value.Value.TheVariants.{Invalid, Int, Coll'}

abbrev pub with_integer : Value → (ℤ → Value) → Value
with_integer (Int n) f = f n
with_integer _ f = Invalid

abbrev pub with_collection : Value → (Kind → List Value → Value) → Value
with_collection (Coll' kind shape row) f = f kind (items-the_row-Value _ row)
with_collection _ f = Invalid
