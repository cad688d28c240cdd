-- The source of an operation of collections.
use Rattle.std.specs.Prelude.{[], ◌∷◌}
use Rattle.ocl_values.specs.Shape.{canon}
use Rattle.ocl_values.specs.declared.value.Kind.TheVariants.{Set}
use Rattle.ocl_values.specs.declared.value.Value.{Value}
use Rattle.ocl_values.specs.declared.value.Value.TheVariants as V
use Rattle.ocl_values.specs.declared.value.Value.TheVariants.{Null, Invalid, Int, Str, Enum, Obj, Coll'}

-- a collection is itself, null is the empty Set, and any other value but invalid is the Set of it
abbrev pub as_source : Value → Value
as_source Null = canon Set []
as_source Invalid = Invalid
as_source (V.Bool b) = canon Set (V.Bool b ∷ [])
as_source (Int n) = canon Set (Int n ∷ [])
as_source (Str bytes) = canon Set (Str bytes ∷ [])
as_source (Enum e l) = canon Set (Enum e l ∷ [])
as_source (Obj o) = canon Set (Obj o ∷ [])
as_source (Coll' kind shape row) = Coll' kind shape row
