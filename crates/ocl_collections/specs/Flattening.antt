-- A collection whose inner collections, at any depth, are replaced by their elements.
use Rattle.std.specs.Prelude.{List, [], ◌∷◌, ◌++◌}
use Rattle.ocl_values.specs.Shape.{canon}
use Rattle.ocl_values.specs.declared.value.Kind.{Kind}
use Rattle.ocl_values.specs.declared.value.Value.{Value, Row_of-Value, end_of-Value, more_of-Value}
use Rattle.ocl_values.specs.declared.value.Value.TheVariants as V
use Rattle.ocl_values.specs.declared.value.Value.TheVariants.{Null, Invalid, Int, Str, Enum, Obj, Coll'}

abbrev mutual
  -- a value that is no collection, or the values within a collection, in walk order
  pub leaves : Value → List Value
  leaves Null = Null ∷ []
  leaves Invalid = Invalid ∷ []
  leaves (V.Bool b) = V.Bool b ∷ []
  leaves (Int n) = Int n ∷ []
  leaves (Str bytes) = Str bytes ∷ []
  leaves (Enum e l) = Enum e l ∷ []
  leaves (Obj o) = Obj o ∷ []
  leaves (Coll' kind shape row) = row_leaves row

  pub row_leaves : {m : _} → Row_of-Value m → List Value
  row_leaves end_of-Value = []
  row_leaves (more_of-Value v rest) = leaves v ++ row_leaves rest

abbrev pub all_leaves : List Value → List Value
all_leaves [] = []
all_leaves (v ∷ vs) = leaves v ++ all_leaves vs

abbrev pub flattened : Kind → List Value → Value
flattened kind xs = canon kind (all_leaves xs)
