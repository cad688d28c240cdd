-- Values without an object are well made.
use Rattle.std.proofs.Common.{ℕ, nat_eq, if◌then◌else◌, Bool, true, false, List, [], ◌∷◌, All, lit≤}
use Rattle.std.specs.List.{AllByRecursion}
use Rattle.std.proofs.lemmas.List.Elements.{All-from_recursion}
use Rattle.ocl_values.specs.declared.value.Value.{Value, Row_of-Value, end_of-Value, more_of-Value}
use Rattle.ocl_values.specs.declared.value.Value.TheVariants as V
use Rattle.ocl_values.specs.declared.value.Value.TheVariants.{Null, Invalid, Int, Str, Enum, Obj, Coll'}
use Rattle.ocl_values.specs.Shape.{IsWellMade}
use Rattle.ocl_collections.proofs.Parts.{well_canon}
use Rattle.object_references.specs.References.{all_without, is_object, row_without, without_object}

one_object : (b : Bool) (o : ℕ) → IsWellMade (if b then Null else Obj o)
one_object true o = record { tidy = tt; levels = lit≤ tt }
one_object false o = record { tidy = tt; levels = lit≤ tt }

taken_out : (b : Bool) (v : Value) (vs : List Value) → IsWellMade v → AllByRecursion IsWellMade vs → AllByRecursion IsWellMade (if b then vs else v ∷ vs)
taken_out true v vs one rest = rest
taken_out false v vs one rest = (one, rest)

mutual
  pub well : (o : ℕ) (v : Value) → IsWellMade (without_object o v)
  well o Null = record { tidy = tt; levels = lit≤ tt }
  well o Invalid = record { tidy = tt; levels = lit≤ tt }
  well o (V.Bool b) = record { tidy = tt; levels = lit≤ tt }
  well o (Int n) = record { tidy = tt; levels = lit≤ tt }
  well o (Str bytes) = record { tidy = tt; levels = lit≤ tt }
  well o (Enum e l) = record { tidy = tt; levels = lit≤ tt }
  well o (Obj p) = one_object (nat_eq o p) p
  well o (Coll' kind shape row) = well_canon kind (row_without o row) (row_well o row)

  row_well : (o : ℕ) {m : _} (row : Row_of-Value m) → AllByRecursion IsWellMade (row_without o row)
  row_well o end_of-Value = tt
  row_well o (more_of-Value v rest) = taken_out (is_object o v) (without_object o v) (row_without o rest) (well o v) (row_well o rest)

each_well : (o : ℕ) (vs : List Value) → AllByRecursion IsWellMade (all_without o vs)
each_well o [] = tt
each_well o (v ∷ vs) = taken_out (is_object o v) (without_object o v) (all_without o vs) (well o v) (each_well o vs)

pub all_well : (o : ℕ) (vs : List Value) → All IsWellMade (all_without o vs)
all_well o vs = All-from_recursion IsWellMade (all_without o vs) (each_well o vs)
