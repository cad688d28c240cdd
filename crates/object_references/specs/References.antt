-- Which objects values refer to, and values without an object.
use Rattle.std.specs.Prelude.{ℕ, Bool, false, nat_eq, if◌then◌else◌, List, [], ◌∷◌, ◌++◌}
use Rattle.std.specs.List.{list_any}
use Rattle.ocl_values.specs.Shape.{canon}
use Rattle.ocl_values.specs.declared.value.Value.{Value, Row_of-Value, end_of-Value, more_of-Value}
use Rattle.ocl_values.specs.declared.value.Value.TheVariants as V
use Rattle.ocl_values.specs.declared.value.Value.TheVariants.{Null, Invalid, Int, Str, Enum, Obj, Coll'}

abbrev mutual
  -- the objects that a value refers to, at any depth, from left to right
  pub references : Value → List ℕ
  references Null = []
  references Invalid = []
  references (V.Bool b) = []
  references (Int n) = []
  references (Str bytes) = []
  references (Enum e l) = []
  references (Obj o) = o ∷ []
  references (Coll' kind shape row) = row_references row

  pub row_references : {m : _} → Row_of-Value m → List ℕ
  row_references end_of-Value = []
  row_references (more_of-Value v rest) = references v ++ row_references rest

-- those of several values
abbrev pub all_references : List Value → List ℕ
all_references [] = []
all_references (v ∷ vs) = references v ++ all_references vs

abbrev pub refers_to : Value → ℕ → Bool
refers_to v o = list_any (nat_eq o) (references v)

-- a value is the object
abbrev pub is_object : ℕ → Value → Bool
is_object o (Obj p) = nat_eq o p
is_object o _ = false

abbrev mutual
  -- a value without an object: null in its place; from collections, at any depth, it is taken out, and they are canonical again
  pub without_object : ℕ → Value → Value
  without_object o Null = Null
  without_object o Invalid = Invalid
  without_object o (V.Bool b) = V.Bool b
  without_object o (Int n) = Int n
  without_object o (Str bytes) = Str bytes
  without_object o (Enum e l) = Enum e l
  without_object o (Obj p) = if nat_eq o p then Null else Obj p
  without_object o (Coll' kind shape row) = canon kind (row_without o row)

  pub row_without : ℕ → {m : _} → Row_of-Value m → List Value
  row_without o end_of-Value = []
  row_without o (more_of-Value v rest) = if is_object o v then row_without o rest else without_object o v ∷ row_without o rest

-- the same of a list: those of its values that are not the object, each without it
abbrev pub all_without : ℕ → List Value → List Value
all_without o [] = []
all_without o (v ∷ vs) = if is_object o v then all_without o vs else without_object o v ∷ all_without o vs
