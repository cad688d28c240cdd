-- How values are printed.
use Rattle.std.specs.Prelude.{ℕ, ◌==◌, if◌then◌else◌, List, [], ◌∷◌, ◌++◌, Option, Some, None, codes}
use Rattle.std.specs.Fmt.{decimal, signed_decimal}
use Rattle.std.specs.List.{flat_map, join_with_byte}
use Rattle.ocl_values.specs.Strings.{bool_text}
use Rattle.ocl_values.specs.declared.value.Kind.{Kind}
use Rattle.ocl_values.specs.declared.value.Kind.TheVariants.{Set, OrderedSet, Bag, Sequence}
use Rattle.ocl_values.specs.declared.value.Value.{Value, Row_of-Value, end_of-Value, more_of-Value}
use Rattle.ocl_values.specs.declared.value.Value.TheVariants as V
use Rattle.ocl_values.specs.declared.value.Value.TheVariants.{Null, Invalid, Int, Str, Enum, Obj, Coll'}

abbrev pub kind_name : Kind → List ℕ
kind_name Set = codes "Set"
kind_name OrderedSet = codes "OrderedSet"
kind_name Bag = codes "Bag"
kind_name Sequence = codes "Sequence"

-- a byte of a String: after a backslash where it is a backslash (92) or a quote (39), and by a letter where it is a line feed (10) or a tab (9)
abbrev pub escaped : ℕ → List ℕ
escaped b =
    if b == 92 then 92 ∷ 92 ∷ []
    else (if b == 39 then 92 ∷ 39 ∷ []
    else (if b == 10 then codes "\\n"
    else (if b == 9 then codes "\\t"
    else b ∷ [])))

-- a String between single quotes
abbrev pub quoted : List ℕ → List ℕ
quoted bytes = 39 ∷ flat_map escaped bytes ++ 39 ∷ []

-- an enumeration and a literal of it, or `invalid` where there is no such literal
abbrev pub literal_text : Option (List ℕ × List ℕ) → List ℕ
literal_text (Some names) = names.0 ++ codes "::" ++ names.1
literal_text None = codes "invalid"

-- the name of the object, or its number where it is destroyed
abbrev pub object_text : ℕ → Option (List ℕ) → List ℕ
object_text o (Some name) = name
object_text o None = codes "destroyed(" ++ decimal o ++ codes ")"

abbrev mutual
  -- the text of a value, by the names of live objects and of literals
  pub value_text : (ℕ → Option (List ℕ)) → (ℕ → ℕ → Option (List ℕ × List ℕ)) → Value → List ℕ
  value_text object literal Null = codes "null"
  value_text object literal Invalid = codes "invalid"
  value_text object literal (V.Bool b) = bool_text b
  value_text object literal (Int n) = signed_decimal n
  value_text object literal (Str bytes) = quoted bytes
  value_text object literal (Enum e l) = literal_text (literal e l)
  value_text object literal (Obj o) = object_text o (object o)
  value_text object literal (Coll' kind shape row) = kind_name kind ++ codes "{" ++ join_with_byte 44 (row_texts object literal row) ++ codes "}"

  -- the texts of a collection's elements, which commas (44) part
  pub row_texts : {m : _} → (ℕ → Option (List ℕ)) → (ℕ → ℕ → Option (List ℕ × List ℕ)) → Row_of-Value m → List (List ℕ)
  row_texts object literal end_of-Value = []
  row_texts object literal (more_of-Value v rest) = value_text object literal v ∷ row_texts object literal rest
