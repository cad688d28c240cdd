-- How a model is indexed, so that what is asked of it is found at once.
use Rattle.std.specs.Prelude.{◌≡◌, ◌<◌, ◌||◌, ℕ, Bool, false, nat_eq, nat_lt, if◌then◌else◌, List, [], ◌∷◌, fold, length, Option, Some, None, slice_index_or}
use Rattle.std.specs.HashMap.{HashMap, get_by_text}
use Rattle.std.specs.Option.{option_and_then}
use Rattle.std.specs.declared.string.String.{String}
use Rattle.class_rules.specs.Ancestors as rows
use Rattle.class_rules.specs.Numbering.{is_among}
use Rattle.class_model.specs.declared.class_index.ClassIndex.{ClassIndex}
use Rattle.class_model.specs.declared.object_model.Enumeration.{Enumeration}
use Rattle.class_model.specs.declared.object_model.ObjectModel.{ObjectModel}
use Rattle.class_model.specs.declared.object_model.Operation.{Operation}
use Rattle.class_model.specs.Inheritance as up
use Rattle.class_model.specs.Features as has

-- the flag at a place, and none past the end
abbrev pub flag_in : List Bool → ℕ → Bool
flag_in flags i = slice_index_or flags i false

abbrev pub flag : List (List Bool) → ℕ → ℕ → Bool
flag table c d = flag_in (slice_index_or table c []) d

-- whether a class is another, or a table says that it inherits from it
abbrev pub above : List (List Bool) → ℕ → ℕ → Bool
above table c d = nat_eq d c || flag table c d

-- the table tells the ancestors of each class
abbrev pub IsTable : List (List ℕ) → List (List Bool) → Type 0
IsTable parents table = (c d : ℕ) → above table c d ≡ is_among (rows.ancestors parents c) d

-- of two numbers the one with the greater key, else the first
abbrev pub greater_by : (ℕ → ℕ) → Option ℕ → ℕ → ℕ
greater_by key None o = o
greater_by key (Some b) o = if nat_lt (key b) (key o) then o else b

-- of some numbers the first one with the greatest key
abbrev pub greatest_by : (ℕ → ℕ) → List ℕ → Option ℕ
greatest_by key os = fold (λ best o. Some (greater_by key best o)) None os

-- of some declarations the first one whose class has the greatest number
abbrev pub latest : List Operation → List ℕ → Option ℕ
latest ops os = greatest_by (has.class_at ops) os

-- what a class has, by number and by name
pub record IsIndexOf (m : ObjectModel) (c : ℕ) (index : ClassIndex) : Type 0 where
  pub ancestors : index.ancestors ≡ up.ancestors m c
  pub attrs : index.attrs ≡ has.attrs m c
  pub derived_attrs : index.derived ≡ has.derived_attrs m c
  pub ops : index.ops ≡ has.ops m c
  pub attr : (t : List ℕ) → get_by_text index.attrs_by_name t ≡ has.attr m c t
  pub derived : (t : List ℕ) → get_by_text index.derived_by_name t ≡ has.derived m c t
  pub role : (t : List ℕ) → get_by_text index.roles_by_name t ≡ has.role m c t
  pub operation : (t : List ℕ) → get_by_text index.ops_by_name t ≡ has.operation m c t

-- each class by number
abbrev pub AreIndexes : ObjectModel → List ClassIndex → Type 0
AreIndexes m indexes = (length indexes ≡ length m.classes) × ((c : ℕ) (d : ClassIndex) → c < length m.classes → IsIndexOf m c (slice_index_or indexes c d))

-- the literals of an enumeration by name
abbrev pub IsLiteralTable : {A S : Type 0} → Enumeration → HashMap (String A) ℕ S → Type 0
IsLiteralTable e table = (t : List ℕ) → get_by_text table t ≡ has.literal_in e t

abbrev pub AreLiteralTables : {A S : Type 0} → List Enumeration → List (HashMap (String A) ℕ S) → Type 0
AreLiteralTables {A} {S} enums tables =
    (length tables ≡ length enums)
    × ((i : ℕ) (e : Enumeration) (d : HashMap (String A) ℕ S) → i < length enums → IsLiteralTable (slice_index_or enums i e) (slice_index_or tables i d))

-- the one element of a list, or that there are several
abbrev pub one_or_several : {A : Type 0} → List A → Option (Option A)
one_or_several [] = None
one_or_several (x ∷ []) = Some (Some x)
one_or_several (x ∷ y ∷ rest) = Some None

-- the same with one element more, if there is one
abbrev pub one_more : {A : Type 0} → Option (Option A) → Option A → Option (Option A)
one_more found None = found
one_more None (Some x) = Some (Some x)
one_more (Some found) (Some x) = Some None
