-- What the elements of a well-made collection are.
use Rattle.std.proofs.Common.{◌≡◌, ◌≤◌, ◌||◌, Bool, true, false, All, List, [], ◌∷◌, refl, true≢false, arith}
use Rattle.std.specs.List.{AllByRecursion}
use Rattle.std.proofs.lemmas.List.Elements.{All-from_recursion}
use Rattle.ocl_values.specs.declared.value.Kind.{Kind}
use Rattle.ocl_values.specs.declared.value.Value.{Value, items-the_row-Value}
use Rattle.ocl_values.specs.declared.value.Value.TheVariants as V
use Rattle.ocl_values.specs.declared.value.Value.TheVariants.{Null, Invalid, Int, Str, Enum, Obj, Coll, Coll'}
use Rattle.ocl_values.specs.Logic.{is_invalid}
use Rattle.ocl_values.specs.Shape.{levels_of, most_levels, some_invalid, elements, IsTidy, IsWellMade}
use Rattle.ocl_values.proofs.Rows.{levels_of-Coll, row_of_tidy, levels_row, row_tidy}

-- what a collection may hold
abbrev pub IsPart : Value → Type 0
IsPart v = IsTidy v × (is_invalid v ≡ false) × (levels_of v ≤ 255)

pub neither : (a b : Bool) → (a || b) ≡ false → (a ≡ false) × (b ≡ false)
neither true b e = absurd (true≢false e)
neither false b e = (refl, e)

pub parts_in : (vs : List Value) → AllByRecursion IsTidy vs → some_invalid vs ≡ false → most_levels vs ≤ 255 → AllByRecursion IsPart vs
parts_in [] all none low = tt
parts_in (v ∷ vs) all none low =
    let split = neither (is_invalid v) (some_invalid vs) none in
    ((all.0, split.0, omega arith), parts_in vs all.1 split.1 (omega arith))

pub parts_of : (kind : Kind) (all : List Value) → IsWellMade (Coll kind all) → AllByRecursion IsPart all
parts_of kind all well =
    let row = row_of_tidy kind all well.tidy in
    let levels = levels_of-Coll kind all in
    let most = well.levels in
    parts_in all row.each row.none (omega (arith, levels, most))

pub part_well : (v : Value) → IsPart v → IsWellMade v
part_well v part =
    let low = part.2 in
    record { tidy = part.0; levels = omega (arith, low) }

pub parts_are_well : (vs : List Value) → AllByRecursion IsPart vs → AllByRecursion IsWellMade vs
parts_are_well [] all = tt
parts_are_well (v ∷ vs) all = (part_well v all.0, parts_are_well vs all.1)

pub each_well : (kind : Kind) (all : List Value) → IsWellMade (Coll kind all) → All IsWellMade all
each_well kind all well = All-from_recursion IsWellMade all (parts_are_well all (parts_of kind all well))

pub no_invalid : (kind : Kind) (all : List Value) → IsWellMade (Coll kind all) → some_invalid all ≡ false
no_invalid kind all well = (row_of_tidy kind all well.tidy).none

no_element : All IsWellMade []
no_element = All-from_recursion IsWellMade [] tt

pub elements_well : (v : Value) → IsWellMade v → All IsWellMade (elements v)
elements_well Null well = no_element
elements_well Invalid well = no_element
elements_well (V.Bool b) well = no_element
elements_well (Int n) well = no_element
elements_well (Str bytes) well = no_element
elements_well (Enum e l) well = no_element
elements_well (Obj o) well = no_element
elements_well (Coll' kind shape row) well =
    let all = items-the_row-Value _ row in
    let same = levels_row _ row in
    let low = well.levels in
    All-from_recursion IsWellMade all (parts_are_well all (parts_in all (row_tidy _ row well.tidy.2) well.tidy.1 (omega (arith, same, low))))
