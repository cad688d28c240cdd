-- A row of values, read as the list of them.
use Rattle.std.proofs.Common.{◌≡◌, ◌+◌, max, List, ap, refl, ◌∙◌, false, sym, subst}
use Rattle.std.specs.List.{AllByRecursion}
use Rattle.ocl_values.specs.declared.value.Kind.{Kind}
use Rattle.ocl_values.specs.declared.value.Value.{Value, Row_of-Value, end_of-Value, more_of-Value, items-the_row-Value, items_hidden-the_row-Value-0}
use Rattle.ocl_values.specs.declared.value.Value.TheVariants.{Coll, Coll'}
use Rattle.ocl_values.specs.Shape.{size_of, row_size, sizes_of, levels_of, row_levels, most_levels, canonical, some_invalid, elements, IsTidy, AreTidy}

sizes_row : (n : _) (row : Row_of-Value n) → row_size row ≡ sizes_of (items-the_row-Value n row)
sizes_row n end_of-Value = refl
sizes_row n (more_of-Value v rest) = ap (λ s. size_of v + s) (sizes_row _ rest)

pub levels_row : (n : _) (row : Row_of-Value n) → row_levels row ≡ most_levels (items-the_row-Value n row)
levels_row n end_of-Value = refl
levels_row n (more_of-Value v rest) = ap (λ s. max (levels_of v) s) (levels_row _ rest)

tidy_row : (n : _) (row : Row_of-Value n) → AllByRecursion IsTidy (items-the_row-Value n row) → AreTidy row
tidy_row n end_of-Value all = tt
tidy_row n (more_of-Value v rest) all = (all.0, tidy_row _ rest all.1)

pub row_tidy : (n : _) (row : Row_of-Value n) → AreTidy row → AllByRecursion IsTidy (items-the_row-Value n row)
row_tidy n end_of-Value all = tt
row_tidy n (more_of-Value v rest) all = (all.0, row_tidy _ rest all.1)

-- the row of a collection
abbrev pub row_of : Value → (n : _) × Row_of-Value n
row_of (Coll' _ _ row) = (_, row)
row_of _ = (_, end_of-Value)

-- the size of a collection, how deep it nests, and its elements

pub size_of-Coll : (kind : Kind) (all : List Value) → size_of (Coll kind all) ≡ 1 + sizes_of all
size_of-Coll kind all =
    let row = row_of (Coll kind all) in
    ap (λ s. 1 + s) (sizes_row row.0 row.1 ∙ ap sizes_of (items_hidden-the_row-Value-0 all))

pub levels_of-Coll : (kind : Kind) (all : List Value) → levels_of (Coll kind all) ≡ 1 + most_levels all
levels_of-Coll kind all =
    let row = row_of (Coll kind all) in
    ap (λ s. 1 + s) (levels_row row.0 row.1 ∙ ap most_levels (items_hidden-the_row-Value-0 all))

pub elements_Coll : (kind : Kind) (all : List Value) → elements (Coll kind all) ≡ all
elements_Coll kind all = items_hidden-the_row-Value-0 all

-- a collection is tidy exactly where its elements are, and are as the kind keeps them

pub record IsRow (kind : Kind) (all : List Value) : Type 0 where
  pub kept : canonical kind all ≡ all
  pub none : some_invalid all ≡ false
  pub each : AllByRecursion IsTidy all

pub tidy_Coll : (kind : Kind) (all : List Value) → IsRow kind all → IsTidy (Coll kind all)
tidy_Coll kind all is =
    let row = row_of (Coll kind all) in
    let same = items_hidden-the_row-Value-0 all in (
      subst (λ l. canonical kind l ≡ l) (sym same) is.kept,
      subst (λ l. some_invalid l ≡ false) (sym same) is.none,
      tidy_row row.0 row.1 (subst (AllByRecursion IsTidy) (sym same) is.each),
    )

pub row_of_tidy : (kind : Kind) (all : List Value) → IsTidy (Coll kind all) → IsRow kind all
row_of_tidy kind all tidy =
    let row = row_of (Coll kind all) in
    let same = items_hidden-the_row-Value-0 all in
    record {
      kept = subst (λ l. canonical kind l ≡ l) same tidy.0;
      none = subst (λ l. some_invalid l ≡ false) same tidy.1;
      each = subst (AllByRecursion IsTidy) same (row_tidy row.0 row.1 tidy.2);
    }
