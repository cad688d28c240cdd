-- The leaves of a collection are those of its elements.
use Rattle.std.proofs.Common.{◌≡◌, ◌++◌, List, ap, refl, ◌∙◌}
use Rattle.ocl_values.specs.declared.value.Kind.{Kind}
use Rattle.ocl_values.specs.declared.value.Value.{Value, Row_of-Value, end_of-Value, more_of-Value, items-the_row-Value, items_hidden-the_row-Value-0}
use Rattle.ocl_values.specs.declared.value.Value.TheVariants.{Coll}
use Rattle.ocl_values.proofs.Rows.{row_of}
use Rattle.ocl_collections.specs.Flattening.{leaves, row_leaves, all_leaves}

row_is : (n : _) (row : Row_of-Value n) → row_leaves row ≡ all_leaves (items-the_row-Value n row)
row_is n end_of-Value = refl
row_is n (more_of-Value v rest) = ap (λ l. leaves v ++ l) (row_is _ rest)

pub leaves_Coll : (kind : Kind) (all : List Value) → leaves (Coll kind all) ≡ all_leaves all
leaves_Coll kind all =
    let row = row_of (Coll kind all) in
    row_is row.0 row.1 ∙ ap all_leaves (items_hidden-the_row-Value-0 all)
