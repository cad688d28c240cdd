-- What is said of a row of values, said of the list of them.
use Rattle.std.proofs.Common.{◌≡◌, ℕ, if◌then◌else◌, List, ◌∷◌, ◌++◌, ap, refl, ◌∙◌}
use Rattle.ocl_values.specs.declared.value.Kind.{Kind}
use Rattle.ocl_values.specs.declared.value.Value.{Value, Row_of-Value, end_of-Value, more_of-Value, items-the_row-Value, items_hidden-the_row-Value-0}
use Rattle.ocl_values.specs.declared.value.Value.TheVariants.{Coll}
use Rattle.ocl_values.specs.Shape.{canon}
use Rattle.ocl_values.proofs.Rows.{row_of}
use Rattle.object_references.specs.References.{all_references, all_without, is_object, references, row_references, row_without, without_object}

referenced : (n : _) (row : Row_of-Value n) → row_references row ≡ all_references (items-the_row-Value n row)
referenced n end_of-Value = refl
referenced n (more_of-Value v rest) = ap (λ os. references v ++ os) (referenced _ rest)

pub references_Coll : (kind : Kind) (all : List Value) → references (Coll kind all) ≡ all_references all
references_Coll kind all =
    let row = row_of (Coll kind all) in
    referenced row.0 row.1 ∙ ap all_references (items_hidden-the_row-Value-0 all)

left : (o : ℕ) (n : _) (row : Row_of-Value n) → row_without o row ≡ all_without o (items-the_row-Value n row)
left o n end_of-Value = refl
left o n (more_of-Value v rest) = ap (λ vs. if is_object o v then vs else without_object o v ∷ vs) (left o _ rest)

pub without_Coll : (o : ℕ) (kind : Kind) (all : List Value) → without_object o (Coll kind all) ≡ canon kind (all_without o all)
without_Coll o kind all =
    let row = row_of (Coll kind all) in
    ap (canon kind) (left o row.0 row.1 ∙ ap (all_without o) (items_hidden-the_row-Value-0 all))
