-- The elements of Sets and Bags are in order, and what stands in a well-made collection.
use Rattle.std.proofs.Common.{◌≡◌, ◌∙◌, List, ap, subst, sym, IsSorted}
use Rattle.use_orders.proofs.Bags.{sorted_bag}
use Rattle.use_orders.proofs.Merged.{sorted_set}
use Rattle.ocl_values.specs.Order.{value_cmp}
use Rattle.ocl_values.specs.declared.value.Kind.{Kind}
use Rattle.ocl_values.specs.declared.value.Kind.TheVariants.{Set, Bag}
use Rattle.ocl_values.specs.declared.value.Value.{Value}
use Rattle.ocl_values.specs.declared.value.Value.{items_hidden-the_row-Value-0}
use Rattle.ocl_values.specs.declared.value.Value.TheVariants.{Coll}
use Rattle.ocl_collections.specs.Arguments.{with_collection}
use Rattle.ocl_values.specs.Shape.{canonical, IsWellMade}
use Rattle.ocl_values.proofs.Exact.{value_total}
use Rattle.ocl_values.proofs.Rows.{row_of_tidy}

pub kept_of : (kind : Kind) (all : List Value) → IsWellMade (Coll kind all) → canonical kind all ≡ all
kept_of kind all well = (row_of_tidy kind all well.tidy).kept

pub inner : (v : Value) (kind : Kind) (all l : List Value) → IsWellMade v → v ≡ Coll kind all → l ≡ all → IsWellMade (Coll kind l)
inner v kind all l well is it = subst (λ m. IsWellMade (Coll kind m)) (sym it) (subst IsWellMade is well)

pub set_up : (kind : Kind) (all : List Value) → IsWellMade (Coll kind all) → kind ≡ Set → IsSorted value_cmp all
set_up kind all well at = sorted_set value_total all (subst (λ k. canonical k all ≡ all) at (kept_of kind all well))

pub bag_up : (kind : Kind) (all : List Value) → IsWellMade (Coll kind all) → kind ≡ Bag → IsSorted value_cmp all
bag_up kind all well at = sorted_bag value_cmp value_total all (subst (λ k. canonical k all ≡ all) at (kept_of kind all well))

-- an operation of what a match found
pub found : (v : Value) (kind : Kind) (all l : List Value) (f : Kind → List Value → Value) → v ≡ Coll kind all → l ≡ all → f kind l ≡ with_collection v f
found v kind all l f is it = ap (f kind) it ∙ sym (ap (λ w. with_collection w f) is ∙ ap (f kind) (items_hidden-the_row-Value-0 all))
