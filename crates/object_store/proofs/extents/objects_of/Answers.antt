use Rattle.std.proofs.Common.{ap, map, ◌∙◌, ℕ, List}
use Rattle.std.specs.Prelude.{nat_eq}
use Rattle.ocl_values.specs.declared.value.Value.TheVariants.{Obj}
use Rattle.object_store.proofs.Changed.{if_ok}
use Rattle.object_store.proofs.Marked.{row_of_keys}
use Rattle.object_store.proofs.extents.objects_of.Goals as goal

pub returns : goal.returns
returns c =
    if_ok c.values_of.result (λ v e. e ∙ ap (λ (ns : List ℕ). map Obj ns) (c.as_slice.ensures.value ∙ c.in_ok-numbers.ensures)
    ∙ row_of_keys Obj (λ k. nat_eq k.0 c.args.class) c.args.extents.now) c.values_of.ensures
