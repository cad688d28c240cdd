use Rattle.std.specs.Map.{keys_of}
use Rattle.std.proofs.Common.{◌∙◌, ap, map}
use Rattle.ocl_values.specs.declared.value.Value.TheVariants.{Obj}
use Rattle.object_state.specs.declared.objects.Object.{Object}
use Rattle.object_state.specs.Layouts.{is_a}
use Rattle.object_store.specs.Indexes.{Objects, extent_in}
use Rattle.object_store.proofs.Changed.{if_ok}
use Rattle.object_store.proofs.Classed.{class_in_row}
use Rattle.object_store.proofs.object_table.ObjectTable.of_class.Goals as goal

pub returns : goal.returns
returns c =
    if_ok c.objects_of.result (λ v e. e
    ∙ class_in_row (λ (x : Object) k. is_a c.self.inside.layout x.class k) c.self.inside.objects (keys_of c.self.inside.extents)
    c.self.invariant.extents_tied
    c.self.invariant.ordered c.self.invariant.extents_ordered c.args.class Obj
    ∙ ap (λ (t : Objects). map Obj (extent_in t.layout t.objects c.args.class)) c.self.view_is) c.objects_of.ensures
