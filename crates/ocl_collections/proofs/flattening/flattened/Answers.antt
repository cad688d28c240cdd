use Rattle.std.proofs.Common.{◌∙◌, ◌++◌, ap}
use Rattle.ocl_values.specs.Shape.{canonical}
use Rattle.ocl_collections.specs.Flattening.{all_leaves}
use Rattle.ocl_collections.proofs.Moved.{flattened_is}
use Rattle.ocl_collections.proofs.flattening.flattened.Goals as goal

pub returns : goal.returns
returns c =
    c.collection.ensures
    ∙ flattened_is c.args.kind c.args.items.now _ c.requires
    (c.in_ok-canonical.ensures
    ∙ ap (canonical c.args.kind) (c.in_ok-append_all_leaves.ensures ∙ ap (λ l. l ++ all_leaves c.args.items.now) c.new-out.ensures.items))
