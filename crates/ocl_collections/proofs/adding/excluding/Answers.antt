use Rattle.std.proofs.Common.{◌∙◌, not, ◌∷◌, []}
use Rattle.use_orders.specs.Canon.{has}
use Rattle.ocl_values.specs.Order.{value_cmp}
use Rattle.ocl_collections.proofs.Collected.{some_of}
use Rattle.ocl_collections.proofs.adding.excluding.Goals as goal

pub returns : goal.returns
returns c =
    c.collection.ensures ∙ some_of c.args.kind (λ y. not (has value_cmp (c.args.x.now ∷ []) y)) c.args.items.now _ c.requires c.in_ok-without_element.ensures
