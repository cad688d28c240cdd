use Rattle.std.proofs.Common.{◌≡◌, ◌∙◌, subst, sym, ap, IfOk}
use Rattle.ocl_values.proofs.Elements.{each_well}
use Rattle.ocl_collections.specs.Operations.{of_none}
use Rattle.ocl_collections.proofs.Moved.{as_operation}
use Rattle.ocl_collections.proofs.owned.owned_of_none.Goals as goal

pub flatten-requires : goal.flatten-requires
flatten-requires c = each_well c.args.kind c.args.items.items c.requires

pub returns-in-Flatten : goal.returns-in-Flatten
returns-in-Flatten c =
    subst (λ w. IfOk c.flatten.result (λ v. v ≡ w))
    (as_operation c.args.kind c.args.items.items c.requires ∙ sym (ap (λ op. of_none op c.args.kind c.args.items.items) c.in-Flatten.is))
    c.flatten.ensures.value
