use Rattle.std.proofs.Common.{◌≡◌, subst, IfOk}
use Rattle.ocl_collections.specs.Operations.{of_pair}
use Rattle.ocl_collections.proofs.Rising.{inner, found}
use Rattle.ocl_collections.proofs.operations.with_collection.Goals as goal

pub of_pair-requires-clause-second : goal.of_pair-requires-clause-second
of_pair-requires-clause-second c =
    inner c.args.argument.now c.in-Coll.other c.in-Coll.others c.as_slice.result.now c.requires.second c.in-Coll.is c.as_slice.ensures

pub returns-in-Coll : goal.returns-in-Coll
returns-in-Coll c =
    subst (λ w. IfOk c.of_pair.result (λ v. v ≡ w))
    (found c.args.argument.now c.in-Coll.other c.in-Coll.others c.as_slice.result.now
    (of_pair c.args.op c.args.kind c.args.items.now) c.in-Coll.is c.as_slice.ensures)
    c.of_pair.ensures
