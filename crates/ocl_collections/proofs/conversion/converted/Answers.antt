use Rattle.std.proofs.Common.{◌∙◌}
use Rattle.ocl_collections.proofs.Rising.{kept_of}
use Rattle.ocl_collections.proofs.Stays.{as_kind, into_kind}
use Rattle.ocl_collections.proofs.conversion.converted.Goals as goal

pub returns-then-stay : goal.returns-then-stay
returns-then-stay c =
    c.collection.ensures
    ∙ as_kind c.args.from c.args.to c.args.items.items c.requires
    (c.stay.ensures c.args.items.items c.if-stay.true (kept_of c.args.from c.args.items.items c.requires))

pub returns : goal.returns
returns c = c.collection-2.ensures ∙ into_kind c.args.from c.args.to c.args.items.items _ c.requires c.in_ok-canonical.ensures
