use Rattle.std.proofs.Common.{◌∙◌, sym}
use Rattle.ocl_collections.proofs.Stays.{reverse_is}
use Rattle.ocl_collections.proofs.positions.reversed.Goals as goal

pub returns : goal.returns
returns c =
    c.collection.ensures ∙ reverse_is c.args.kind c.args.items.items _ c.requires (sym c.has_places.ensures ∙ c.if-not-has_places.false) c.reverse.ensures.items
