use Rattle.std.proofs.Common.{◌∙◌, ap, take, drop, arith}
use Rattle.ocl_collections.proofs.Stays.{part_is}
use Rattle.ocl_collections.proofs.positions.copy_part.Goals as goal

pub returns : goal.returns
returns c = c.collection.ensures ∙ part_is c.args.kind c.args.items.now _ c.args.m c.args.n c.requires.source c.requires.places
    (c.in_ok-copied.ensures ∙ ap (λ k. take k (drop c.args.n c.args.items.now)) (omega arith))
