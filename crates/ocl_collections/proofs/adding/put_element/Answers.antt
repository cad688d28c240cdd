use Rattle.std.proofs.Common.{◌∙◌, sym}
use Rattle.ocl_collections.proofs.Collected.{added, none_added}
use Rattle.ocl_collections.proofs.adding.put_element.Goals as goal

pub returns-then-is_unfit : goal.returns-then-is_unfit
returns-then-is_unfit c = none_added c.args.kind c.args.items.items c.args.x.now (sym c.is_unfit.ensures ∙ c.if-is_unfit.true)

pub returns : goal.returns
returns c =
    c.collection.ensures
    ∙ added c.args.kind c.args.items.items c.args.x.now _ c.requires.source c.requires.element (sym c.is_unfit.ensures ∙ c.if-is_unfit.false)
    c.in_ok-with_element_put.ensures
