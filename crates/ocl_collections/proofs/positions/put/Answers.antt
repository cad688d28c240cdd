use Rattle.std.proofs.Common.{◌∙◌, sym}
use Rattle.ocl_collections.proofs.Stays.{put_there, put_unfit, put_new}
use Rattle.ocl_collections.proofs.positions.put.Goals as goal

pub returns-then-holds : goal.returns-then-holds
returns-then-holds c =
    c.collection.ensures
    ∙ put_there c.args.kind c.args.n c.args.items.now _ c.args.x.now c.requires.source (sym c.holds.ensures ∙ c.if-holds.true) c.in_ok-copied.ensures

pub returns-then-is_unfit : goal.returns-then-is_unfit
returns-then-is_unfit c =
    put_unfit c.args.kind c.args.n c.args.items.now c.args.x.now (sym c.holds.ensures ∙ c.if-holds.false) (sym c.is_unfit.ensures ∙ c.if-is_unfit.true)

pub returns : goal.returns
returns c =
    c.collection-2.ensures
    ∙ put_new c.args.kind c.args.n c.args.items.now _ c.args.x.now c.requires.source c.requires.element c.requires.places
    (sym c.holds.ensures ∙ c.if-holds.false) (sym c.is_unfit.ensures ∙ c.if-is_unfit.false) c.in_ok-insert_at.ensures
