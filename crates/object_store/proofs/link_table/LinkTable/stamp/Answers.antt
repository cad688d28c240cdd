use Rattle.std.proofs.Common.{◌∙◌, ap}
use Rattle.object_store.specs.Ends.{row_at}
use Rattle.object_store.specs.Indexes.{stamp_at, stamp_in}
use Rattle.object_store.proofs.Links.{stamp_found}
use Rattle.object_store.proofs.link_table.LinkTable.stamp.Goals as goal

pub returns : goal.returns
returns c =
    c.copied.ensures ∙ c.get.ensures.value
    ∙ stamp_found c.self.inside.links (stamp_at c.self.inside.stamps) (row_at c.self.inside.seconds) (row_at c.self.inside.firsts) c.self.invariant.0
    c.args.assoc
    c.args.first c.args.second
    ∙ ap (λ l. stamp_in l c.args.assoc c.args.first c.args.second) c.self.view_is
