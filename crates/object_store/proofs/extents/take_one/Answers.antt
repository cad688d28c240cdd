use Rattle.std.specs.BTreeMap.{is_at}
use Rattle.object_state.specs.State.{link_cmp}
use Rattle.object_state.proofs.Back.{link_total}
use Rattle.object_state.proofs.Keyed.{sorted_remove}
use Rattle.object_store.proofs.Marked.{mark_taken}
use Rattle.object_store.proofs.extents.take_one.Goals as goal

pub returns-clause-ordered : goal.returns-clause-ordered
returns-clause-ordered c =
    rw c.remove.ensures.map (sorted_remove link_total (is_at (link_cmp (c.args.class, c.args.object))) c.args.extents.now c.requires)

pub returns-clause-taken : goal.returns-clause-taken
returns-clause-taken c = rw c.remove.ensures.map (mark_taken c.args.extents.now (c.args.class, c.args.object) c.requires)
