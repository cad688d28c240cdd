use Rattle.std.proofs.Common.{sym, ◌∙◌}
use Rattle.object_store.proofs.Cells.{at}
use Rattle.object_store.proofs.PairRows.{found_in, found_past}
use Rattle.object_store.proofs.pair_map.PairMap.get.Goals as goal

pub returns-in-None : goal.returns-in-None
returns-in-None g c =
    rw (← c.self.view_is) (sym (found_past c.args.first c.args.second c.self.inside.rows.items (rw c.deref.ensures.value at c.in-None.ensures.lookup.3)))

pub returns-in-Some : goal.returns-in-Some
returns-in-Some g c =
    rw (← c.self.view_is) (c.get-in-Some.ensures ∙ sym (found_in c.args.first c.args.second c.self.inside.rows.items c.in-Some.row.now
    (at c.args.first c.self.inside.rows.items c.in-Some.row.now (rw c.deref.ensures.value at c.in-Some.ensures.lookup.3.0) (rw c.deref.ensures.value at c.in-Some.ensures.lookup.1))))
