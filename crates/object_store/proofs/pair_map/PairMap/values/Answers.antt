use Rattle.std.proofs.Common.{sym, ◌∙◌}
use Rattle.object_store.proofs.Cells.{at}
use Rattle.object_store.proofs.Changed.{if_ok}
use Rattle.object_store.proofs.PairRows.{no_values, values_in}
use Rattle.object_store.proofs.pair_map.PairMap.values.Goals as goal

pub returns-in-None : goal.returns-in-None
returns-in-None g c =
    rw (← c.self.view_is) (c.new.ensures.items ∙ sym (no_values c.args.first c.self.inside.rows.items (rw c.deref.ensures.value at c.in-None.ensures.lookup.3)))

pub returns-in-Some : goal.returns-in-Some
returns-in-Some g c =
    rw (← c.self.view_is) (if_ok c.values.result (λ v e. e ∙ sym (values_in c.args.first c.self.inside.rows.items c.in-Some.row.now
    (at c.args.first c.self.inside.rows.items c.in-Some.row.now (rw c.deref.ensures.value at c.in-Some.ensures.lookup.3.0) (rw c.deref.ensures.value at c.in-Some.ensures.lookup.1)))) c.values.ensures)
