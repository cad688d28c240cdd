use Rattle.std.proofs.Common.{sym, ap, ◌∙◌}
use Rattle.std.specs.BTreeMap.{insert_entry, is_at}
use Rattle.std.specs.Map.{lookup}
use Rattle.object_state.specs.State.{link_cmp}
use Rattle.object_store.proofs.Cells.{at}
use Rattle.object_store.proofs.PairRows.{found_in, put_in}
use Rattle.object_store.proofs.pair_map.PairMap.insert.Goals as goal

pub insert-requires : goal.insert-requires
insert-requires g c =
    let seen = at c.args.first c.grow.new.rows.items c.index_mut.result.now c.in_ok-grow.ensures.there c.index_mut.ensures.value in
    sym (found_in c.args.first c.args.second c.grow.new.rows.items c.index_mut.result.now seen)
    ∙ ap (λ es. lookup (is_at (link_cmp (c.args.first, c.args.second))) es) c.in_ok-grow.ensures.same ∙ rw (← c.self.view_is) at c.requires

pub returns-clause-ok : goal.returns-clause-ok
returns-clause-ok g c =
    let seen = at c.args.first c.grow.new.rows.items c.index_mut.result.now c.in_ok-grow.ensures.there c.index_mut.ensures.value in
    rw (← c.self.view_is, c.in_ok-insert.ensures.ok) (put_in c.args.first c.args.second c.args.value c.grow.new.rows.items c.index_mut.result.now c.in_ok-grow.ensures.there seen
    ∙ ap (λ es. insert_entry link_cmp es (c.args.first, c.args.second) c.args.value) c.in_ok-grow.ensures.same)
