use Rattle.std.proofs.Common.{◌≡◌, true, is_some, sym, ◌∙◌, arith}
use Rattle.std.specs.BTreeMap.{is_at}
use Rattle.std.specs.Map.{lookup}
use Rattle.object_state.specs.State.{link_cmp}
use Rattle.object_store.specs.Pairs.{pairs}
use Rattle.object_store.proofs.Cells.{at, none_by}
use Rattle.object_store.proofs.PairRows.{found_in, row_there, take_in, take_none}
use Rattle.object_store.proofs.Pages.{set_get}
use Rattle.object_store.proofs.pair_map.PairMap.remove.Goals as goal

pub index_mut-requires : goal.index_mut-requires
index_mut-requires g c =
    let found : is_some (lookup (is_at (link_cmp (c.args.first, c.args.second))) (pairs 0 c.self.inside.rows.items)) ≡ true =
    rw c.self.view_is (sym c.has.ensures ∙ c.if-has.true) in
    let n = row_there c.args.first c.args.second c.self.inside.rows.items found in
    omega (arith, n, c.self.inside.rows.ok)

pub returns-then-has-clause-map : goal.returns-then-has-clause-map
returns-then-has-clause-map g c =
    let found : is_some (lookup (is_at (link_cmp (c.args.first, c.args.second))) (pairs 0 c.self.inside.rows.items)) ≡ true =
    rw c.self.view_is (sym c.has.ensures ∙ c.if-has.true) in
    let there = row_there c.args.first c.args.second c.self.inside.rows.items found in
    let seen = at c.args.first c.self.inside.rows.items c.index_mut.result.now there c.index_mut.ensures.value in
    rw (← c.self.view_is, c.remove.ensures.map) (take_in c.args.first c.args.second c.self.inside.rows.items c.index_mut.result.now there seen)

pub returns-else-has-clause-map : goal.returns-else-has-clause-map
returns-else-has-clause-map g c =
    rw (← c.self.view_is) (sym (take_none c.args.first c.args.second (pairs 0 c.self.inside.rows.items) (rw c.self.view_is (sym c.has.ensures ∙ c.if-has.false))))

pub returns-then-has-clause-gone : goal.returns-then-has-clause-gone
returns-then-has-clause-gone g c =
    let there = row_there c.args.first c.args.second c.self.inside.rows.items (rw c.self.view_is (sym c.has.ensures ∙ c.if-has.true)) in
    found_in c.args.first c.args.second _ c.remove.new.self (set_get c.self.inside.rows.items c.args.first c.remove.new.self there) ∙ c.remove.ensures.gone

pub returns-else-has-clause-gone : goal.returns-else-has-clause-gone
returns-else-has-clause-gone g c = none_by _ (sym c.has.ensures ∙ c.if-has.false)
