use Rattle.std.proofs.Common.{◌≡◌, true, is_some, sym, ap, ◌∙◌, arith}
use Rattle.std.specs.BTreeMap.{is_at}
use Rattle.std.specs.Map.{lookup}
use Rattle.object_state.specs.State.{link_cmp}
use Rattle.object_store.specs.Pairs.{pairs}
use Rattle.object_store.proofs.Cells.{at}
use Rattle.object_store.proofs.PairRows.{found_in, row_there, set_in}
use Rattle.object_store.proofs.pair_map.PairMap.replace.Goals as goal

pub index_mut-requires : goal.index_mut-requires
index_mut-requires g c =
    let n = row_there c.args.first c.args.second c.self.inside.rows.items (rw c.self.view_is c.requires) in
    omega (arith, n, c.self.inside.rows.ok)

pub replace-requires : goal.replace-requires
replace-requires g c =
    let found : is_some (lookup (is_at (link_cmp (c.args.first, c.args.second))) (pairs 0 c.self.inside.rows.items)) ≡ true = rw c.self.view_is c.requires in
    let there = row_there c.args.first c.args.second c.self.inside.rows.items found in
    let seen = at c.args.first c.self.inside.rows.items c.index_mut.result.now there c.index_mut.ensures.value in
    ap is_some (sym (found_in c.args.first c.args.second c.self.inside.rows.items c.index_mut.result.now seen)) ∙ found

pub returns-clause-map : goal.returns-clause-map
returns-clause-map g c =
    let there = row_there c.args.first c.args.second c.self.inside.rows.items (rw c.self.view_is c.requires) in
    let seen = at c.args.first c.self.inside.rows.items c.index_mut.result.now there c.index_mut.ensures.value in
    rw (← c.self.view_is, c.replace.ensures.map) (set_in c.args.first c.args.second c.args.value c.self.inside.rows.items c.index_mut.result.now there seen)

pub returns-clause-held : goal.returns-clause-held
returns-clause-held g c =
    let there = row_there c.args.first c.args.second c.self.inside.rows.items (rw c.self.view_is c.requires) in
    let seen = at c.args.first c.self.inside.rows.items c.index_mut.result.now there c.index_mut.ensures.value in
    rw (← c.self.view_is) (found_in c.args.first c.args.second c.self.inside.rows.items c.index_mut.result.now seen ∙ c.replace.ensures.held)
