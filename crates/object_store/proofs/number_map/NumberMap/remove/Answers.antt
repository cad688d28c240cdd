use Rattle.std.proofs.Common.{◌≡◌, is_some, true, nat_cmp, sym, ap, ◌∙◌, arith, length}
use Rattle.std.specs.BTreeMap.{is_at}
use Rattle.std.specs.Map.{lookup}
use Rattle.object_store.specs.Cells.{entries}
use Rattle.object_store.specs.Pages.{all_cells, page_cells}
use Rattle.object_store.proofs.Cells.{absent, at, cleared_long, found, none_by, none_left, taken, taken_count_found, unfound}
use Rattle.object_store.proofs.Pages.{page_there, set_len, whole_with, with_cell}
use Rattle.object_store.proofs.number_map.NumberMap.remove.Goals as goal

pub index_mut-requires : goal.index_mut-requires
index_mut-requires g c =
    let n = page_there c.self.inside.pages.items c.place-page.result.0 c.place-page.result.1 c.args.number c.self.invariant.whole c.place-page.ensures.small
    c.place-page.ensures.whole (rw c.self.view_is (sym c.has.ensures ∙ c.if-has.true)) in
    omega (arith, n, c.self.inside.pages.ok)

pub invariant_of-self : goal.invariant_of-self
invariant_of-self g c =
    let found : is_some (lookup (is_at (nat_cmp c.args.number)) (entries 0 (all_cells c.self.inside.pages.items))) ≡ true = rw c.self.view_is (sym c.has.ensures ∙ c.if-has.true) in
    let there = page_there c.self.inside.pages.items c.place-page.result.0 c.place-page.result.1 c.args.number c.self.invariant.whole c.place-page.ensures.small
    c.place-page.ensures.whole found in
    let seen = at c.place-page.result.0 c.self.inside.pages.items c.index_mut.result.now there c.index_mut.ensures.value in
    record {
      whole = whole_with c.self.inside.pages.items c.place-page.result.0 c.place-page.result.1 c.args.number c.self.invariant.whole c.place-page.ensures.small
          c.place-page.ensures.whole c.index_mut.result.now c.clear.new.page seen (ap length c.clear.ensures ∙ cleared_long c.place-page.result.1 (page_cells c.index_mut.result.now));
      counted =
          let cells = with_cell c.self.inside.pages.items c.place-page.result.0 c.place-page.result.1 c.args.number c.self.invariant.whole c.place-page.ensures.small
          c.place-page.ensures.whole c.index_mut.result.now c.clear.new.page seen _ c.clear.ensures in
          let n = taken_count_found c.args.number (all_cells c.self.inside.pages.items) found in
          let m = ap (λ cells. length (entries 0 cells)) cells in
          omega (arith, n, m, c.self.invariant.counted);
      few = let n = set_len c.self.inside.pages.items c.place-page.result.0 c.clear.new.page in omega (arith, n, c.self.invariant.few);
    }

pub returns-then-has-clause-map : goal.returns-then-has-clause-map
returns-then-has-clause-map g c =
    let found : is_some (lookup (is_at (nat_cmp c.args.number)) (entries 0 (all_cells c.self.inside.pages.items))) ≡ true = rw c.self.view_is (sym c.has.ensures ∙ c.if-has.true) in
    let there = page_there c.self.inside.pages.items c.place-page.result.0 c.place-page.result.1 c.args.number c.self.invariant.whole c.place-page.ensures.small
    c.place-page.ensures.whole found in
    let seen = at c.place-page.result.0 c.self.inside.pages.items c.index_mut.result.now there c.index_mut.ensures.value in
    rw (← c.self.view_is) (ap (λ cells. entries 0 cells) (with_cell c.self.inside.pages.items c.place-page.result.0 c.place-page.result.1 c.args.number c.self.invariant.whole c.place-page.ensures.small
    c.place-page.ensures.whole c.index_mut.result.now c.clear.new.page seen _ c.clear.ensures)
    ∙ sym (taken c.args.number (all_cells c.self.inside.pages.items)))

pub returns-else-has-clause-map : goal.returns-else-has-clause-map
returns-else-has-clause-map g c =
    rw (← c.self.view_is) (absent c.args.number (all_cells c.self.inside.pages.items) (unfound c.args.number (all_cells c.self.inside.pages.items)
    (rw (c.self.view_is) (sym c.has.ensures ∙ c.if-has.false))))

pub returns-then-has-clause-gone : goal.returns-then-has-clause-gone
returns-then-has-clause-gone g c =
    let there = page_there c.self.inside.pages.items c.place-page.result.0 c.place-page.result.1 c.args.number c.self.invariant.whole c.place-page.ensures.small c.place-page.ensures.whole (rw c.self.view_is (sym c.has.ensures ∙ c.if-has.true)) in
    let seen = at c.place-page.result.0 c.self.inside.pages.items c.index_mut.result.now there c.index_mut.ensures.value in
    ap (λ cells. lookup (is_at (nat_cmp c.args.number)) (entries 0 cells)) (with_cell c.self.inside.pages.items c.place-page.result.0 c.place-page.result.1 c.args.number c.self.invariant.whole c.place-page.ensures.small c.place-page.ensures.whole c.index_mut.result.now c.clear.new.page seen _ c.clear.ensures)
    ∙ found c.args.number _ ∙ none_left c.args.number (all_cells c.self.inside.pages.items)

pub returns-else-has-clause-gone : goal.returns-else-has-clause-gone
returns-else-has-clause-gone g c = none_by _ (sym c.has.ensures ∙ c.if-has.false)
