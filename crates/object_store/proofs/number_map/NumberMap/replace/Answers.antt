use Rattle.std.proofs.Common.{sym, ap, ◌∙◌, arith, length, is_some}
use Rattle.object_store.specs.Cells.{entries}
use Rattle.object_store.specs.Pages.{all_cells, page_cells}
use Rattle.object_store.proofs.Cells.{at, changed, found, same, set_long}
use Rattle.object_store.proofs.Pages.{page_there, paged, set_len, whole_with, with_cell}
use Rattle.object_store.proofs.number_map.NumberMap.replace.Goals as goal

pub index_mut-requires : goal.index_mut-requires
index_mut-requires g c =
    let n = page_there c.self.inside.pages.items c.place-page.result.0 c.place-page.result.1 c.args.number c.self.invariant.whole c.place-page.ensures.small c.place-page.ensures.whole (rw c.self.view_is c.requires) in
    omega (arith, n, c.self.inside.pages.ok)

pub replace_at-requires-clause-there : goal.replace_at-requires-clause-there
replace_at-requires-clause-there g c =
    let there = page_there c.self.inside.pages.items c.place-page.result.0 c.place-page.result.1 c.args.number c.self.invariant.whole c.place-page.ensures.small c.place-page.ensures.whole (rw c.self.view_is c.requires) in
    let seen = at c.place-page.result.0 c.self.inside.pages.items c.index_mut.result.now there c.index_mut.ensures.value in
    ap is_some (sym (paged c.self.inside.pages.items c.place-page.result.0 c.place-page.result.1 c.args.number c.self.invariant.whole c.place-page.ensures.small c.place-page.ensures.whole c.index_mut.result.now seen)) ∙ rw c.self.view_is c.requires

pub invariant_of-self : goal.invariant_of-self
invariant_of-self g c =
    let there = page_there c.self.inside.pages.items c.place-page.result.0 c.place-page.result.1 c.args.number c.self.invariant.whole c.place-page.ensures.small c.place-page.ensures.whole (rw c.self.view_is c.requires) in
    let seen = at c.place-page.result.0 c.self.inside.pages.items c.index_mut.result.now there c.index_mut.ensures.value in
    let held = sym (found c.args.number (all_cells c.self.inside.pages.items)) ∙ paged c.self.inside.pages.items c.place-page.result.0 c.place-page.result.1 c.args.number c.self.invariant.whole c.place-page.ensures.small c.place-page.ensures.whole c.index_mut.result.now seen ∙ c.replace_at.ensures.held in
    let cells = with_cell c.self.inside.pages.items c.place-page.result.0 c.place-page.result.1 c.args.number c.self.invariant.whole c.place-page.ensures.small c.place-page.ensures.whole c.index_mut.result.now c.replace_at.new.page seen _ c.replace_at.ensures.cells in
    record {
      whole = whole_with c.self.inside.pages.items c.place-page.result.0 c.place-page.result.1 c.args.number c.self.invariant.whole c.place-page.ensures.small c.place-page.ensures.whole c.index_mut.result.now c.replace_at.new.page seen
          (ap length c.replace_at.ensures.cells ∙ set_long c.place-page.result.1 c.args.value (page_cells c.index_mut.result.now));
      counted = c.self.invariant.counted ∙ sym (ap (λ cells. length (entries 0 cells)) cells
          ∙ same c.args.number c.replace_at.result c.args.value (all_cells c.self.inside.pages.items) held);
      few = let n = set_len c.self.inside.pages.items c.place-page.result.0 c.replace_at.new.page in omega (arith, n, c.self.invariant.few);
    }

pub returns-clause-map : goal.returns-clause-map
returns-clause-map g c =
    let there = page_there c.self.inside.pages.items c.place-page.result.0 c.place-page.result.1 c.args.number c.self.invariant.whole c.place-page.ensures.small c.place-page.ensures.whole (rw c.self.view_is c.requires) in
    let seen = at c.place-page.result.0 c.self.inside.pages.items c.index_mut.result.now there c.index_mut.ensures.value in
    let held = sym (found c.args.number (all_cells c.self.inside.pages.items)) ∙ paged c.self.inside.pages.items c.place-page.result.0 c.place-page.result.1 c.args.number c.self.invariant.whole c.place-page.ensures.small c.place-page.ensures.whole c.index_mut.result.now seen ∙ c.replace_at.ensures.held in
    let cells = with_cell c.self.inside.pages.items c.place-page.result.0 c.place-page.result.1 c.args.number c.self.invariant.whole c.place-page.ensures.small c.place-page.ensures.whole c.index_mut.result.now c.replace_at.new.page seen _ c.replace_at.ensures.cells in
    rw (← c.self.view_is) (ap (λ cells. entries 0 cells) cells
    ∙ sym (changed c.args.number c.replace_at.result c.args.value (all_cells c.self.inside.pages.items) held))

pub returns-clause-held : goal.returns-clause-held
returns-clause-held g c =
    let there = page_there c.self.inside.pages.items c.place-page.result.0 c.place-page.result.1 c.args.number c.self.invariant.whole c.place-page.ensures.small c.place-page.ensures.whole (rw c.self.view_is c.requires) in
    let seen = at c.place-page.result.0 c.self.inside.pages.items c.index_mut.result.now there c.index_mut.ensures.value in
    rw (← c.self.view_is) (paged c.self.inside.pages.items c.place-page.result.0 c.place-page.result.1 c.args.number c.self.invariant.whole c.place-page.ensures.small c.place-page.ensures.whole c.index_mut.result.now seen ∙ c.replace_at.ensures.held)
