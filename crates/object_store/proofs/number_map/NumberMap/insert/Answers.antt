use Rattle.std.proofs.Common.{◌≡◌, nat_cmp, None, sym, ap, ◌∙◌, arith, length}
use Rattle.std.specs.BTreeMap.{insert_entry, is_at}
use Rattle.std.specs.Map.{lookup}
use Rattle.object_store.specs.Cells.{entries}
use Rattle.object_store.specs.Pages.{all_cells, page_cells}
use Rattle.object_store.proofs.Cells.{at, counted_few, found, more, put, set_long}
use Rattle.object_store.proofs.Pages.{cells_long, number_there, on_err, page_same, paged, set_len, whole_with, with_cell}
use Rattle.object_store.proofs.number_map.NumberMap.insert.Goals as goal

pub fill-requires-clause-free : goal.fill-requires-clause-free
fill-requires-clause-free g c =
    let seen = at c.place-page.result.0 c.grow.new.pages.items c.index_mut.result.now c.in_ok-grow.ensures.there c.index_mut.ensures.value in
    let free : lookup (is_at (nat_cmp c.args.number)) (entries 0 (all_cells c.grow.new.pages.items)) ≡ None =
    ap (λ es. lookup (is_at (nat_cmp c.args.number)) es) c.in_ok-grow.ensures.same ∙ rw (← c.self.view_is) at c.requires in
    sym (paged c.grow.new.pages.items c.place-page.result.0 c.place-page.result.1 c.args.number c.in_ok-grow.ensures.whole c.place-page.ensures.small
    c.place-page.ensures.whole c.index_mut.result.now seen) ∙ free

pub invariant_of-self-in_err-fill : goal.invariant_of-self-in_err-fill
invariant_of-self-in_err-fill g c =
    let seen = at c.place-page.result.0 c.grow.new.pages.items c.index_mut.result.now c.in_ok-grow.ensures.there c.index_mut.ensures.value in
    record {
      whole = whole_with c.grow.new.pages.items c.place-page.result.0 c.place-page.result.1 c.args.number c.in_ok-grow.ensures.whole c.place-page.ensures.small
          c.place-page.ensures.whole c.index_mut.result.now c.fill.new.page seen (ap length c.in_err-fill.ensures.err);
      counted = c.self.invariant.counted ∙ ap length (sym c.in_ok-grow.ensures.same)
          ∙ ap (λ cells. length (entries 0 cells)) (sym (page_same c.grow.new.pages.items c.place-page.result.0 c.index_mut.result.now c.fill.new.page seen c.in_err-fill.ensures.err));
      few = let n = set_len c.grow.new.pages.items c.place-page.result.0 c.fill.new.page in omega (arith, n, c.in_ok-grow.ensures.long);
    }

pub returns-in_err-fill-clause-err : goal.returns-in_err-fill-clause-err
returns-in_err-fill-clause-err g c =
    let seen = at c.place-page.result.0 c.grow.new.pages.items c.index_mut.result.now c.in_ok-grow.ensures.there c.index_mut.ensures.value in
    on_err c.from_residual-in_err-fill.result (rw (← c.self.view_is)
    (ap (λ cells. entries 0 cells) (page_same c.grow.new.pages.items c.place-page.result.0 c.index_mut.result.now c.fill.new.page seen c.in_err-fill.ensures.err)
    ∙ c.in_ok-grow.ensures.same))

pub overflow_add-self : goal.overflow_add-self
overflow_add-self g c =
    let few = counted_few (all_cells c.self.inside.pages.items) in
    let long = cells_long c.self.inside.pages.items c.self.invariant.whole in
    omega (arith, few, long, c.self.invariant.counted, c.self.invariant.few)

pub invariant_of-self-2 : goal.invariant_of-self-2
invariant_of-self-2 g c =
    let seen = at c.place-page.result.0 c.grow.new.pages.items c.index_mut.result.now c.in_ok-grow.ensures.there c.index_mut.ensures.value in
    let free : lookup (is_at (nat_cmp c.args.number)) (entries 0 (all_cells c.grow.new.pages.items)) ≡ None =
    ap (λ es. lookup (is_at (nat_cmp c.args.number)) es) c.in_ok-grow.ensures.same ∙ rw (← c.self.view_is) at c.requires in
    record {
      whole = whole_with c.grow.new.pages.items c.place-page.result.0 c.place-page.result.1 c.args.number c.in_ok-grow.ensures.whole c.place-page.ensures.small
          c.place-page.ensures.whole c.index_mut.result.now c.fill.new.page seen
          (ap length c.in_ok-fill.ensures.ok ∙ set_long c.place-page.result.1 c.args.value (page_cells c.index_mut.result.now));
      counted =
          let cells = with_cell c.grow.new.pages.items c.place-page.result.0 c.place-page.result.1 c.args.number c.in_ok-grow.ensures.whole c.place-page.ensures.small
          c.place-page.ensures.whole c.index_mut.result.now c.fill.new.page seen _ c.in_ok-fill.ensures.ok in
          let m = ap (λ cells. length (entries 0 cells)) cells in
          let n = more c.args.number c.args.value (all_cells c.grow.new.pages.items) (number_there c.grow.new.pages.items c.place-page.result.0 c.place-page.result.1 c.args.number c.in_ok-grow.ensures.whole c.place-page.ensures.small
          c.place-page.ensures.whole c.in_ok-grow.ensures.there)
          (sym (found c.args.number (all_cells c.grow.new.pages.items)) ∙ free) in
          let k = ap length c.in_ok-grow.ensures.same in
          omega (arith, m, n, k, c.self.invariant.counted);
      few = let n = set_len c.grow.new.pages.items c.place-page.result.0 c.fill.new.page in omega (arith, n, c.in_ok-grow.ensures.long);
    }

pub returns-clause-ok : goal.returns-clause-ok
returns-clause-ok g c =
    let seen = at c.place-page.result.0 c.grow.new.pages.items c.index_mut.result.now c.in_ok-grow.ensures.there c.index_mut.ensures.value in
    rw (← c.self.view_is) (ap (λ cells. entries 0 cells) (with_cell c.grow.new.pages.items c.place-page.result.0 c.place-page.result.1 c.args.number c.in_ok-grow.ensures.whole c.place-page.ensures.small
    c.place-page.ensures.whole c.index_mut.result.now c.fill.new.page seen _ c.in_ok-fill.ensures.ok)
    ∙ put c.args.number c.args.value (all_cells c.grow.new.pages.items) (number_there c.grow.new.pages.items c.place-page.result.0 c.place-page.result.1 c.args.number c.in_ok-grow.ensures.whole c.place-page.ensures.small
    c.place-page.ensures.whole c.in_ok-grow.ensures.there)
    ∙ ap (λ es. insert_entry nat_cmp es c.args.number c.args.value) c.in_ok-grow.ensures.same)
