use Rattle.std.proofs.Common.{None, sym, ap, ◌∙◌, arith, length, slice_get}
use Rattle.object_state.specs.Changes.{with_slot}
use Rattle.object_state.specs.declared.objects.Object.{Object}
use Rattle.object_store.specs.Cells.{entries}
use Rattle.object_store.specs.Pages.{all_cells, page_cells}
use Rattle.object_store.proofs.Cells.{at}
use Rattle.object_store.proofs.Pages.{changed_count, changed_entries, get_there, page_get, set_len, unchanged, unpaged, whole_at, whole_with, with_cell}
use Rattle.object_store.proofs.number_map.NumberMap+Object.set_slot.Goals as goal
use Rattle.object_store.proofs.number_map.NumberMap+Object.set_slot.Goals.{in-Some, in_default+in-Str-1, in_default+in-Coll-1, in_default+in-Null-1}

pub invariant_of-self : goal.invariant_of-self
invariant_of-self c =
    elim c.match-get_mut.branch [
      | in-Some w ↦ rw w.self-inside-is (
          let seen = at c.place-page.result.0 c.self.inside.pages.items w.in-Some.page.now w.in-Some.ensures.item.3.0 w.in-Some.ensures.value in
          let long = whole_at c.self.inside.pages.items c.place-page.result.0 w.in-Some.page.now c.self.invariant.whole seen in
          let cell = get_there (page_cells w.in-Some.page.now) c.place-page.result.1 None (omega (arith, long, c.place-page.ensures.small)) in
          let set = w.set_slot_at.ensures _ cell in
          let cells = with_cell c.self.inside.pages.items c.place-page.result.0 c.place-page.result.1 c.args.number c.self.invariant.whole c.place-page.ensures.small c.place-page.ensures.whole w.in-Some.page.now w.set_slot_at.new.page seen _ set in
          let in_all = ap (λ m. slice_get (all_cells c.self.inside.pages.items) m) c.place-page.ensures.whole
          ∙ page_get c.self.inside.pages.items c.place-page.result.0 c.place-page.result.1 w.in-Some.page.now c.self.invariant.whole c.place-page.ensures.small seen ∙ cell in
          record {
            whole = whole_with c.self.inside.pages.items c.place-page.result.0 c.place-page.result.1 c.args.number c.self.invariant.whole c.place-page.ensures.small c.place-page.ensures.whole w.in-Some.page.now w.set_slot_at.new.page seen
                (ap length set ∙ set_len (page_cells w.in-Some.page.now) c.place-page.result.1 _);
            counted = c.self.invariant.counted ∙ sym (ap (λ cells. length (entries 0 cells)) cells
                ∙ changed_count (λ (x : Object). with_slot c.args.layout.now x c.args.attr c.args.value) c.args.number (all_cells c.self.inside.pages.items) _ in_all);
            few = let n = set_len c.self.inside.pages.items c.place-page.result.0 w.set_slot_at.new.page in omega (arith, n, c.self.invariant.few);
          })
      | in_default+in-Str-1 w ↦ rw w.self-inside-is c.self.invariant
      | in_default+in-Coll-1 w ↦ rw w.self-inside-is c.self.invariant
      | in_default+in-Null-1 w ↦ rw w.self-inside-is c.self.invariant
    ]

pub returns : goal.returns
returns c =
    elim c.match-get_mut.branch [
      | in-Some w ↦ rw (← c.self.view_is, w.self-inside-is) (
          let seen = at c.place-page.result.0 c.self.inside.pages.items w.in-Some.page.now w.in-Some.ensures.item.3.0 w.in-Some.ensures.value in
          let long = whole_at c.self.inside.pages.items c.place-page.result.0 w.in-Some.page.now c.self.invariant.whole seen in
          let cell = get_there (page_cells w.in-Some.page.now) c.place-page.result.1 None (omega (arith, long, c.place-page.ensures.small)) in
          let set = w.set_slot_at.ensures _ cell in
          let cells = with_cell c.self.inside.pages.items c.place-page.result.0 c.place-page.result.1 c.args.number c.self.invariant.whole c.place-page.ensures.small c.place-page.ensures.whole w.in-Some.page.now w.set_slot_at.new.page seen _ set in
          let in_all = ap (λ m. slice_get (all_cells c.self.inside.pages.items) m) c.place-page.ensures.whole
          ∙ page_get c.self.inside.pages.items c.place-page.result.0 c.place-page.result.1 w.in-Some.page.now c.self.invariant.whole c.place-page.ensures.small seen ∙ cell in
          ap (λ cells. entries 0 cells) cells ∙ changed_entries (λ (x : Object). with_slot c.args.layout.now x c.args.attr c.args.value) c.args.number (all_cells c.self.inside.pages.items) _ in_all)
      | in_default+in-Str-1 w ↦ rw (← c.self.view_is, w.self-inside-is) (unchanged (λ (x : Object). with_slot c.args.layout.now x c.args.attr c.args.value) c.args.number (entries 0 (all_cells c.self.inside.pages.items)) (unpaged c.self.inside.pages.items c.place-page.result.0 c.place-page.result.1 c.args.number c.self.invariant.whole c.place-page.ensures.small c.place-page.ensures.whole w.in_default.ensures.item.3))
      | in_default+in-Coll-1 w ↦ rw (← c.self.view_is, w.self-inside-is) (unchanged (λ (x : Object). with_slot c.args.layout.now x c.args.attr c.args.value) c.args.number (entries 0 (all_cells c.self.inside.pages.items)) (unpaged c.self.inside.pages.items c.place-page.result.0 c.place-page.result.1 c.args.number c.self.invariant.whole c.place-page.ensures.small c.place-page.ensures.whole w.in_default.ensures.item.3))
      | in_default+in-Null-1 w ↦ rw (← c.self.view_is, w.self-inside-is) (unchanged (λ (x : Object). with_slot c.args.layout.now x c.args.attr c.args.value) c.args.number (entries 0 (all_cells c.self.inside.pages.items)) (unpaged c.self.inside.pages.items c.place-page.result.0 c.place-page.result.1 c.args.number c.self.invariant.whole c.place-page.ensures.small c.place-page.ensures.whole w.in_default.ensures.item.3))
    ]
