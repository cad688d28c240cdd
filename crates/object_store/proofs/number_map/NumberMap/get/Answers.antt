use Rattle.std.proofs.Common.{sym, ap, ◌∙◌}
use Rattle.object_store.proofs.Cells.{at}
use Rattle.object_store.proofs.Pages.{no_value, paged, unpaged}
use Rattle.object_store.specs.Cells.{cell_in}
use Rattle.object_store.specs.Pages.{page_cells}
use Rattle.std.proofs.Common.{slice_get}
use Rattle.object_store.proofs.number_map.NumberMap.get.Goals as goal

pub returns-in-None : goal.returns-in-None
returns-in-None g c =
    rw (← c.self.view_is) (sym (unpaged c.self.inside.pages.items c.place-page.result.0 c.place-page.result.1 c.args.number c.self.invariant.whole
    c.place-page.ensures.small c.place-page.ensures.whole (rw c.deref.ensures.value at c.in-None.ensures.lookup.3)))

pub returns-in-None-page : goal.returns-in-None-page
returns-in-None-page g c =
    rw (← c.self.view_is) (sym (paged c.self.inside.pages.items c.place-page.result.0 c.place-page.result.1 c.args.number c.self.invariant.whole
    c.place-page.ensures.small c.place-page.ensures.whole c.in-Some.page.now
    (at c.place-page.result.0 c.self.inside.pages.items c.in-Some.page.now (rw c.deref.ensures.value at c.in-Some.ensures.lookup.3.0) (rw c.deref.ensures.value at c.in-Some.ensures.lookup.1))
    ∙ ap (λ p. cell_in (slice_get (page_cells p) c.place-page.result.1)) c.in-None-page.is ∙ no_value c.place-page.result.1))

pub returns-in-Some-page : goal.returns-in-Some-page
returns-in-Some-page g c =
    rw (← c.self.view_is) (c.get-in-Some-page.ensures ∙ sym (paged c.self.inside.pages.items c.place-page.result.0 c.place-page.result.1 c.args.number c.self.invariant.whole
    c.place-page.ensures.small c.place-page.ensures.whole c.in-Some.page.now
    (at c.place-page.result.0 c.self.inside.pages.items c.in-Some.page.now (rw c.deref.ensures.value at c.in-Some.ensures.lookup.3.0) (rw c.deref.ensures.value at c.in-Some.ensures.lookup.1))
    ∙ ap (λ p. cell_in (slice_get (page_cells p) c.place-page.result.1)) c.in-Some-page.is))
