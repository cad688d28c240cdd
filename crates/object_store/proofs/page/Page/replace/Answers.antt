use Rattle.std.proofs.Common.{sym, ap, ◌∙◌, arith, length, slice_set}
use Rattle.object_store.specs.Cells.{cell_in, entries}
use Rattle.object_store.proofs.Cells.{at, same}
use Rattle.object_store.proofs.Pages.{set_len}
use Rattle.object_store.proofs.page.Page.replace.Goals as goal

pub invariant_of-self : goal.invariant_of-self
invariant_of-self g c =
    let seen = at c.args.cell c.self.inside.cells.items c.index_mut.result.now (omega (arith, c.requires.within, c.self.invariant.long)) c.index_mut.ensures.value in
    record {
      long = set_len c.self.inside.cells.items c.args.cell c.replace_in.new.cell ∙ c.self.invariant.long;
      counted = c.self.invariant.counted ∙ sym (ap (λ d. length (entries 0 (slice_set c.self.inside.cells.items c.args.cell d))) c.replace_in.ensures.new
          ∙ same c.args.cell c.replace_in.result c.args.value c.self.inside.cells.items (ap cell_in seen ∙ c.replace_in.ensures.held));
    }

pub returns-clause-held : goal.returns-clause-held
returns-clause-held g c =
    let seen = at c.args.cell c.self.inside.cells.items c.index_mut.result.now (omega (arith, c.requires.within, c.self.invariant.long)) c.index_mut.ensures.value in
    rw (← c.self.view_is) (ap cell_in seen ∙ c.replace_in.ensures.held)
