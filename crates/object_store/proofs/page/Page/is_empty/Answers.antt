use Rattle.std.proofs.Common.{arith}
use Rattle.object_store.proofs.Pages.{is_empty}
use Rattle.object_store.proofs.page.Page.is_empty.Goals as goal

pub returns : goal.returns
returns g c = λ e.
    rw (← c.self.view_is) (is_empty c.self.inside.cells.items c.self.invariant.long (omega (arith, c.if-self-gt0.false, c.self.invariant.counted)))
