use Rattle.std.proofs.Common.{arith, ◌∙◌}
use Rattle.object_store.proofs.Cells.{counted_few, more, set_long}
use Rattle.object_store.proofs.page.Page.put.Goals as goal

pub overflow_add-self : goal.overflow_add-self
overflow_add-self g c =
    let few = counted_few c.self.inside.cells.items in
    omega (arith, few, c.self.invariant.counted, c.self.invariant.long)

pub invariant_of-self : goal.invariant_of-self
invariant_of-self g c = record {
  long = set_long c.args.cell c.args.value c.self.inside.cells.items ∙ c.self.invariant.long;
  counted =
      let n = more c.args.cell c.args.value c.self.inside.cells.items (omega (arith, c.requires.within, c.self.invariant.long)) (rw (← c.self.view_is) at c.requires.free) in
      omega (arith, n, c.self.invariant.counted);
}
