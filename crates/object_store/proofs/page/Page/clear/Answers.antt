use Rattle.std.proofs.Common.{arith, sym, ◌∙◌}
use Rattle.object_store.proofs.Cells.{cleared_long, none_set, taken_count}
use Rattle.object_store.proofs.page.Page.clear.Goals as goal

pub overflow_sub-self : goal.overflow_sub-self
overflow_sub-self g c =
    let n = taken_count c.args.cell c.self.inside.cells.items (rw c.self.view_is (sym c.has.ensures ∙ c.if-has.true)) in
    omega (arith, n, c.self.invariant.counted)

pub invariant_of-self : goal.invariant_of-self
invariant_of-self g c = record {
  long = cleared_long c.args.cell c.self.inside.cells.items ∙ c.self.invariant.long;
  counted =
      let n = taken_count c.args.cell c.self.inside.cells.items (rw c.self.view_is (sym c.has.ensures ∙ c.if-has.true)) in
      omega (arith, n, c.self.invariant.counted);
}

pub returns-else-has : goal.returns-else-has
returns-else-has g c = none_set c.args.cell c.args.self.now (sym c.has.ensures ∙ c.if-has.false)
