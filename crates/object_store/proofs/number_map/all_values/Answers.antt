use Rattle.std.proofs.Common.{◌∙◌, ◌+◌, ◌++◌, ap, arith, drop, sym}
use Rattle.object_store.specs.Cells.{values_in}
use Rattle.object_store.specs.Pages.{all_cells}
use Rattle.object_store.proofs.Pages.{values_end, values_step}
use Rattle.object_store.proofs.number_map.all_values.Goals as goal

pub pages-preserved : goal.pages-preserved
pages-preserved g c = record {
  same =
      ap (λ found. found ++ values_in (all_cells (drop (c.pages.page + 1) c.args.pages.now))) c.in_ok-add_values.ensures
      ∙ values_step c.pages.found.items c.page_at.result.now (drop c.pages.page c.args.pages.now) (drop (c.pages.page + 1) c.args.pages.now) c.page_at.ensures
      ∙ c.pages.invariant.same;
  within = omega (arith, c.pages-test.true);
}

pub returns : goal.returns
returns g c = sym (values_end c.pages.found.items c.pages.page c.args.pages.now (omega (arith, c.pages-test.false))) ∙ c.pages.invariant.same
