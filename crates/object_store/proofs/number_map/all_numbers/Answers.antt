use Rattle.std.proofs.Common.{◌∙◌, ◌+◌, ◌*◌, ◌++◌, ap, arith, drop, sym}
use Rattle.std.specs.Map.{keys_of}
use Rattle.object_store.specs.Cells.{entries}
use Rattle.object_store.specs.Pages.{all_cells}
use Rattle.object_store.proofs.Pages.{numbers_end, numbers_step, whole_rest}
use Rattle.object_store.proofs.number_map.all_numbers.Goals as goal

pub pages-preserved : goal.pages-preserved
pages-preserved g c = record {
  same =
      ap (λ found. found ++ keys_of (entries ((c.pages.page + 1) * 64) (all_cells (drop (c.pages.page + 1) c.args.pages.now)))) c.in_ok-add_numbers.ensures
      ∙ numbers_step c.pages.found.items c.pages.page c.page_at.result.now (drop c.pages.page c.args.pages.now) (drop (c.pages.page + 1) c.args.pages.now)
      c.page_at.ensures c.pages.invariant.whole
      ∙ c.pages.invariant.same;
  whole = whole_rest c.page_at.result.now (drop c.pages.page c.args.pages.now) (drop (c.pages.page + 1) c.args.pages.now) c.page_at.ensures c.pages.invariant.whole;
  within = omega (arith, c.pages-test.true);
}

pub returns : goal.returns
returns g c = sym (numbers_end c.pages.found.items c.pages.page c.args.pages.now (omega (arith, c.pages-test.false))) ∙ c.pages.invariant.same
