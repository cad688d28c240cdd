use Rattle.std.proofs.Common.{◌∙◌, ap, arith, length, subst, sym}
use Rattle.object_store.specs.Cells.{entries}
use Rattle.object_store.specs.Pages.{AreWhole, all_cells}
use Rattle.object_store.proofs.Cells.{one_more}
use Rattle.object_store.proofs.Pages.{page_more, whole_more}
use Rattle.object_store.proofs.number_map.grow.Goals as goal

pub grow-preserved : goal.grow-preserved
grow-preserved g c = record {
  same = ap (λ pages. entries 0 (all_cells pages)) c.in_ok-push.ensures.items ∙ page_more c.grow.pages.items ∙ c.grow.invariant.same;
  long =
      let n = ap length c.in_ok-push.ensures.items ∙ one_more c.grow.pages.items _ in
      omega (arith, n, c.grow-test.true, c.requires.few, c.len.ensures);
  whole = subst AreWhole (sym c.in_ok-push.ensures.items) (whole_more c.grow.pages.items c.grow.invariant.whole);
}
