use Rattle.std.proofs.Common.{[], ap, length, sym, List, ℕ, None}
use Rattle.object_store.specs.Ends.{row_at}
use Rattle.object_store.specs.Indexes.{stamp_at}
use Rattle.object_store.specs.declared.ends.Row.{Row}
use Rattle.object_store.proofs.Changed.{tied_as}
use Rattle.object_store.proofs.Links.{tied_empty}
use Rattle.object_store.proofs.Stamped.{none_stamped}
use Rattle.object_store.proofs.link_table.LinkTable.new.Goals as goal

pub invariant_of-result : goal.invariant_of-result
invariant_of-result c = (
  tied_as [] c.new.result (λ k. None) (stamp_at c.new-2.result) (λ k. []) (row_at c.new-3.result) (λ k. []) (row_at c.new-4.result)
      c.new.ensures (λ k. none_stamped c.new-2.result c.new-2.ensures.empty k) (λ k. ap (λ (m : List ((ℕ × ℕ) × Row)). row_at m k) c.new-3.ensures)
      (λ k. ap (λ (m : List ((ℕ × ℕ) × Row)). row_at m k) c.new-4.ensures) tied_empty,
  ap length (sym c.new.ensures),
)
