use Rattle.std.proofs.Common.{◌∙◌, ap, arith, length, refl, ℕ, List, None}
use Rattle.std.specs.BTreeMap.{is_at}
use Rattle.std.specs.Map.{lookup, remove_entry, update}
use Rattle.object_state.specs.State.{link_cmp}
use Rattle.std.specs.Ordering.{nat_cmp}
use Rattle.object_store.specs.Ends.{row_at}
use Rattle.object_store.specs.Indexes.{same_pair, stamp_at, with_row}
use Rattle.object_store.proofs.Changed.{tied_as}
use Rattle.object_store.proofs.Links.{tied_less}
use Rattle.object_store.proofs.PairRows.{shorter}
use Rattle.object_store.proofs.link_table.LinkTable.remove.Goals as goal

pub invariant_of-self : goal.invariant_of-self
invariant_of-self c = (
  tied_as _ c.remove.new.self (stamp_at c.take_stamp.new.stamps) (stamp_at c.take_stamp.new.stamps) (row_at c.take_end.new.ends)
      (row_at c.take_end.new.ends) (row_at c.take_end-2.new.ends) (row_at c.take_end-2.new.ends)
      c.remove.ensures.map (λ k. refl) (λ k. refl) (λ k. refl)
      (tied_less c.self.inside.links (stamp_at c.self.inside.stamps) (row_at c.self.inside.seconds) (row_at c.self.inside.firsts) c.self.invariant.0
      c.args.link.now.assoc c.args.link.now.stamp c.args.link.now.first c.args.link.now.second (stamp_at c.take_stamp.new.stamps)
      (row_at c.take_end.new.ends) (row_at c.take_end-2.new.ends)
      (ap (λ (l : List ((ℕ × ℕ) × (ℕ × ℕ))). lookup (is_at (link_cmp (c.args.link.now.assoc, c.args.link.now.stamp))) l) c.self.view_is ∙ c.requires)
      (λ k. c.take_stamp.ensures k ∙ ap (λ (p : ℕ × (ℕ × ℕ)). update same_pair (stamp_at c.self.inside.stamps) p None k) c.pair_key.ensures)
      (λ k. c.take_end.ensures k ∙ ap (λ (p : ℕ × ℕ). with_row (row_at c.self.inside.seconds) p (remove_entry (is_at (nat_cmp c.args.link.now.stamp))
      (row_at c.self.inside.seconds p)) k) c.first_end.ensures)
      (λ k. c.take_end-2.ensures k ∙ ap (λ (p : ℕ × ℕ). with_row (row_at c.self.inside.firsts) p (remove_entry (is_at (nat_cmp c.args.link.now.stamp))
      (row_at c.self.inside.firsts p)) k) c.second_end.ensures)),
  let there = ap (λ (l : List ((ℕ × ℕ) × (ℕ × ℕ))). lookup (is_at (link_cmp (c.args.link.now.assoc, c.args.link.now.stamp))) l) c.self.view_is ∙ c.requires in
      let n = shorter link_cmp (c.args.link.now.assoc, c.args.link.now.stamp) c.self.inside.links (c.args.link.now.first, c.args.link.now.second) there in
      let m = ap length c.remove.ensures.map in
      omega (arith, n, m, c.self.invariant.1),
)
