use Rattle.std.proofs.Common.{◌∙◌, ◌+◌, ap, length, refl, sym, ℕ, List}
use Rattle.std.specs.BTreeMap.{is_at}
use Rattle.std.specs.Map.{lookup}
use Rattle.object_state.specs.State.{link_cmp}
use Rattle.object_store.specs.Ends.{row_at}
use Rattle.object_store.specs.Indexes.{stamp_at, stamp_in}
use Rattle.object_store.proofs.Changed.{restored, tied_as}
use Rattle.object_state.proofs.Back.{link_total}
use Rattle.object_store.proofs.Links.{first_free, stamp_found, tied_more}
use Rattle.object_store.proofs.PairRows.{longer}
use Rattle.object_store.proofs.link_table.LinkTable.insert.Goals as goal

pub put_indexes-requires-clause-pair : goal.put_indexes-requires-clause-pair
put_indexes-requires-clause-pair c =
    stamp_found c.self.inside.links (stamp_at c.self.inside.stamps) (row_at c.self.inside.seconds) (row_at c.self.inside.firsts) c.self.invariant.0
    c.args.link.now.assoc c.args.link.now.first c.args.link.now.second
    ∙ ap (λ (l : List ((ℕ × ℕ) × (ℕ × ℕ))). stamp_in l c.args.link.now.assoc c.args.link.now.first c.args.link.now.second) c.self.view_is ∙ c.requires.fresh

pub put_indexes-requires-clause-end : goal.put_indexes-requires-clause-end
put_indexes-requires-clause-end c =
    first_free c.self.inside.links (stamp_at c.self.inside.stamps) (row_at c.self.inside.seconds) (row_at c.self.inside.firsts) c.self.invariant.0
    c.args.link.now.assoc c.args.link.now.first c.args.link.now.stamp
    (ap (λ (l : List ((ℕ × ℕ) × (ℕ × ℕ))). lookup (is_at (link_cmp (c.args.link.now.assoc, c.args.link.now.stamp))) l) c.self.view_is ∙ c.requires.free)

pub invariant_of-self-in-Ok : goal.invariant_of-self-in-Ok
invariant_of-self-in-Ok c = (
  tied_as _ c.insert.new.self (stamp_at c.put_indexes.new.stamps) (stamp_at c.put_indexes.new.stamps) (row_at c.put_indexes.new.seconds)
      (row_at c.put_indexes.new.seconds) (row_at c.put_indexes.new.firsts) (row_at c.put_indexes.new.firsts)
      c.in_ok-insert.ensures.ok (λ k. refl) (λ k. refl) (λ k. refl)
      (tied_more c.self.inside.links (stamp_at c.self.inside.stamps) (row_at c.self.inside.seconds) (row_at c.self.inside.firsts) c.self.invariant.0
      c.args.link.now.assoc c.args.link.now.stamp c.args.link.now.first c.args.link.now.second (stamp_at c.put_indexes.new.stamps)
      (row_at c.put_indexes.new.seconds) (row_at c.put_indexes.new.firsts)
      (ap (λ (l : List ((ℕ × ℕ) × (ℕ × ℕ))). lookup (is_at (link_cmp (c.args.link.now.assoc, c.args.link.now.stamp))) l) c.self.view_is ∙ c.requires.free)
      (ap (λ (l : List ((ℕ × ℕ) × (ℕ × ℕ))). stamp_in l c.args.link.now.assoc c.args.link.now.first c.args.link.now.second) c.self.view_is ∙ c.requires.fresh)
      c.in-Ok.ensures.stamps c.in-Ok.ensures.seconds c.in-Ok.ensures.firsts),
  ap (λ n. n + 1) c.self.invariant.1
      ∙ sym (longer link_cmp (c.args.link.now.assoc, c.args.link.now.stamp) c.self.inside.links (c.args.link.now.first, c.args.link.now.second)
      (ap (λ (l : List ((ℕ × ℕ) × (ℕ × ℕ))). lookup (is_at (link_cmp (c.args.link.now.assoc, c.args.link.now.stamp))) l) c.self.view_is ∙ c.requires.free))
      ∙ ap length (sym c.in_ok-insert.ensures.ok),
)

pub invariant_of-self-in-Err : goal.invariant_of-self-in-Err
invariant_of-self-in-Err c = (
  tied_as c.self.inside.links c.remove.new.self (stamp_at c.self.inside.stamps) (stamp_at c.put_indexes.new.stamps) (row_at c.self.inside.seconds)
      (row_at c.put_indexes.new.seconds) (row_at c.self.inside.firsts) (row_at c.put_indexes.new.firsts)
      (restored link_total c.self.inside.links c.insert.new.self c.remove.new.self (c.args.link.now.assoc, c.args.link.now.stamp)
      (c.args.link.now.assoc, c.args.link.now.stamp) (c.args.link.now.assoc, c.args.link.now.stamp) (c.args.link.now.first, c.args.link.now.second) refl refl
      (ap (λ (l : List ((ℕ × ℕ) × (ℕ × ℕ))). lookup (is_at (link_cmp (c.args.link.now.assoc, c.args.link.now.stamp))) l) c.self.view_is ∙ c.requires.free)
      c.in_ok-insert.ensures.ok c.remove.ensures.map)
      c.in-Err.ensures.no_stamps c.in-Err.ensures.no_seconds c.in-Err.ensures.no_firsts c.self.invariant.0,
  c.self.invariant.1
      ∙ ap length (sym (restored link_total c.self.inside.links c.insert.new.self c.remove.new.self (c.args.link.now.assoc, c.args.link.now.stamp)
      (c.args.link.now.assoc, c.args.link.now.stamp) (c.args.link.now.assoc, c.args.link.now.stamp) (c.args.link.now.first, c.args.link.now.second) refl refl
      (ap (λ (l : List ((ℕ × ℕ) × (ℕ × ℕ))). lookup (is_at (link_cmp (c.args.link.now.assoc, c.args.link.now.stamp))) l) c.self.view_is ∙ c.requires.free)
      c.in_ok-insert.ensures.ok c.remove.ensures.map)),
)

pub returns-in-Err-clause-err : goal.returns-in-Err-clause-err
returns-in-Err-clause-err c =
    restored link_total c.self.inside.links c.insert.new.self c.remove.new.self (c.args.link.now.assoc, c.args.link.now.stamp)
    (c.args.link.now.assoc, c.args.link.now.stamp) (c.args.link.now.assoc, c.args.link.now.stamp) (c.args.link.now.first, c.args.link.now.second) refl refl
    (ap (λ (l : List ((ℕ × ℕ) × (ℕ × ℕ))). lookup (is_at (link_cmp (c.args.link.now.assoc, c.args.link.now.stamp))) l) c.self.view_is ∙ c.requires.free)
    c.in_ok-insert.ensures.ok c.remove.ensures.map
    ∙ c.self.view_is
