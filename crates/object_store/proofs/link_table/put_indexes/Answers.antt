use Rattle.std.proofs.Common.{ap, ◌∙◌, ℕ, Some, None}
use Rattle.std.specs.Map.{update}
use Rattle.object_store.specs.Indexes.{same_pair, stamp_at}
use Rattle.object_store.proofs.Stamped.{restored_stamp}
use Rattle.object_store.proofs.link_table.put_indexes.Goals as goal

pub returns-in-Err-clause-no_stamps : goal.returns-in-Err-clause-no_stamps
returns-in-Err-clause-no_stamps c =
    restored_stamp (stamp_at c.args.stamps.now) (c.args.link.now.assoc, (c.args.link.now.first, c.args.link.now.second)) (Some c.args.link.now.stamp)
    (stamp_at c.put_stamp.new.stamps) (stamp_at c.take_stamp.new.stamps) c.requires.pair
    (λ k. c.in_ok-put_stamp.ensures.ok k
    ∙ ap (λ (p : ℕ × (ℕ × ℕ)). update same_pair (stamp_at c.args.stamps.now) p (Some c.args.link.now.stamp) k) c.pair_key.ensures)
    (λ k. c.take_stamp.ensures k
    ∙ ap (λ (p : ℕ × (ℕ × ℕ)). update same_pair (stamp_at c.put_stamp.new.stamps) p None k) c.pair_key-in-Err.ensures)
