-- What a transaction keeps: its changes can be taken back.
use Rattle.std.specs.Prelude.{ℕ, ◌<◌, ◌≤◌, ◌^◌, length}
use Rattle.soil_changes.specs.declared.transaction.Transaction.TheInside.{Inside}
use Rattle.entry_states.specs.Leading.{CanBeTakenBack, taken_back}
use Rattle.soil_changes.specs.Progress.{Progress, max_change_weight}

abbrev pub progress : Inside → Progress
progress t = record {
  layout = t.store.layout;
  start = taken_back t.store.layout t.changes.items t.store.state;
  state = t.store.state;
  frames = t.frames;
  changes = t.changes.items;
  left = t.left;
}

pub record IsKept (t : Inside) : Type 0 where
  pub back : CanBeTakenBack t.store.layout t.changes.items t.store.state
  pub left : t.left ≤ max_change_weight
  -- their numbers are those of 32 bits
  pub few : length t.store.layout.assocs < 2 ^ 32
