-- What a history keeps.
use Rattle.std.specs.Prelude.{◌≡◌, ℕ, ◌+◌, ◌≤◌, List, length}
use Rattle.undo_log.specs.declared.entry.Entry.{Entry}
use Rattle.undo_log.specs.declared.history.History.TheInside.{Inside}

-- what can be taken back, the newest first, what can be carried out again, the next first, and how many entries are kept at most
pub record Kept : Type 0 where
  pub past : List Entry
  pub future : List Entry
  pub capacity : ℕ

abbrev pub kept : Inside → Kept
kept h = record { past = h.past.items; future = h.future.items; capacity = h.past.capacity }

-- both together are no more than may be kept
pub record IsWithinCapacity (h : Inside) : Type 0 where
  pub same : h.future.capacity ≡ h.past.capacity
  pub within : length h.past.items + length h.future.items ≤ h.past.capacity
