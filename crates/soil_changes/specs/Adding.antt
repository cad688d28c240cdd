-- What an act leaves of a transaction, also where it is refused.
use Rattle.std.specs.Prelude.{◌≡◌, ◌++◌, List, length}
use Rattle.object_state.specs.declared.change.Change.{Change}
use Rattle.object_state.specs.Valid.{IsValid}
use Rattle.entry_states.specs.Leading.{CanBeCarriedOut, led_on}
use Rattle.entry_states.specs.Noting.{AreNoted}
use Rattle.soil_changes.specs.Progress.{Changing, Progress}

-- changes are added, that lead on to the state and are noted; the layout and the first state stay
pub record Adds (p q : Progress) : Type 0 where
  pub layout : q.layout ≡ p.layout
  pub start : q.start ≡ p.start
  pub more : List Change
  pub changes : q.changes ≡ p.changes ++ more
  pub state : q.state ≡ led_on p.layout p.state more
  pub depth : length q.frames ≡ length p.frames
  pub noted : IsValid p.layout p.state → CanBeCarriedOut p.layout p.state more → AreNoted p.layout p.state q.state p.frames q.frames

abbrev pub OnlyAdds : {A : Type 0} → Changing A → Type 0
OnlyAdds act = (p : Progress) → Adds p (act p).1
