use Rattle.std.proofs.Common.{◌≡◌, ◌-◌, ◌≤◌, length, IfSome}
use Rattle.std.specs.Option.{option_copied}
use Rattle.entry_states.specs.Frames.{saved_within}
use Rattle.entry_states.specs.Overlays.{CanHold}
use Rattle.entry_states.proofs.frames.Frames.saved.Given as goal

abbrev pub invariant-down : goal.invariant-down
invariant-down l = record {
  from : l.level ≤ l.i;
  within : l.i ≤ length l.self;
  found : option_copied l.found ≡ saved_within l.self (length l.self - l.i) l.cell;
  can_hold : IfSome l.found (λ x. CanHold l.cell x.now);
}

abbrev pub decreases-down : goal.decreases-down
decreases-down l = l.i - l.level
