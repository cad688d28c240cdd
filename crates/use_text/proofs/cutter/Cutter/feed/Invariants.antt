use Rattle.std.proofs.Common.{◌≤◌, length, ◌-◌, ◌+◌, take}
use Rattle.use_text.specs.Keeping.{IsFed}
use Rattle.use_text.proofs.cutter.Cutter.feed.Given as goal

abbrev pub invariant-lines : goal.invariant-lines
invariant-lines l = record {
  within : l.at ≤ length l.piece;
  few : l.self.count ≤ l.fn.self.count + l.at;
  fed : IsFed l.fn.self (take l.at l.piece) l.self;
}

abbrev pub decreases-lines : goal.decreases-lines
decreases-lines l = length l.piece - l.at
