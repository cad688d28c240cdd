use Rattle.std.proofs.Common.{length, ◌-◌, ◌≤◌, slice_range}
use Rattle.use_text.specs.Lines.{IsInLine}
use Rattle.use_text.proofs.line.line_end.Given as goal

abbrev pub invariant-bytes : goal.invariant-bytes
invariant-bytes l = record {
  ahead : l.at ≤ l.end;
  within : l.end ≤ length l.bytes;
  so_far : IsInLine (slice_range l.bytes l.at l.end);
}

abbrev pub decreases-bytes : goal.decreases-bytes
decreases-bytes l = length l.bytes - l.end
