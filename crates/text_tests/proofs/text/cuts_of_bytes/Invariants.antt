use Rattle.std.proofs.Common.{◌≡◌, ◌≤◌, ◌+◌, [], length}
use Rattle.text_tests.proofs.text.cuts_of_bytes.Given as goal

abbrev pub invariant-bytes : goal.invariant-bytes
invariant-bytes l = record { few : l.cutter.count ≤ l.i; none : l.cutter.waiting ≡ [] }

abbrev pub invariant-cuts : goal.invariant-cuts
invariant-cuts l = l.cutter.count ≤ l.i + 1

abbrev pub decreases-cuts : goal.decreases-cuts
decreases-cuts l = length l.cutter.waiting
