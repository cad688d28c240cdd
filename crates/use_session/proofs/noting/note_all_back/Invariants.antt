use Rattle.std.proofs.Common.{◌≤◌, length, take}
use Rattle.use_session.proofs.Noted.{BackSoFar}
use Rattle.use_session.proofs.noting.note_all_back.Given as goal

abbrev pub invariant-changes : goal.invariant-changes
invariant-changes l = record {
  within : l.left ≤ length l.changes;
  back : BackSoFar l.model l.fn.structure l.changes l.structure (take l.left l.changes);
}

abbrev pub decreases-changes : goal.decreases-changes
decreases-changes l = l.left
