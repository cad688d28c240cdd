use Rattle.std.proofs.Common.{length}
use Rattle.text_tests.proofs.text.cuts_shown.Given as goal

abbrev pub decreases-cuts : goal.decreases-cuts
decreases-cuts l = length l.cutter.waiting
