use Rattle.std.proofs.Common.{◌≡◌, take}
use Rattle.ocl_eval.proofs.evaluation.copied.Given as goal

abbrev pub invariant-copy : goal.invariant-copy
invariant-copy l = l.values ≡ take l.value-index l.all
