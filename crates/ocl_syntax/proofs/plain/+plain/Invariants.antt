use Rattle.ocl_syntax.proofs.Passing.{passes}
use Rattle.ocl_syntax.proofs.plain.+plain.Given as goal

abbrev pub decreases-plain : goal.decreases-plain
decreases-plain l = passes l.node.now
