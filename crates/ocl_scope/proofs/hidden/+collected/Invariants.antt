use Rattle.ocl_rules.specs.Forms.{levels}
use Rattle.ocl_scope.proofs.hidden.+collected.Given as goal

abbrev pub decreases-collected : goal.decreases-collected
decreases-collected l = levels l.of_type.now
