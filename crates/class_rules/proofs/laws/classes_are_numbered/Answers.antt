use Rattle.class_rules.proofs.Acyclic.{all_numbered}
use Rattle.class_rules.proofs.Ordered.{downward}
use Rattle.class_rules.proofs.laws.classes_are_numbered.Goals as goal

pub returns-clause-each : goal.returns-clause-each
returns-clause-each c = λ ds h. all_numbered ds h

pub returns-clause-downward : goal.returns-clause-downward
returns-clause-downward c = λ ds. downward ds
