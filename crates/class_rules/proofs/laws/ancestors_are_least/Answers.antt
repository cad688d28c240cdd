use Rattle.class_rules.proofs.LeastAbove.{least_above}
use Rattle.class_rules.proofs.laws.ancestors_are_least.Goals as goal

pub returns : goal.returns
returns c = λ parents k down. least_above parents down k
