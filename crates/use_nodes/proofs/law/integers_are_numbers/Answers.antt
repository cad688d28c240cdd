use Rattle.use_nodes.proofs.Numbers.{numbers_are}
use Rattle.use_nodes.proofs.law.integers_are_numbers.Goals as goal

pub returns : goal.returns
returns c = numbers_are
