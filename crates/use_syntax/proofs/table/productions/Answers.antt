use Rattle.std.proofs.lemmas.Grind.{common_steps}
use Rattle.std.proofs.Common.{arith}
use Rattle.use_syntax.specs.Language.{all_prods}
use Rattle.use_syntax.proofs.table.productions.Goals as goal

pub returns : goal.returns
unfolding all_prods
returns c = grind (arith, common_steps)
