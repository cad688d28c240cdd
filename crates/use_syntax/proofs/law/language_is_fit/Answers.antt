use Rattle.use_syntax.proofs.Fitness.{is_fit}
use Rattle.use_syntax.proofs.law.language_is_fit.Goals as goal

pub returns : goal.returns
returns c = is_fit
