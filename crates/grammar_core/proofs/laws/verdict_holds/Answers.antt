use Rattle.grammar_core.proofs.Verdicts.{computed_holds}
use Rattle.grammar_core.proofs.laws.verdict_holds.Goals as goal

pub returns : goal.returns
returns c = λ g ks r fit inside. computed_holds g ks fit r inside
