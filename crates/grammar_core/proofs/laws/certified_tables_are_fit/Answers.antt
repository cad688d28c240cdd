use Rattle.grammar_core.proofs.Certified.{fit_from_certificate}
use Rattle.grammar_core.proofs.laws.certified_tables_are_fit.Goals as goal

pub returns : goal.returns
returns c = fit_from_certificate
