use Rattle.grammar_core.specs.Chains.{Leads}
use Rattle.grammar_core.proofs.chains.chain_from.Given as goal

abbrev pub invariant-links : goal.invariant-links
invariant-links l = Leads l.table l.fn.p l.links l.end
