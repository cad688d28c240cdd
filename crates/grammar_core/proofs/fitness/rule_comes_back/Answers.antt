use Rattle.std.proofs.Common.{sym}
use Rattle.grammar_core.proofs.Unfitness.{rule_to}
use Rattle.grammar_core.proofs.fitness.rule_comes_back.Goals as goal

pub leads_back-requires : goal.leads_back-requires
leads_back-requires c = rule_to c.args.g.now c.args.r c.in-Some.rule c.requires (sym c.in-Some.ensures)
