use Rattle.grammar_core.proofs.Reaching.{leads_more}
use Rattle.grammar_core.proofs.chains.chain_from.Goals as goal

pub links-preserved : goal.links-preserved
links-preserved c =
    rw c.in_ok-push-in-Some.ensures.ok
    (leads_more c.args.table.now c.links.links c.args.p c.links.end c.in-Some.linked.first c.in-Some.linked.link c.links.invariant c.in-Some.ensures)
