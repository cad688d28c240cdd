use Rattle.std.proofs.Common.{subst, sym, arith, List, false}
use Rattle.ocl_values.specs.declared.value.Value.{Value}
use Rattle.ocl_eval.specs.Walks.{visits_pairs}
use Rattle.ocl_eval.specs.Evaluations.{Gives}
use Rattle.ocl_eval.specs.Nodes.{unvisited}
use Rattle.ocl_eval.specs.Parts.{ev_in}
use Rattle.ocl_eval.proofs.Pairs.{two_bound}
use Rattle.ocl_eval.proofs.node.Node.all_visits.Goals as goal

pub returns-then-count-eq2-clause-value : goal.returns-then-count-eq2-clause-value
returns-then-count-eq2-clause-value g c =
    subst (λ o. Gives o c.visits_pairs.result c.visits_pairs.new.meter)
    (sym (two_bound (ev_in g.V.States.now g.V.States.pre c.args.self.now.setting) c.args.locals.now c.args.op c.args.body.now c.args.count unvisited c.args.items.now c.args.meter.now (omega arith)))
    (subst
    (λ (l : List Value). Gives
    (visits_pairs (ev_in g.V.States.now g.V.States.pre c.args.self.now.setting) c.args.locals.now c.args.op c.args.body.now c.args.items.now
    (record { values = l; ended = false }) c.args.items.now
    c.args.meter.now) c.visits_pairs.result c.visits_pairs.new.meter)
    c.in_ok-values.ensures c.visits_pairs.ensures.value)
