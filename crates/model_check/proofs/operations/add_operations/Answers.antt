use Rattle.std.proofs.Common.{ap, sym, ◌∙◌}
use Rattle.model_check.specs.Adding.{each_added}
use Rattle.model_check.specs.Walk.{oper, reading}
use Rattle.model_check.proofs.Steps.{added_step}
use Rattle.model_check.proofs.operations.add_operations.Goals as goal

pub nodes-preserved : goal.nodes-preserved
nodes-preserved c =
    let add = oper (reading c.args.source.now) c.args.class in
    let rest = c.next.new.self in
    record {
      can = tt;
      ends = tt;
      so_far =
          added_step add c.nodes.found c.add_operation.new.found c.in-Some.node rest c.in_ok-add_operation.ensures
          ∙ ap (λ l. each_added add c.nodes.found l) (sym c.in-Some.ensures.steps)
          ∙ c.nodes.invariant.so_far;
    }
