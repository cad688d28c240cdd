use Rattle.std.proofs.Common.{◌≡◌, ◌+◌, All, length}
use Rattle.ocl_values.specs.Shape.{IsWellMade}
use Rattle.ocl_eval.specs.Walks.{visits_pairs}
use Rattle.ocl_eval.specs.Parts.{ev_in}
use Rattle.ocl_eval.proofs.node.Node.visits_pairs.Given as goal

abbrev pub invariant-firsts : goal.invariant-firsts
invariant-firsts g l = record {
  same : visits_pairs (ev_in g.V.States.now g.V.States.pre l.self.setting) l.fn.locals l.fn.op l.fn.body l.fn.items l.fn.before l.fn.firsts l.fn.meter
      ≡ visits_pairs (ev_in g.V.States.now g.V.States.pre l.self.setting) l.locals l.op l.body l.items l.seen l.rest l.meter;
  locals : l.locals ≡ l.fn.locals;
  ticks : g.V.States.count l.steps + l.meter.fuel ≡ g.V.States.count l.fn.steps + l.fn.meter.fuel;
  well : All IsWellMade l.rest;
}

abbrev pub decreases-firsts : goal.decreases-firsts
decreases-firsts g l = length l.rest
