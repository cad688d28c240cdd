use Rattle.std.proofs.Common.{◌≡◌, ◌+◌, All, length}
use Rattle.ocl_eval.specs.Nodes.{values}
use Rattle.ocl_eval.specs.Parts.{ev_in}
use Rattle.ocl_core.specs.Trees.{IsSound}
use Rattle.ocl_eval.proofs.node.Node.values.Given as goal

abbrev pub invariant-parts : goal.invariant-parts
invariant-parts g l = record {
  same : values (ev_in g.V.States.now g.V.States.pre l.self.setting) l.fn.locals l.fn.done l.fn.all l.fn.meter
      ≡ values (ev_in g.V.States.now g.V.States.pre l.self.setting) l.locals l.done l.rest l.meter;
  locals : l.locals ≡ l.fn.locals;
  ticks : g.V.States.count l.steps + l.meter.fuel ≡ g.V.States.count l.fn.steps + l.fn.meter.fuel;
  trees : All IsSound l.rest;
}

abbrev pub decreases-parts : goal.decreases-parts
decreases-parts g l = length l.rest
