use Rattle.std.proofs.Common.{◌≡◌, ◌+◌, All, length}
use Rattle.ocl_values.specs.Shape.{IsWellMade}
use Rattle.ocl_eval.specs.Nodes.{iterate}
use Rattle.ocl_eval.specs.Parts.{ev_in}
use Rattle.ocl_eval.specs.Places.{front}
use Rattle.ocl_eval.proofs.node.Node.iterate_in_place.Given as goal

abbrev pub invariant-elements : goal.invariant-elements
invariant-elements g l = record {
  same : iterate (ev_in g.V.States.now g.V.States.pre l.self.setting) (front 2 l.fn.locals) l.fn.body l.fn.start l.fn.items l.fn.meter
      ≡ iterate (ev_in g.V.States.now g.V.States.pre l.self.setting) (front 2 l.locals) l.body l.acc l.rest l.meter;
  others : front 2 l.locals ≡ front 2 l.fn.locals;
  places : length l.locals ≡ length l.fn.locals;
  ticks : g.V.States.count l.steps + l.meter.fuel ≡ g.V.States.count l.fn.steps + l.fn.meter.fuel;
  acc : IsWellMade l.acc;
  well : All IsWellMade l.rest;
}

abbrev pub decreases-elements : goal.decreases-elements
decreases-elements g l = length l.rest
