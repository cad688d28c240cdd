use Rattle.std.proofs.Common.{◌≡◌, ◌+◌, ◌∷◌, [], All, length, map, true, false}
use Rattle.ocl_operations.specs.Iterators.{takes_all}
use Rattle.ocl_values.specs.Shape.{IsWellMade}
use Rattle.ocl_eval.specs.Nodes.{visits}
use Rattle.ocl_eval.specs.Parts.{ev_in}
use Rattle.ocl_eval.specs.Places.{front}
use Rattle.ocl_eval.proofs.node.Node.visits_in_place.Given as goal

abbrev pub invariant-elements : goal.invariant-elements
invariant-elements g l = record {
  same : visits (ev_in g.V.States.now g.V.States.pre l.self.setting) (front 1 l.fn.locals) l.fn.op l.fn.body l.fn.before (map (λ x. x ∷ []) l.fn.items) l.fn.meter
      ≡ visits (ev_in g.V.States.now g.V.States.pre l.self.setting) (front 1 l.locals) l.op l.body l.seen (map (λ x. x ∷ []) l.rest) l.meter;
  others : front 1 l.locals ≡ front 1 l.fn.locals;
  places : length l.locals ≡ length l.fn.locals;
  ticks : g.V.States.count l.steps + l.meter.fuel ≡ g.V.States.count l.fn.steps + l.fn.meter.fuel;
  well : All IsWellMade l.rest;
  every : takes_all l.op ≡ true → l.fn.before.ended ≡ false → (l.seen.ended ≡ false) × (length l.seen.values + length l.rest
      ≡ length l.fn.before.values + length l.fn.items);
}

abbrev pub decreases-elements : goal.decreases-elements
decreases-elements g l = length l.rest
