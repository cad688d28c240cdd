use Rattle.std.specs.Prelude.{All}
use Rattle.use_session.specs.Shapes.{IsShape}
use Rattle.use_session.proofs.shapes.no_shapes.Given as goal

abbrev pub invariant-places : goal.invariant-places
invariant-places l = All IsShape l.places.items
