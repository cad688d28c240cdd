use Rattle.ocl_syntax.proofs.PlacesStand.{every_first, every_place}
use Rattle.ocl_syntax.proofs.laws.places_stand_in_expressions.Goals as goal

pub returns-clause-first : goal.returns-clause-first
returns-clause-first c = every_first c.args.expression.now

pub returns-clause-spoken_of : goal.returns-clause-spoken_of
returns-clause-spoken_of c = every_place c.args.expression.now
