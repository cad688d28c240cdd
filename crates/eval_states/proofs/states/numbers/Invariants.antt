use Rattle.std.proofs.Common.{All}
use Rattle.ocl_values.specs.Shape.{IsWellMade}
use Rattle.eval_states.proofs.states.numbers.Given as goal

abbrev pub invariant-numbers : goal.invariant-numbers
invariant-numbers l = All IsWellMade l.values.items
