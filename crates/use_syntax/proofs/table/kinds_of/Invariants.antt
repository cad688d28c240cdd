use Rattle.std.proofs.Common.{◌≡◌, map, take}
use Rattle.use_text.specs.Kinds.{number_of}
use Rattle.use_syntax.proofs.table.kinds_of.Given as goal

abbrev pub invariant-kinds : goal.invariant-kinds
invariant-kinds l = l.numbers.items ≡ map number_of (take l.kind-index l.kinds)
