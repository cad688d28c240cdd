use Rattle.std.proofs.Common.{◌≡◌, map, take}
use Rattle.use_syntax.specs.Forms.{place_of}
use Rattle.use_syntax.proofs.table.places_of.Given as goal

abbrev pub invariant-symbols : goal.invariant-symbols
invariant-symbols l = l.places.items ≡ map place_of (take l.symbol-index l.symbols)
