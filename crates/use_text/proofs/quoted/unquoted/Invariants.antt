use Rattle.std.proofs.Common.{◌≡◌, ◌++◌, drop, false}
use Rattle.use_text.specs.Pieces.{unquoted}
use Rattle.use_text.proofs.quoted.unquoted.Given as goal

abbrev pub invariant-bytes : goal.invariant-bytes
invariant-bytes l = l.out.items ++ unquoted l.taken (drop l.b-index l.bytes) ≡ unquoted false l.bytes
