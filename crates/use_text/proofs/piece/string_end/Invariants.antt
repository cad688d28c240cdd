use Rattle.std.proofs.Common.{◌≡◌, ◌+◌, drop, false}
use Rattle.use_text.specs.Pieces.{string_end}
use Rattle.use_text.proofs.piece.string_end.Given as goal

abbrev pub invariant-bytes : goal.invariant-bytes
invariant-bytes l = string_end (l.i + 1) l.taken (drop l.i l.bytes) ≡ string_end 1 false l.bytes
