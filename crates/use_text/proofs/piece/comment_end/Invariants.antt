use Rattle.std.proofs.Common.{◌≡◌, ◌+◌, drop, false}
use Rattle.use_text.specs.Pieces.{comment_end}
use Rattle.use_text.proofs.piece.comment_end.Given as goal

abbrev pub invariant-bytes : goal.invariant-bytes
invariant-bytes l = comment_end (l.i + 2) l.star (drop l.i l.bytes) ≡ comment_end 2 false l.bytes
