use Rattle.std.proofs.Common.{◌≡◌, drop}
use Rattle.use_text.specs.Pieces.{symbol_among}
use Rattle.use_text.proofs.piece.symbol_among.Given as goal

abbrev pub invariant-rows : goal.invariant-rows
invariant-rows l = symbol_among (drop l.row-index l.rows) (λ t. t.now) l.bytes ≡ symbol_among l.rows (λ t. t.now) l.bytes
