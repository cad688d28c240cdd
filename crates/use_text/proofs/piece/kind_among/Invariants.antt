use Rattle.std.proofs.Common.{◌≡◌, drop}
use Rattle.use_text.specs.Pieces.{kind_among}
use Rattle.use_text.proofs.piece.kind_among.Given as goal

abbrev pub invariant-rows : goal.invariant-rows
invariant-rows l = kind_among (drop l.row-index l.rows) (λ t. t.now) l.word ≡ kind_among l.rows (λ t. t.now) l.word
