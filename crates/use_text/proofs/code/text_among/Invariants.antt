use Rattle.std.proofs.Common.{◌≡◌, drop}
use Rattle.use_text.specs.Codes.{text_among}
use Rattle.use_text.specs.CodeRows.{rows_of}
use Rattle.use_text.proofs.code.text_among.Given as goal

abbrev pub invariant-rows : goal.invariant-rows
invariant-rows l = text_among (rows_of (drop l.row-index l.rows) (λ t. t.now)) l.number ≡ text_among (rows_of l.rows (λ t. t.now)) l.number
