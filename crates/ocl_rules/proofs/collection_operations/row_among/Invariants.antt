use Rattle.std.proofs.Common.{◌≡◌, drop}
use Rattle.ocl_rules.specs.CollectionOperations.{row_among}
use Rattle.ocl_rules.proofs.collection_operations.row_among.Given as goal

abbrev pub invariant-rows : goal.invariant-rows
invariant-rows l = row_among (drop l.row-index l.rows) (λ t. t.now) l.name ≡ row_among l.rows (λ t. t.now) l.name
