use Rattle.std.proofs.Common.{◌≡◌, ◌++◌, map, take}
use Rattle.use_syntax.specs.Forms.{prod_of, form_of}
use Rattle.use_syntax.proofs.table.push_rows.Given as goal

abbrev pub invariant-rows : goal.invariant-rows
invariant-rows l = l.prods.items ≡ l.fn.prods.items ++ map (λ r. prod_of (form_of r)) (take l.row-index l.rows)
