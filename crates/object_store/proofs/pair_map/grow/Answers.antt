use Rattle.std.proofs.Common.{◌∙◌, ◌++◌, ◌∷◌, [], ap}
use Rattle.object_store.specs.Pairs.{pairs}
use Rattle.object_store.proofs.PairRows.{one_row_more}
use Rattle.object_store.proofs.pair_map.grow.Goals as goal

pub grow-preserved : goal.grow-preserved
grow-preserved g c =
    ap (λ rows. pairs 0 rows) (c.in_ok-push.ensures.items ∙ ap (λ row. c.grow.rows.items ++ row ∷ []) c.new.ensures)
    ∙ one_row_more c.grow.rows.items ∙ c.grow.invariant
