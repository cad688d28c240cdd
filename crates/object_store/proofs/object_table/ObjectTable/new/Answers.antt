use Rattle.std.specs.Map.{keys_of}
use Rattle.std.proofs.Common.{[], None, ap}
use Rattle.std.specs.HashMap.{get_by_text}
use Rattle.object_store.proofs.Named.{none_found}
use Rattle.object_store.proofs.Tables.{objects_none, tied_with}
use Rattle.object_store.proofs.object_table.ObjectTable.new.Goals as goal

pub invariant_of-result : goal.invariant_of-result
invariant_of-result c =
    tied_with c.args.layout [] c.new.result (λ n. None) (get_by_text c.new-2.result) [] (keys_of c.new-3.result) c.new.ensures
    (λ n. none_found c.new-2.result c.new-2.ensures.empty n) (ap keys_of c.new-3.ensures) (objects_none c.args.layout)
