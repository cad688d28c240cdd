use Rattle.std.proofs.Common.{ap, ◌∙◌, ℕ, List, None, Some}
use Rattle.std.specs.HashMap.{get_by_text}
use Rattle.std.specs.Map.{update}
use Rattle.std.specs.Str.{bytes_eq}
use Rattle.object_store.proofs.Named.{restored_name}
use Rattle.object_store.proofs.object_table.put_indexes.Goals as goal

pub returns-in-Err-clause-no_name : goal.returns-in-Err-clause-no_name
returns-in-Err-clause-no_name c =
    restored_name (get_by_text c.args.names.now) c.args.new.now.name (get_by_text c.put_name.new.numbers) (get_by_text c.take_name.new.numbers) c.args.new.now.object
    c.requires.fresh
    (λ n. c.in_ok-put_name.ensures.ok n ∙ ap (λ (m : List ℕ). update bytes_eq (get_by_text c.args.names.now) m (Some c.args.new.now.object) n) c.as_str.ensures)
    (λ n. c.take_name.ensures n ∙ ap (λ (m : List ℕ). update bytes_eq (get_by_text c.put_name.new.numbers) m None n) c.as_str-in-Err.ensures)
