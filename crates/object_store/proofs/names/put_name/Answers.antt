use Rattle.std.proofs.Common.{ap, ◌∙◌, ℕ, List, Some}
use Rattle.std.specs.HashMap.{get_by_text}
use Rattle.std.specs.Map.{update}
use Rattle.std.specs.Prelude.{string_bytes}
use Rattle.std.specs.Str.{bytes_eq}
use Rattle.std.proofs.lemmas.Map.Text.{hash_map_updates_text}
use Rattle.object_store.proofs.names.put_name.Goals as goal

pub returns-clause-ok : goal.returns-clause-ok
returns-clause-ok c = λ n.
    hash_map_updates_text (string_bytes c.in_ok-key.key) c.args.numbers.now c.insert.new.self (Some c.args.number) c.in_ok-insert.ensures.updates n
    ∙ ap (λ (m : List ℕ). update bytes_eq (get_by_text c.args.numbers.now) m (Some c.args.number) n) c.in_ok-key.ensures.ok
