use Rattle.std.proofs.Common.{◌∙◌, ap, cond, Some, string_bytes}
use Rattle.std.specs.HashMap.{get_by_text}
use Rattle.std.proofs.lemmas.Map.Text.{hash_map_updates_text}
use Rattle.class_decls.specs.Texts.{same_text}
use Rattle.class_model.proofs.by_name.put.Goals as goal

pub returns : goal.returns
returns g c = λ t.
    hash_map_updates_text (string_bytes c.in_ok-key.key) c.args.map.now c.insert.new.self (Some c.args.value) c.in_ok-insert.ensures.updates t
    ∙ ap (λ bs. cond (same_text bs t) (Some c.args.value) (get_by_text c.args.map.now t)) c.in_ok-key.ensures.ok
