use Rattle.std.proofs.Common.{[], cond, Some, unwrap_or, string_bytes, ap, ◌∙◌}
use Rattle.std.specs.HashMap.{get_by_text}
use Rattle.std.proofs.lemmas.Map.Text.{hash_map_updates_text}
use Rattle.class_decls.specs.Texts.{same_text}
use Rattle.ocl_program.proofs.Contracted.{put_list}
use Rattle.ocl_program.proofs.by_operation.put.Goals as goal

pub returns : goal.returns
returns c = λ t.
    ap (λ o. unwrap_or o [])
    (hash_map_updates_text (string_bytes c.in_ok-key.key) c.args.map.now c.insert.new.self (Some c.args.declared) c.in_ok-insert.ensures.updates t
    ∙ ap (λ bs. cond (same_text bs t) (Some c.args.declared) (get_by_text c.args.map.now t)) c.in_ok-key.ensures.ok)
    ∙ put_list (same_text c.args.name.now t) c.args.declared (get_by_text c.args.map.now t)
