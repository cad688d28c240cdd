use Rattle.std.proofs.Common.{[], None, unwrap_or, ap, ◌∙◌}
use Rattle.std.specs.HashMap.{get_by_text}
use Rattle.std.proofs.lemmas.Map.Text.{hash_map_updates_text}
use Rattle.class_decls.specs.Texts.{same_text}
use Rattle.ocl_program.proofs.Contracted.{left_list}
use Rattle.ocl_program.proofs.by_operation.take.Goals as goal

pub returns-in-Some-clause-left : goal.returns-in-Some-clause-left
returns-in-Some-clause-left c = λ t.
    ap (λ o. unwrap_or o []) (hash_map_updates_text c.args.name.now c.args.map.now c.remove.new.self None c.remove.ensures.updates t)
    ∙ left_list (same_text c.args.name.now t) (get_by_text c.args.map.now t)
