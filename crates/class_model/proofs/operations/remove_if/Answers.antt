use Rattle.std.proofs.Common.{◌∙◌, ◌&&◌, ap, sym, cond, None}
use Rattle.std.specs.HashMap.{get_by_text}
use Rattle.std.proofs.lemmas.Map.Text.{hash_map_updates_text}
use Rattle.class_decls.specs.Texts.{same_text}
use Rattle.class_model.proofs.operations.remove_if.Goals as goal

pub returns-then-holds : goal.returns-then-holds
returns-then-holds c = λ t.
    hash_map_updates_text c.args.name.now c.args.map.now c.remove.new.self None c.remove.ensures.updates t
    ∙ ap (λ b. cond (b && same_text c.args.name.now t) None (get_by_text c.args.map.now t)) (sym c.if-holds.true)
