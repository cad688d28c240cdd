use Rattle.eval_scene.proofs.Sound.{typed_is_sound}
use Rattle.eval_scene.proofs.queries.typed_as_written.Goals as goal

pub returns : goal.returns
returns c = typed_is_sound _ _ _ c.type_expr.result c.type_expr.ensures.value c.types_are_in_range.ensures
