use Rattle.std.proofs.Common.{[]}
use Rattle.std.specs.HashMap.{get_by_text}
use Rattle.class_decls.proofs.Numbered.{numbered_more}
use Rattle.class_builder.specs.Models.{stored_in, type_by}
use Rattle.class_builder.proofs.features.stored_attributes.Goals as goal

pub classes-preserved : goal.classes-preserved
classes-preserved c =
    rw (c.in_ok-add_stored.ensures, c.as_slice.ensures, c.classes.invariant)
    (numbered_more (λ n d. stored_in (type_by (λ text. get_by_text c.args.names.now text)) n d.now) [] _ _ _ c.classes-test.true c.index-classes-i.is)
