use Rattle.std.proofs.Common.{map, sym}
use Rattle.class_decls.proofs.Numbered.{flat_map_next}
use Rattle.class_rules.proofs.unbroken.all_attr_texts.Goals as goal

pub classes-preserved : goal.classes-preserved
classes-preserved c =
    rw (c.in_ok-add_texts.ensures, c.as_slice.ensures, c.classes.invariant)
    (sym (flat_map_next (λ d. map (λ a. a.name.text) d.attrs) c.args.classes.now c.classes.class-index c.class-item.result c.classes-test.true c.class-item.is))
