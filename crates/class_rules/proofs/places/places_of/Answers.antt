use Rattle.std.proofs.Common.{◌≡◌, ◌+◌, sym, ◌∙◌, arith}
use Rattle.class_decls.specs.Texts.{same_text}
use Rattle.class_rules.proofs.PlacedClasses.{position_more}
use Rattle.class_rules.proofs.places.places_of.Goals as goal

pub classes-preserved : goal.classes-preserved
classes-preserved c = λ t.
    let z : 0 + c.classes.i ≡ c.classes.i = omega arith in
    c.in_ok-add_place.ensures t
    ∙ rw (c.classes.invariant t, c.as_str.ensures)
    (sym (rw z at (position_more (λ d. same_text d.name.text t) 0 c.args.classes.now c.classes.i _ c.classes-test.true c.index-classes-i.is)))
