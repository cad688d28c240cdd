use Rattle.std.proofs.Common.{◌≡◌, ◌∙◌, sym, ap, subst}
use Rattle.std.specs.Prelude.{IfOk}
use Rattle.class_model.specs.declared.types.OclType.{OclType}
use Rattle.ocl_shapes.specs.Sources.{element_or_itself}
use Rattle.ocl_shapes.proofs.Nested.{element_of_coll}
use Rattle.ocl_shapes.proofs.elements.element_or_itself.Goals as goal

pub returns-in-Coll : goal.returns-in-Coll
returns-in-Coll c =
    subst (λ (e : OclType). IfOk c.try_copy.result (λ t. t ≡ e))
    (c.get.ensures ∙ sym (ap element_or_itself c.in-Coll.is ∙ element_of_coll c.in-Coll.field-0 c.in-Coll.element)) c.try_copy.ensures
