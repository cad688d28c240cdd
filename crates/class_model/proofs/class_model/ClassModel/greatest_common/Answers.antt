use Rattle.std.proofs.Common.{◌≡◌, ◌∙◌, sym, ap, filter, take}
use Rattle.class_model.specs.Indexes.{greatest_by}
use Rattle.class_model.specs.Inheritance.{is_a}
use Rattle.class_model.proofs.Greatest.{filter_more, greatest_more}
use Rattle.class_model.proofs.class_model.ClassModel.greatest_common.Goals as goal

pub ancestors-preserved : goal.ancestors-preserved
ancestors-preserved c =
    let items = c.ancestors-class-items.result.now in
    let test = is_a c.args.self.now c.args.b in
    let so_far : c.ancestors.best ≡ greatest_by (λ x. x) (filter test (take c.ancestors.class-index items)) = c.ancestors.invariant in
    c.greater_if-best.ensures
    ∙ rw (so_far, c.is_a.ensures) (greatest_more (λ x. x) (filter test (take c.ancestors.class-index items)) _ _)
    ∙ ap (greatest_by (λ x. x)) (sym (filter_more test items c.ancestors.class-index c.ancestors-test.true))
