use Rattle.std.proofs.Common.{◌∙◌, ap, cond, Some, None}
use Rattle.std.specs.List.{list_all}
use Rattle.std.specs.Option.{option_and_then}
use Rattle.class_model.specs.Conformance.{common_ancestors}
use Rattle.class_model.specs.Inheritance.{is_a}
use Rattle.class_model.proofs.Lowest.{lowest_is}
use Rattle.class_model.proofs.class_model.ClassModel.lowest_inside.Goals as goal

pub returns : goal.returns
returns c =
    let m = c.args.self.now in
    let common = common_ancestors m c.args.a c.args.b in
    c.if_lowest.ensures
    ∙ ap (option_and_then (λ x. cond (list_all (is_a m x) common) (Some x) None)) c.greatest_common.ensures
    ∙ lowest_is m c.has_numbers_in_range.ensures.acyclic common
