use Rattle.std.proofs.Common.{◌∙◌, List, ap, map, subst}
use Rattle.std.specs.List.{position_from}
use Rattle.class_decls.specs.Texts.{same_text}
use Rattle.class_rules.specs.Ancestors.{ancestors}
use Rattle.class_rules.specs.Numbering.{is_among}
use Rattle.class_model.specs.declared.object_model.Association.{Association}
use Rattle.class_model.specs.declared.object_model.Class.{Class}
use Rattle.class_model.specs.declared.object_model.Enumeration.{Enumeration}
use Rattle.class_model.specs.Features.{literals_in}
use Rattle.class_model.specs.Indexes.{AreLiteralTables, one_or_several}
use Rattle.class_model.proofs.class_model.ClassModel.of.Goals as goal

pub invariant_of-result : goal.invariant_of-result
invariant_of-result c = record {
  in_range = c.requires;
  table = λ x d. c.in_ok-table.ensures x d ∙ ap (λ (l : List Class). is_among (ancestors (map (λ k. k.parents) l) x) d) c.as_slice.ensures;
  classes = c.in_ok-classes.ensures;
  classes_by_name = λ t. c.in_ok-classes_by_name.ensures t ∙ ap (λ (l : List Class). position_from (λ x. same_text x.name t) 0 l) c.as_slice-3.ensures;
  enums_by_name = λ t. c.in_ok-enums_by_name.ensures t ∙ ap (λ (l : List Enumeration). position_from (λ x. same_text x.name t) 0 l) c.as_slice-4.ensures;
  assocs_by_name = λ t. c.in_ok-assocs_by_name.ensures t ∙ ap (λ (l : List Association). position_from (λ x. same_text x.name t) 0 l) c.as_slice-5.ensures;
  literals = subst (λ (l : List Enumeration). AreLiteralTables l c.in_ok-literals.literals.items) c.as_slice-6.ensures c.in_ok-literals.ensures;
  only_literals = λ t. c.in_ok-only_literals.ensures t ∙ ap (λ (l : List Enumeration). one_or_several (literals_in l t)) c.as_slice-7.ensures;
}
