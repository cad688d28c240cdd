use Rattle.std.proofs.Common.{◌≡◌, ◌≤◌, ◌∙◌, Bor, List, ℕ, length, map, unwrap_or, ap, ap₂, sym, arith}
use Rattle.std.specs.HashMap.{get_by_text}
use Rattle.std.specs.List.{enumerate_from}
use Rattle.std.proofs.Math.Path.{fun_ext}
use Rattle.class_decls.specs.declared.decls.ClassDecl.{ClassDecl}
use Rattle.class_decls.specs.Texts.{same_text}
use Rattle.class_rules.specs.Ancestors.{parent_numbers}
use Rattle.class_builder.specs.Models.{association, class_by, class_number, enumeration, named_in, ordered}
use Rattle.class_builder.proofs.Assembled.{assembled, position-map}
use Rattle.class_builder.proofs.Ranges.{few_decls, few_enums}
use Rattle.class_builder.proofs.construction.model_of.Goals as goal

pub type_names-requires-clause-enums : goal.type_names-requires-clause-enums
type_names-requires-clause-enums c = rw c.as_slice.ensures (let h = few_enums c.args.decls.now c.requires in omega arith)

pub type_names-requires-clause-classes : goal.type_names-requires-clause-classes
type_names-requires-clause-classes c =
    let k : length c.as_slice-by_number.result.now ≤ 200 =
    few_decls c.args.decls.now c.requires _ _ _ c.as_slice-by_number.ensures.value c.in_ok-by_number.ensures c.in_ok-hierarchy.ensures in
    omega arith

pub class_numbers-requires : goal.class_numbers-requires
class_numbers-requires c =
    let k : length c.as_slice-by_number.result.now ≤ 200 =
    few_decls c.args.decls.now c.requires _ _ _ c.as_slice-by_number.ensures.value c.in_ok-by_number.ensures c.in_ok-hierarchy.ensures in
    omega arith

pub stored_attributes-requires : goal.stored_attributes-requires
stored_attributes-requires c =
    let k : length c.as_slice-by_number.result.now ≤ 200 =
    few_decls c.args.decls.now c.requires _ _ _ c.as_slice-by_number.ensures.value c.in_ok-by_number.ensures c.in_ok-hierarchy.ensures in
    omega arith

pub derived_attributes-requires : goal.derived_attributes-requires
derived_attributes-requires c =
    let k : length c.as_slice-by_number.result.now ≤ 200 =
    few_decls c.args.decls.now c.requires _ _ _ c.as_slice-by_number.ensures.value c.in_ok-by_number.ensures c.in_ok-hierarchy.ensures in
    omega arith

pub operations-requires : goal.operations-requires
operations-requires c =
    let k : length c.as_slice-by_number.result.now ≤ 200 =
    few_decls c.args.decls.now c.requires _ _ _ c.as_slice-by_number.ensures.value c.in_ok-by_number.ensures c.in_ok-hierarchy.ensures in
    omega arith

pub classes-requires : goal.classes-requires
classes-requires c = record {
  small =
      let k : length c.as_slice-by_number.result.now ≤ 200 =
      few_decls c.args.decls.now c.requires _ _ _ c.as_slice-by_number.ensures.value c.in_ok-by_number.ensures c.in_ok-hierarchy.ensures in
      omega arith;
}

pub returns : goal.returns
returns c =
    let ds = c.args.decls.now in
    let decls = c.as_slice-by_number.result.now in
    let number : List ℕ → ℕ = λ t. unwrap_or (get_by_text c.in_ok-numbers.numbers t) 0 in
    let by_number : map (λ (d : Bor ClassDecl). d.now) decls ≡ ordered ds =
    ap (map (λ (d : Bor ClassDecl). d.now)) c.as_slice-by_number.ensures.value ∙ c.in_ok-by_number.ensures ∙ ap ordered c.in_ok-hierarchy.ensures in
    assembled ds decls (λ t. get_by_text c.in_ok-names.names t) number _ _ _ _ _ _ _ by_number
    (fun_ext (λ t. c.in_ok-names.ensures t ∙ ap₂ (λ e l. named_in e l t) c.as_slice.ensures by_number))
    (fun_ext (λ t. ap (λ o. unwrap_or o 0) (c.in_ok-numbers.ensures t ∙ position-map (λ d. same_text d.name.text t) (λ d. d.now) 0 decls) ∙ ap
    (λ l. class_number l t) by_number))
    (record {
      name = c.in_ok-copy_of.ensures ∙ c.as_str.ensures;
      enums = c.in_ok-enumerations.ensures ∙ ap (map enumeration) c.as_slice-2.ensures;
      classes = c.in_ok-classes.ensures ∙ ap (λ h. map (λ p. class_by (parent_numbers h) p.0 p.1.now) (enumerate_from 0 decls)) c.in_ok-hierarchy.ensures;
      attrs = c.in_ok-stored_attributes.ensures;
      derived = c.in_ok-derived_attributes.ensures;
      ops = c.in_ok-operations.ensures;
      assocs = c.in_ok-associations.ensures ∙ ap (map (association number)) c.as_slice-3.ensures;
    })
