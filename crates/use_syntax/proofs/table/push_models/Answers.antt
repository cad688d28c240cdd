use Rattle.std.proofs.Common.{List, ◌++◌}
use Rattle.grammar_core.specs.declared.table.Prod.{Prod}
use Rattle.use_syntax.specs.ModelForms.{assoc_forms, class_forms, context_forms, end_forms, file_forms, head_forms, oper_forms}
use Rattle.use_syntax.specs.Language.{prods_of, model_prods}
use Rattle.use_syntax.proofs.Appended.{and_then}
use Rattle.use_syntax.proofs.table.push_models.Goals as goal

pub returns : goal.returns
unfolding model_prods
returns c =
    let to_oper = and_then _ _ _ (prods_of head_forms) (prods_of oper_forms) c.in_ok-push_rows.ensures c.in_ok-push_rows-2.ensures in
    let of_oper : List Prod = prods_of head_forms ++ prods_of oper_forms in
    let to_class = and_then _ _ _ of_oper (prods_of class_forms) to_oper c.in_ok-push_rows-3.ensures in
    let of_class : List Prod = of_oper ++ prods_of class_forms in
    let to_end = and_then _ _ _ of_class (prods_of end_forms) to_class c.in_ok-push_rows-4.ensures in
    let of_end : List Prod = of_class ++ prods_of end_forms in
    let to_assoc = and_then _ _ _ of_end (prods_of assoc_forms) to_end c.in_ok-push_rows-5.ensures in
    let of_assoc : List Prod = of_end ++ prods_of assoc_forms in
    let to_context = and_then _ _ _ of_assoc (prods_of context_forms) to_assoc c.in_ok-push_rows-6.ensures in
    and_then _ _ _ _ (prods_of file_forms) to_context c.in_ok-push_rows-7.ensures
