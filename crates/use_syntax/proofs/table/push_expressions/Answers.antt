use Rattle.std.proofs.Common.{List, ◌++◌}
use Rattle.grammar_core.specs.declared.table.Prod.{Prod}
use Rattle.use_syntax.specs.ExpressionForms.{args_forms, arithmetic_forms, collection_forms, comparison_forms, dot_forms, item_forms, logic_forms, named_forms, postfix_forms, primary_forms, unary_forms}
use Rattle.use_syntax.specs.Language.{prods_of, expression_prods}
use Rattle.use_syntax.proofs.Appended.{and_then}
use Rattle.use_syntax.proofs.table.push_expressions.Goals as goal

pub returns : goal.returns
unfolding expression_prods
returns c =
    let to_args = and_then _ _ _ (prods_of item_forms) (prods_of args_forms) c.in_ok-push_rows.ensures c.in_ok-push_rows-2.ensures in
    let of_args : List Prod = prods_of item_forms ++ prods_of args_forms in
    let to_collection = and_then _ _ _ of_args (prods_of collection_forms) to_args c.in_ok-push_rows-3.ensures in
    let of_collection : List Prod = of_args ++ prods_of collection_forms in
    let to_named = and_then _ _ _ of_collection (prods_of named_forms) to_collection c.in_ok-push_rows-4.ensures in
    let of_named : List Prod = of_collection ++ prods_of named_forms in
    let to_primary = and_then _ _ _ of_named (prods_of primary_forms) to_named c.in_ok-push_rows-5.ensures in
    let of_primary : List Prod = of_named ++ prods_of primary_forms in
    let to_dot = and_then _ _ _ of_primary (prods_of dot_forms) to_primary c.in_ok-push_rows-6.ensures in
    let of_dot : List Prod = of_primary ++ prods_of dot_forms in
    let to_postfix = and_then _ _ _ of_dot (prods_of postfix_forms) to_dot c.in_ok-push_rows-7.ensures in
    let of_postfix : List Prod = of_dot ++ prods_of postfix_forms in
    let to_unary = and_then _ _ _ of_postfix (prods_of unary_forms) to_postfix c.in_ok-push_rows-8.ensures in
    let of_unary : List Prod = of_postfix ++ prods_of unary_forms in
    let to_arithmetic = and_then _ _ _ of_unary (prods_of arithmetic_forms) to_unary c.in_ok-push_rows-9.ensures in
    let of_arithmetic : List Prod = of_unary ++ prods_of arithmetic_forms in
    let to_comparison = and_then _ _ _ of_arithmetic (prods_of comparison_forms) to_arithmetic c.in_ok-push_rows-10.ensures in
    and_then _ _ _ _ (prods_of logic_forms) to_comparison c.in_ok-push_rows-11.ensures
