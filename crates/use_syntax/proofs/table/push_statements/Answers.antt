use Rattle.std.proofs.Common.{List, ◌++◌}
use Rattle.grammar_core.specs.declared.table.Prod.{Prod}
use Rattle.use_syntax.specs.StatementForms.{block_forms, change_forms, control_forms, statement_forms}
use Rattle.use_syntax.specs.Language.{prods_of, statement_prods}
use Rattle.use_syntax.proofs.Appended.{and_then}
use Rattle.use_syntax.proofs.table.push_statements.Goals as goal

pub returns : goal.returns
unfolding statement_prods
returns c =
    let to_change = and_then _ _ _ (prods_of block_forms) (prods_of change_forms) c.in_ok-push_rows.ensures c.in_ok-push_rows-2.ensures in
    let of_change : List Prod = prods_of block_forms ++ prods_of change_forms in
    let to_control = and_then _ _ _ of_change (prods_of control_forms) to_change c.in_ok-push_rows-3.ensures in
    and_then _ _ _ _ (prods_of statement_forms) to_control c.in_ok-push_rows-4.ensures
