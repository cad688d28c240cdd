use Rattle.use_syntax.specs.CommandForms.{command_forms, query_forms, report_forms}
use Rattle.use_syntax.specs.Language.{prods_of, command_prods}
use Rattle.use_syntax.proofs.Appended.{and_then}
use Rattle.use_syntax.proofs.table.push_commands.Goals as goal

pub returns : goal.returns
unfolding command_prods
returns c =
    let to_report = and_then _ _ _ (prods_of query_forms) (prods_of report_forms) c.in_ok-push_rows.ensures c.in_ok-push_rows-2.ensures in
    and_then _ _ _ _ (prods_of command_forms) to_report c.in_ok-push_rows-3.ensures
