-- The language's grammar as one table.
use Rattle.std.specs.Prelude.{ℕ, List, ◌++◌, map, Bool}
use Rattle.std.specs.List.{range_with_len}
use Rattle.grammar_core.specs.declared.table.Table.{Table}
use Rattle.grammar_core.specs.declared.table.Prod.{Prod}
use Rattle.grammar_core.specs.declared.table.Prod.TheVariants.{Tok, Call}
use Rattle.grammar_core.specs.Tables.{table_of}
use Rattle.use_syntax.specs.declared.row.Symbol.TheVariants.{Production}
use Rattle.use_syntax.specs.Forms.{Form, place_of, prod_of}
use Rattle.use_syntax.specs.Numbers.{rule_count, token_count}
use Rattle.use_syntax.specs.RuleBodies.{rule_bodies}
use Rattle.use_syntax.specs.TypeForms.{name_forms, type_forms}
use Rattle.use_syntax.specs.ExpressionForms.{args_forms, arithmetic_forms, collection_forms, comparison_forms, dot_forms, item_forms, logic_forms}
use Rattle.use_syntax.specs.ExpressionForms.{named_forms, postfix_forms, primary_forms, unary_forms}
use Rattle.use_syntax.specs.StatementForms.{block_forms, change_forms, control_forms, statement_forms}
use Rattle.use_syntax.specs.CommandForms.{command_forms, query_forms, report_forms}
use Rattle.use_syntax.specs.ModelForms.{assoc_forms, class_forms, context_forms, end_forms, file_forms, head_forms, oper_forms}

abbrev pub prods_of : List Form → List Prod
prods_of forms = map prod_of forms

-- one token of each kind
unfoldable pub token_prods : List Prod
token_prods = map Tok (range_with_len 0 token_count)

-- each rule
unfoldable pub call_prods : List Prod
call_prods = map Call (range_with_len 0 rule_count)

unfoldable pub type_prods : List Prod
type_prods = prods_of name_forms ++ prods_of type_forms

unfoldable pub expression_prods : List Prod
expression_prods =
    prods_of item_forms ++ prods_of args_forms ++ prods_of collection_forms ++ prods_of named_forms
    ++ prods_of primary_forms ++ prods_of dot_forms ++ prods_of postfix_forms ++ prods_of unary_forms
    ++ prods_of arithmetic_forms ++ prods_of comparison_forms ++ prods_of logic_forms

unfoldable pub statement_prods : List Prod
statement_prods = prods_of block_forms ++ prods_of change_forms ++ prods_of control_forms ++ prods_of statement_forms

unfoldable pub command_prods : List Prod
command_prods = prods_of query_forms ++ prods_of report_forms ++ prods_of command_forms

unfoldable pub model_prods : List Prod
model_prods =
    prods_of head_forms ++ prods_of oper_forms ++ prods_of class_forms ++ prods_of end_forms
    ++ prods_of assoc_forms ++ prods_of context_forms ++ prods_of file_forms

-- the tokens, the calls of rules, and the productions with names
unfoldable pub all_prods : List Prod
all_prods = token_prods ++ call_prods ++ type_prods ++ expression_prods ++ statement_prods ++ command_prods ++ model_prods

-- the production of each rule
unfoldable pub bodies : List ℕ
bodies = map (λ b. place_of (Production b.0)) rule_bodies

-- whether each rule nests
unfoldable pub nests : List Bool
nests = map (λ b. b.1) rule_bodies

unfoldable pub language : Table
language = table_of all_prods bodies nests
