-- A tree is whole where each of its nodes, at any depth, has the parts that its rule requires.
use Rattle.std.specs.Prelude.{◌≡◌, Bool, true, List, is_some}
use Rattle.use_text.specs.declared.token.Token.{Token}
use Rattle.grammar_core.specs.Trees.{ParseTree, onto, Row}
use Rattle.use_syntax.specs.declared.rule.Rule.{Rule}
use Rattle.use_syntax.specs.declared.rule.Rule.TheVariants as r
use Rattle.use_syntax.specs.Reading.{Reading, parsed}
use Rattle.use_nodes.specs.Nodes.{EachNode, is_rule}
use Rattle.use_nodes.specs.TypeNodes.{names_node, type_node}
use Rattle.use_nodes.specs.ExpressionNodes.{args_node, arrow_node, bind_node, chain_node, choice_node, collection_node, dot_node, group_node, item_node}
use Rattle.use_nodes.specs.ExpressionNodes.{let_node, literal_node, named_node, part_node, postfix_node, primary_node, unary_node}
use Rattle.use_nodes.specs.StatementNodes.{assign_node, block_node, branch_node, create_node, declare_node, delete_node, destroy_node, for_node}
use Rattle.use_nodes.specs.StatementNodes.{insert_node, new_node, rhs_node, set_node, stmt_node, while_node}
use Rattle.use_nodes.specs.CommandNodes.{check_node, command_node, enter_node, execute_node, exit_node, info_node, query_node, view_node}
use Rattle.use_nodes.specs.ModelNodes.{assoc_end_node, assoc_node, attribute_node, class_node, cond_node, constraints_node, context_node, enum_node}
use Rattle.use_nodes.specs.ModelNodes.{file_node, head_node, inv_node, mult_node, oper_node, param_node, params_node, parents_node}

-- it is a node of this rule, with each part that the rule requires
abbrev pub has_parts : Rule → ParseTree → Bool
has_parts r.File t = is_some (file_node t)
has_parts r.Command t = is_some (command_node t)
has_parts r.Names t = is_some (names_node t)
has_parts r.Type t = is_some (type_node t)
has_parts r.Item t = is_some (item_node t)
has_parts r.Args t = is_some (args_node t)
has_parts r.Part t = is_some (part_node t)
has_parts r.Collection t = is_some (collection_node t)
has_parts r.Named t = is_some (named_node t)
has_parts r.Literal t = is_some (literal_node t)
has_parts r.Group t = is_some (group_node t)
has_parts r.Choice t = is_some (choice_node t)
has_parts r.Primary t = is_some (primary_node t)
has_parts r.Dot t = is_some (dot_node t)
has_parts r.Arrow t = is_some (arrow_node t)
has_parts r.Postfix t = is_some (postfix_node t)
has_parts r.Bind t = is_some (bind_node t)
has_parts r.Let t = is_some (let_node t)
has_parts r.Unary t = is_some (unary_node t)
has_parts r.Muls t = is_some (chain_node t)
has_parts r.Sums t = is_some (chain_node t)
has_parts r.Rels t = is_some (chain_node t)
has_parts r.Eqs t = is_some (chain_node t)
has_parts r.Ands t = is_some (chain_node t)
has_parts r.Ors t = is_some (chain_node t)
has_parts r.Xors t = is_some (chain_node t)
has_parts r.Expr t = is_some (chain_node t)
has_parts r.Block t = is_some (block_node t)
has_parts r.New t = is_some (new_node t)
has_parts r.Rhs t = is_some (rhs_node t)
has_parts r.Create t = is_some (create_node t)
has_parts r.Set t = is_some (set_node t)
has_parts r.Destroy t = is_some (destroy_node t)
has_parts r.Insert t = is_some (insert_node t)
has_parts r.Delete t = is_some (delete_node t)
has_parts r.Declare t = is_some (declare_node t)
has_parts r.Branch t = is_some (branch_node t)
has_parts r.For t = is_some (for_node t)
has_parts r.While t = is_some (while_node t)
has_parts r.Assign t = is_some (assign_node t)
has_parts r.Stmt t = is_some (stmt_node t)
has_parts r.Enter t = is_some (enter_node t)
has_parts r.Exit t = is_some (exit_node t)
has_parts r.Execute t = is_some (execute_node t)
has_parts r.Query t = is_some (query_node t)
has_parts r.Check t = is_some (check_node t)
has_parts r.Info t = is_some (info_node t)
has_parts r.View t = is_some (view_node t)
has_parts r.Enum t = is_some (enum_node t)
has_parts r.Param t = is_some (param_node t)
has_parts r.Params t = is_some (params_node t)
has_parts r.Head t = is_some (head_node t)
has_parts r.Cond t = is_some (cond_node t)
has_parts r.Inv t = is_some (inv_node t)
has_parts r.Oper t = is_some (oper_node t)
has_parts r.Attribute t = is_some (attribute_node t)
has_parts r.Parents t = is_some (parents_node t)
has_parts r.Class t = is_some (class_node t)
has_parts r.Mult t = is_some (mult_node t)
has_parts r.AssocEnd t = is_some (assoc_end_node t)
has_parts r.Assoc t = is_some (assoc_node t)
has_parts r.Context t = is_some (context_node t)
has_parts r.Constraints t = is_some (constraints_node t)

-- it is a node of a rule, with the parts that this rule requires
pub record HasItsParts (t : ParseTree) : Type 0 where
  pub rule : Rule
  pub is : is_rule rule t ≡ true
  pub parts : (rule : Rule) → is_rule rule t ≡ true → has_parts rule t ≡ true

-- so is the root of a tree, and each node below it
abbrev pub IsWhole : ParseTree → Type 0
IsWhole t = EachNode HasItsParts (onto t Row.none)

-- the tree of what was read is whole
abbrev pub ReadIsWhole : Reading → Type 0
ReadIsWhole given = (ts : List Token) (tree : ParseTree) → given ≡ parsed ts tree → IsWhole tree
