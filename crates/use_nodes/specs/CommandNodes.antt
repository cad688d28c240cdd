-- The parts of the nodes of commands.
use Rattle.std.specs.Prelude.{Option, Some}
use Rattle.grammar_core.specs.Trees.{ParseTree}
use Rattle.use_text.specs.declared.token.TokenKind.TheVariants as k
use Rattle.use_syntax.specs.declared.rule.Rule.TheVariants as r
use Rattle.use_nodes.specs.declared.parts.Select.TheVariants as s
use Rattle.use_nodes.specs.Nodes.{and_then, behind, child, of, part, second}
use Rattle.use_nodes.specs.declared.commands.EnterNode.{EnterNode}
use Rattle.use_nodes.specs.declared.commands.ExitNode.{ExitNode}
use Rattle.use_nodes.specs.declared.commands.ExecuteNode.{ExecuteNode}
use Rattle.use_nodes.specs.declared.commands.QueryNode.{QueryNode}
use Rattle.use_nodes.specs.declared.commands.CheckNode.{CheckNode}
use Rattle.use_nodes.specs.declared.commands.InfoNode.{InfoNode}
use Rattle.use_nodes.specs.declared.commands.ViewNode.{ViewNode}
use Rattle.use_nodes.specs.declared.commands.CommandNode.{CommandNode}

abbrev pub enter_node : ParseTree → Option EnterNode
enter_node t = of r.Enter t (and_then (child 1 t) (λ receiver. and_then (child 2 t) (λ operation. and_then (part (s.Rule r.Args) t) (λ arguments.
    Some (record { receiver = receiver; operation = operation; arguments = arguments })))))

abbrev pub exit_node : ParseTree → Option ExitNode
exit_node t = of r.Exit t (Some (record { value = part (s.Rule r.Expr) t }))

abbrev pub execute_node : ParseTree → Option ExecuteNode
execute_node t = of r.Execute t (and_then (behind k.Bang t) (λ form.
    Some (record { form = form })))

abbrev pub query_node : ParseTree → Option QueryNode
query_node t = of r.Query t (and_then (part (s.Rule r.Expr) t) (λ expression.
    Some (record { explained = second k.Question t; expression = expression })))

abbrev pub check_node : ParseTree → Option CheckNode
check_node t = of r.Check t (Some (record { option = behind k.Minus t }))

abbrev pub info_node : ParseTree → Option InfoNode
info_node t = of r.Info t (and_then (child 1 t) (λ subject.
    Some (record { subject = subject; class = behind k.Class t })))

abbrev pub view_node : ParseTree → Option ViewNode
view_node t = of r.View t (and_then (child 1 t) (λ subject. and_then (part (s.Token k.Int) t) (λ number.
    Some (record { subject = subject; number = number }))))

abbrev pub command_node : ParseTree → Option CommandNode
command_node t = of r.Command t (Some (record { form = part (s.Except k.End) t }))
