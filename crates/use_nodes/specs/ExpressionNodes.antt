-- The parts of the nodes of expressions.
use Rattle.std.specs.Prelude.{Bool, ◌||◌, if◌then◌else◌, Option, Some, None}
use Rattle.grammar_core.specs.Trees.{ParseTree}
use Rattle.use_text.specs.declared.token.TokenKind.TheVariants as k
use Rattle.use_syntax.specs.declared.rule.Rule.TheVariants as r
use Rattle.use_nodes.specs.declared.parts.Select.TheVariants as s
use Rattle.use_nodes.specs.Nodes.{and_then, behind, child, has, is_rule, of, part, parts}
use Rattle.use_nodes.specs.declared.expressions.ChainNode.{ChainNode}
use Rattle.use_nodes.specs.declared.expressions.ItemNode.{ItemNode}
use Rattle.use_nodes.specs.declared.expressions.ArgsNode.{ArgsNode}
use Rattle.use_nodes.specs.declared.expressions.PartNode.{PartNode}
use Rattle.use_nodes.specs.declared.expressions.CollectionNode.{CollectionNode}
use Rattle.use_nodes.specs.declared.expressions.NamedNode.{NamedNode}
use Rattle.use_nodes.specs.declared.expressions.LiteralNode.{LiteralNode}
use Rattle.use_nodes.specs.declared.expressions.GroupNode.{GroupNode}
use Rattle.use_nodes.specs.declared.expressions.ChoiceNode.{ChoiceNode}
use Rattle.use_nodes.specs.declared.expressions.PrimaryNode.{PrimaryNode}
use Rattle.use_nodes.specs.declared.expressions.DotNode.{DotNode}
use Rattle.use_nodes.specs.declared.expressions.ArrowNode.{ArrowNode}
use Rattle.use_nodes.specs.declared.expressions.PostfixNode.{PostfixNode}
use Rattle.use_nodes.specs.declared.expressions.BindNode.{BindNode}
use Rattle.use_nodes.specs.declared.expressions.LetNode.{LetNode}
use Rattle.use_nodes.specs.declared.expressions.UnaryNode.{UnaryNode}

abbrev pub item_node : ParseTree → Option ItemNode
item_node t = of r.Item t (and_then (child 0 t) (λ expression.
    Some (record { expression = expression; of_type = behind k.Colon t; start = behind k.Equal t })))

abbrev pub args_node : ParseTree → Option ArgsNode
args_node t = of r.Args t (Some (record { items = parts (s.Rule r.Item) t; accumulator = behind k.Semicolon t; body = behind k.Bar t }))

abbrev pub part_node : ParseTree → Option PartNode
part_node t = of r.Part t (and_then (child 0 t) (λ first.
    Some (record { first = first; last = behind k.DoubleDot t })))

abbrev pub collection_node : ParseTree → Option CollectionNode
collection_node t = of r.Collection t (and_then (child 0 t) (λ kind.
    Some (record { kind = kind; parts = parts (s.Rule r.Part) t })))

abbrev pub named_node : ParseTree → Option NamedNode
named_node t = of r.Named t (and_then (child 0 t) (λ name.
    Some (record { name = name; literal = behind k.DoubleColon t; is_before = has k.AtPre t; arguments = part (s.Rule r.Args) t })))

abbrev pub literal_node : ParseTree → Option LiteralNode
literal_node t = of r.Literal t (and_then (behind k.Hash t) (λ name.
    Some (record { name = name })))

abbrev pub group_node : ParseTree → Option GroupNode
group_node t = of r.Group t (and_then (behind k.LeftParen t) (λ expression.
    Some (record { expression = expression })))

abbrev pub choice_node : ParseTree → Option ChoiceNode
choice_node t = of r.Choice t (and_then (behind k.If t) (λ condition. and_then (behind k.Then t) (λ consequence. and_then (behind k.Else t) (λ alternative.
    Some (record { condition = condition; consequence = consequence; alternative = alternative })))))

abbrev pub primary_node : ParseTree → Option PrimaryNode
primary_node t = of r.Primary t (and_then (child 0 t) (λ form.
    Some (record { form = form })))

abbrev pub dot_node : ParseTree → Option DotNode
dot_node t = of r.Dot t (and_then (behind k.Dot t) (λ name.
    Some (record { name = name; is_before = has k.AtPre t; arguments = part (s.Rule r.Args) t })))

abbrev pub arrow_node : ParseTree → Option ArrowNode
arrow_node t = of r.Arrow t (and_then (behind k.Arrow t) (λ name.
    Some (record { name = name; arguments = part (s.Rule r.Args) t })))

abbrev pub postfix_node : ParseTree → Option PostfixNode
postfix_node t = of r.Postfix t (and_then (child 0 t) (λ source.
    Some (record { source = source; steps = parts s.Steps t })))

abbrev pub bind_node : ParseTree → Option BindNode
bind_node t = of r.Bind t (and_then (child 0 t) (λ name. and_then (behind k.Equal t) (λ value.
    Some (record { name = name; of_type = behind k.Colon t; value = value }))))

abbrev pub let_node : ParseTree → Option LetNode
let_node t = of r.Let t (and_then (behind k.In t) (λ body.
    Some (record { binds = parts (s.Rule r.Bind) t; body = body })))

abbrev pub unary_node : ParseTree → Option UnaryNode
unary_node t = of r.Unary t (and_then (part s.Rules t) (λ operand.
    Some (record { operator = part s.Tokens t; operand = operand })))

-- it is a row of operands with operators between them
abbrev pub is_chain : ParseTree → Bool
is_chain t =
    is_rule r.Muls t || is_rule r.Sums t || is_rule r.Rels t || is_rule r.Eqs t || is_rule r.Ands t || is_rule r.Ors t || is_rule r.Xors t || is_rule r.Expr t

abbrev pub chain_node : ParseTree → Option ChainNode
chain_node t = if is_chain t then Some (record { operands = parts s.Rules t; operators = parts s.Tokens t }) else None
