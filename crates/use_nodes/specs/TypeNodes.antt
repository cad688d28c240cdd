-- The parts of the nodes of names and types.
use Rattle.std.specs.Prelude.{Option, Some}
use Rattle.grammar_core.specs.Trees.{ParseTree}
use Rattle.use_text.specs.declared.token.TokenKind.TheVariants as k
use Rattle.use_syntax.specs.declared.rule.Rule.TheVariants as r
use Rattle.use_nodes.specs.declared.parts.Select.TheVariants as s
use Rattle.use_nodes.specs.Nodes.{and_then, behind, child, of, parts}
use Rattle.use_nodes.specs.declared.types.NamesNode.{NamesNode}
use Rattle.use_nodes.specs.declared.types.TypeNode.{TypeNode}

abbrev pub names_node : ParseTree → Option NamesNode
names_node t = of r.Names t (Some (record { names = parts (s.Except k.Comma) t }))

abbrev pub type_node : ParseTree → Option TypeNode
type_node t = of r.Type t (and_then (child 0 t) (λ word.
    Some (record { word = word; element = behind k.LeftParen t })))
