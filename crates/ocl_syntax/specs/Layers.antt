-- The form that is written at a piece of a tree, and the pieces in it: one layer of the expression.
use Rattle.std.specs.Prelude.{Bool, true, false, List, [], ◌∷◌, ◌++◌, length, ◌-◌, map, flat_map, reverse, take, Option, Some, None, is_some, unwrap_or}
use Rattle.std.specs.Option.{option_map, option_map_or, option_to_list}
use Rattle.use_text.specs.declared.place.Place.{Place}
use Rattle.use_text.specs.declared.token.TokenKind.TheVariants as k
use Rattle.grammar_core.specs.Trees.{ParseTree}
use Rattle.use_nodes.specs.declared.expressions.ArgsNode.{ArgsNode}
use Rattle.use_nodes.specs.declared.expressions.ArrowNode.{ArrowNode}
use Rattle.use_nodes.specs.declared.expressions.BindNode.{BindNode}
use Rattle.use_nodes.specs.declared.expressions.ChainNode.{ChainNode}
use Rattle.use_nodes.specs.declared.expressions.ChoiceNode.{ChoiceNode}
use Rattle.use_nodes.specs.declared.expressions.CollectionNode.{CollectionNode}
use Rattle.use_nodes.specs.declared.expressions.DotNode.{DotNode}
use Rattle.use_nodes.specs.declared.expressions.GroupNode.{GroupNode}
use Rattle.use_nodes.specs.declared.expressions.LetNode.{LetNode}
use Rattle.use_nodes.specs.declared.expressions.LiteralNode.{LiteralNode}
use Rattle.use_nodes.specs.declared.expressions.NamedNode.{NamedNode}
use Rattle.use_nodes.specs.declared.expressions.PostfixNode.{PostfixNode}
use Rattle.use_nodes.specs.declared.expressions.PrimaryNode.{PrimaryNode}
use Rattle.use_nodes.specs.declared.expressions.UnaryNode.{UnaryNode}
use Rattle.use_nodes.specs.ExpressionNodes.{args_node, arrow_node, bind_node, chain_node, choice_node, collection_node, dot_node, group_node, item_node}
use Rattle.use_nodes.specs.ExpressionNodes.{let_node, literal_node, named_node, part_node, postfix_node, primary_node, unary_node}
use Rattle.class_decls.specs.declared.decls.TypeDecl.{TypeDecl}
use Rattle.use_decls.specs.Names.{LexedText, name_at}
use Rattle.use_decls.specs.Types.{kind_at, type_decl}
use Rattle.ocl_syntax.specs.declared.layer.ArgumentHead.{ArgumentHead}
use Rattle.ocl_syntax.specs.declared.layer.ArgumentHead.TheVariants as a
use Rattle.ocl_syntax.specs.declared.layer.ArgumentLayer.{ArgumentLayer}
use Rattle.ocl_syntax.specs.declared.layer.Behind.{Behind}
use Rattle.ocl_syntax.specs.declared.layer.Behind.TheVariants.{Operator, Step}
use Rattle.ocl_syntax.specs.declared.layer.Head.TheVariants as h
use Rattle.ocl_syntax.specs.declared.layer.Layer.{Layer}
use Rattle.ocl_syntax.specs.declared.layer.PartHead.{PartHead}
use Rattle.ocl_syntax.specs.declared.layer.PartHead.TheVariants.{One, Range}
use Rattle.ocl_syntax.specs.declared.layer.Piece.{Piece}
use Rattle.ocl_syntax.specs.declared.layer.Piece.TheVariants.{Node, Row, Binds}
use Rattle.ocl_syntax.specs.Plain.{plain}
use Rattle.ocl_syntax.specs.Tokens.{binary_operator, literal_at, place_at, place_of_mark, unary_operator}

-- a node that lacks a part; none in a tree that was read does
abbrev pub lacking : Layer
lacking = record { head = h.Lacking; inner = [] }

-- a piece that is the same expression as another
abbrev pub same : Piece → Layer
same piece = record { head = h.Same; inner = piece ∷ [] }

abbrev pub argument_head : Bool → Option TypeDecl → Bool → ArgumentHead
argument_head true of_type has_start = a.Accumulator of_type has_start
argument_head false of_type has_start = a.Item of_type has_start

-- an item, or the accumulator
abbrev pub item_head : LexedText → Bool → ParseTree → ArgumentHead
item_head l is_accumulator t =
    option_map_or (λ node. argument_head is_accumulator (option_map (type_decl l) node.of_type) (is_some node.start)) (item_node t)
    (argument_head is_accumulator None false)

-- the expressions in an item: what is passed, and its start
abbrev pub item_inner : ParseTree → List Piece
item_inner t = option_map_or (λ node. Node node.expression ∷ option_to_list (option_map Node node.start)) (item_node t) (Node t ∷ [])

-- the items before `;`: where there is an accumulator, it is the last of all
abbrev pub items_before : ArgsNode → List ParseTree
items_before node = take (length node.items - length (option_to_list node.accumulator)) node.items

-- arguments in the order of the text
abbrev pub argument_heads : LexedText → ArgsNode → List ArgumentHead
argument_heads l node =
    map (item_head l false) (items_before node)
    ++ option_to_list (option_map (item_head l true) node.accumulator)
    ++ option_to_list (option_map (λ body. a.Body) node.body)

-- the expressions in them
abbrev pub argument_inner : ArgsNode → List Piece
argument_inner node = flat_map item_inner node.items ++ option_to_list (option_map Node node.body)

abbrev pub no_arguments : Option (List ArgumentHead) → ArgumentLayer
no_arguments heads = record { heads = heads; inner = [] }

abbrev pub arguments_of : LexedText → ArgsNode → ArgumentLayer
arguments_of l node = record { heads = Some (argument_heads l node); inner = argument_inner node }

-- arguments, if there are parentheses
abbrev pub arguments_at : LexedText → Option ParseTree → ArgumentLayer
arguments_at l None = no_arguments None
arguments_at l (Some t) = option_map_or (arguments_of l) (args_node t) (no_arguments (Some []))

abbrev pub dot_layer : LexedText → Piece → DotNode → Layer
dot_layer l source node = record {
  head = h.Dot (name_at l node.name) node.is_before (arguments_at l node.arguments).heads;
  inner = source ∷ (arguments_at l node.arguments).inner;
}

abbrev pub arrow_layer : LexedText → Piece → ArrowNode → Layer
arrow_layer l source node = record {
  head = h.Arrow (name_at l node.name) (arguments_at l node.arguments).heads;
  inner = source ∷ (arguments_at l node.arguments).inner;
}

-- a dot or an arrow behind a source
abbrev pub step_layer : LexedText → Piece → ParseTree → Layer
step_layer l source t = option_map_or (dot_layer l source) (dot_node t) (option_map_or (arrow_layer l source) (arrow_node t) lacking)

-- an expression, and what stands right behind it
abbrev pub behind_layer : LexedText → Piece → Behind → Layer
behind_layer l left (Operator operator operand) =
    record { head = h.Binary (place_at l operator) (binary_operator operator); inner = left ∷ Node operand ∷ [] }
behind_layer l left (Step t) = step_layer l left t

-- a row from what stands last in it on, which is the outermost: operators and steps group from the left
abbrev pub row_layer : LexedText → ParseTree → List Behind → Layer
row_layer l first [] = same (Node first)
row_layer l first (last ∷ before) = behind_layer l (Row first (reverse before)) last

-- operators and the operands on their right
abbrev pub operators_of : List ParseTree → List ParseTree → List Behind
operators_of [] operands = []
operators_of (operator ∷ operators) [] = []
operators_of (operator ∷ operators) (operand ∷ operands) = Operator operator operand ∷ operators_of operators operands

abbrev pub chain_of : LexedText → List ParseTree → List ParseTree → Layer
chain_of l [] operators = lacking
chain_of l (first ∷ operands) operators = row_layer l first (reverse (operators_of operators operands))

abbrev pub chain_layer : LexedText → ChainNode → Layer
chain_layer l node = chain_of l node.operands node.operators

abbrev pub postfix_layer : LexedText → PostfixNode → Layer
postfix_layer l node = row_layer l node.source (reverse (map Step node.steps))

abbrev pub unary_layer : LexedText → UnaryNode → Layer
unary_layer l node = option_map_or
    (λ operator. record { head = h.Unary (place_at l operator) (unary_operator operator); inner = Node node.operand ∷ [] }) node.operator lacking

-- a bind, and what stands behind it: further binds, or the body
abbrev pub bind_layer : LexedText → Option Place → Piece → BindNode → Layer
bind_layer l word behind node = record {
  head = h.Let (unwrap_or word (place_at l node.name)) (name_at l node.name) (option_map (type_decl l) node.of_type);
  inner = Node node.value ∷ behind ∷ [];
}

abbrev pub binds_layer : LexedText → Option Place → List ParseTree → ParseTree → Layer
binds_layer l word [] body = same (Node body)
binds_layer l word (bind ∷ more) body = option_map_or (bind_layer l word (Binds None more body)) (bind_node bind) lacking

-- the first bind of a `let` is written at that word
abbrev pub let_layer : LexedText → ParseTree → LetNode → Layer
let_layer l t node = binds_layer l (Some (place_of_mark l k.Let t)) node.binds node.body

abbrev pub literal_layer : LexedText → PrimaryNode → Layer
literal_layer l node = option_map_or (λ x. record { head = h.Literal (place_at l node.form) x; inner = [] }) (literal_at l node.form) lacking

abbrev pub only_literal_layer : LexedText → ParseTree → LiteralNode → Layer
only_literal_layer l t node = record { head = h.OnlyLiteral (place_of_mark l k.Hash t) (name_at l node.name); inner = [] }

abbrev pub part_head : LexedText → ParseTree → PartHead
part_head l t = option_map_or (λ node. option_map_or (λ last. Range (place_of_mark l k.DoubleDot t)) node.last One) (part_node t) One

-- the expressions in a part: its one value, or the first and the last
abbrev pub part_inner : ParseTree → List Piece
part_inner t = option_map_or (λ node. Node node.first ∷ option_to_list (option_map Node node.last)) (part_node t) (Node t ∷ [])

abbrev pub collection_layer : LexedText → CollectionNode → Layer
collection_layer l node = record {
  head = h.Collection (place_at l node.kind) (kind_at node.kind) (map (part_head l) node.parts);
  inner = flat_map part_inner node.parts;
}

abbrev pub named_layer : LexedText → NamedNode → Layer
named_layer l node = record {
  head = h.Named (name_at l node.name) (option_map (name_at l) node.literal) node.is_before (arguments_at l node.arguments).heads;
  inner = (arguments_at l node.arguments).inner;
}

abbrev pub choice_layer : LexedText → ParseTree → ChoiceNode → Layer
choice_layer l t node = record {
  head = h.If (place_of_mark l k.If t);
  inner = Node node.condition ∷ Node node.consequence ∷ Node node.alternative ∷ [];
}

abbrev pub group_layer : LexedText → ParseTree → GroupNode → Layer
group_layer l t node = record { head = h.Group (place_of_mark l k.LeftParen t); inner = Node node.expression ∷ [] }

unfoldable pub primary_layer : LexedText → ParseTree → Layer
primary_layer l t =
    option_map_or (literal_layer l) (primary_node t)
    (option_map_or (only_literal_layer l t) (literal_node t)
    (option_map_or (collection_layer l) (collection_node t)
    (option_map_or (named_layer l) (named_node t)
    (option_map_or (choice_layer l t) (choice_node t)
    (option_map_or (group_layer l t) (group_node t) lacking)))))

-- each form at its node
unfoldable pub node_layer : LexedText → ParseTree → Layer
node_layer l t =
    option_map_or (chain_layer l) (chain_node t)
    (option_map_or (unary_layer l) (unary_node t)
    (option_map_or (let_layer l t) (let_node t)
    (option_map_or (postfix_layer l) (postfix_node t)
    (primary_layer l t))))

unfoldable pub layer_of : LexedText → Piece → Layer
layer_of l (Node t) = node_layer l (plain t)
layer_of l (Row first behind) = row_layer l first (reverse behind)
layer_of l (Binds word binds body) = binds_layer l word binds body
