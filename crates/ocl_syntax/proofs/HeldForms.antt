-- The places of each form that is read are those of tokens.
use Rattle.std.proofs.Common.{ℕ, zero, suc, Bool, true, false, List, [], ◌∷◌, ◌++◌, map, reverse, Option, Some, None, is_some, unwrap_or}
use Rattle.std.specs.Prelude.{⊤, flat_map, slice_get}
use Rattle.std.specs.List.{AllByRecursion}
use Rattle.std.specs.Option.{IfSome, option_map, option_map_or, option_to_list}
use Rattle.use_text.specs.declared.place.Place.{Place}
use Rattle.use_text.specs.declared.token.TokenKind.{TokenKind}
use Rattle.use_text.specs.declared.token.TokenKind.TheVariants as k
use Rattle.grammar_core.specs.Trees.{ParseTree, place_of}
use Rattle.use_syntax.specs.Reading.{place_or}
use Rattle.use_nodes.specs.declared.expressions.ArgsNode.{ArgsNode}
use Rattle.use_nodes.specs.declared.parts.Select.TheVariants as s
use Rattle.use_nodes.specs.Nodes.{and_then, part, token_in}
use Rattle.use_nodes.specs.ExpressionNodes.{args_node, arrow_node, bind_node, chain_node, choice_node, collection_node, dot_node, group_node, item_node}
use Rattle.use_nodes.specs.ExpressionNodes.{let_node, literal_node, named_node, part_node, postfix_node, primary_node, unary_node}
use Rattle.use_nodes.specs.TypeNodes.{type_node}
use Rattle.use_nodes.specs.declared.types.TypeNode.{TypeNode}
use Rattle.ocl_values.specs.declared.value.Kind.{Kind}
use Rattle.class_decls.specs.declared.decls.TypeDecl.{TypeDecl}
use Rattle.use_decls.specs.Names.{LexedText, name_at}
use Rattle.use_decls.specs.Types.{kind_at, max_depth, type_at, type_decl, type_in, type_of_node}
use Rattle.ocl_syntax.specs.declared.layer.ArgumentHead.{ArgumentHead}
use Rattle.ocl_syntax.specs.declared.layer.ArgumentHead.TheVariants as a
use Rattle.ocl_syntax.specs.declared.layer.Behind.{Behind}
use Rattle.ocl_syntax.specs.declared.layer.Behind.TheVariants.{Operator, Step}
use Rattle.ocl_syntax.specs.declared.layer.Layer.{Layer}
use Rattle.ocl_syntax.specs.declared.layer.Head.TheVariants as h
use Rattle.ocl_syntax.specs.declared.layer.PartHead.TheVariants as p
use Rattle.ocl_syntax.specs.declared.layer.Piece.{Piece}
use Rattle.ocl_syntax.specs.declared.layer.Piece.TheVariants.{Node, Row, Binds}
use Rattle.ocl_syntax.specs.Layers as L
use Rattle.ocl_syntax.specs.Plain.{plain}
use Rattle.ocl_syntax.specs.declared.tree.WrittenLiteral.{WrittenLiteral}
use Rattle.ocl_syntax.specs.Tokens.{literal_at, place_at, place_of_mark, unary_operator}
use Rattle.ocl_syntax.specs.Standing.{of_name}
use Rattle.ocl_syntax.proofs.HeldMade.{ArgumentHeld, ArgumentsHeld, HeadHeld, PartHeld, TypeHeld, every_append}

map_or : {A B : Type 0} (P : B → Type 0) (f : A → B) (o : Option A) (d : B) → ((x : A) → P (f x)) → P d → P (option_map_or f o d)
map_or P f None d g q = q
map_or P f (Some x) d g q = g x

every_map : {X Y : Type 0} (P : Y → Type 0) (f : X → Y) → ((x : X) → P (f x)) → (xs : List X) → AllByRecursion P (map f xs)
every_map P f g [] = tt
every_map P f g (x ∷ xs) = (g x, every_map P f g xs)

every_flat : {X Y : Type 0} (P : Y → Type 0) (f : X → List Y) → ((x : X) → AllByRecursion P (f x)) → (xs : List X) → AllByRecursion P (flat_map f xs)
every_flat P f g [] = tt
every_flat P f g (x ∷ xs) = every_append P (f x) (flat_map f xs) (g x) (every_flat P f g xs)

every_if : {X Y : Type 0} (P : Y → Type 0) (f : X → Y) → ((x : X) → P (f x)) → (o : Option X) → AllByRecursion P (option_to_list (option_map f o))
every_if P f g None = tt
every_if P f g (Some x) = (g x, tt)

module _ (l : LexedText) (At : Place → Type 0) (none : At (place_or None))
    (get : (i : ℕ) → At (place_or (slice_get l.tokens i))) where
  -- the places of binds that stand in a piece
  abbrev pub PieceHeld : Piece → Type 0
  PieceHeld (Node t) = ⊤
  PieceHeld (Row first bs) = ⊤
  PieceHeld (Binds word binds body) = IfSome word At

  -- a form, and the pieces in it
  abbrev pub IsKept : Layer → Type 0
  IsKept layer = HeadHeld At layer.head × AllByRecursion PieceHeld layer.inner

  -- ---- tokens, names, types and literals

  token_by : (o : Option ℕ) → At (place_or (and_then o (slice_get l.tokens)))
  token_by None = none
  token_by (Some i) = get i

  token_at : (t : ParseTree) → At (place_or (token_in l.tokens t))
  token_at t = token_by (place_of t)

  mark_by : (o : Option ParseTree) → At (place_or (and_then o (token_in l.tokens)))
  mark_by None = none
  mark_by (Some t) = token_at t

  mark_at : (kind : TokenKind) (t : ParseTree) → At (place_of_mark l kind t)
  mark_at kind t = mark_by (part (s.Token kind) t)

  type_inside : (inside : List Kind → ParseTree → TypeDecl) → ((outer : List Kind) (t : ParseTree) → At (inside outer t).name.place) →
      (outer : List Kind) (node : TypeNode) (o : Option ParseTree) → At (type_at inside l outer node o).name.place
  type_inside inside g outer node None = token_at node.word
  type_inside inside g outer node (Some element) = g (outer ++ kind_at node.word ∷ []) element

  type_by : (inside : List Kind → ParseTree → TypeDecl) → ((outer : List Kind) (t : ParseTree) → At (inside outer t).name.place) →
      (outer : List Kind) (t : ParseTree) (o : Option TypeNode) → At (type_of_node inside l outer t o).name.place
  type_by inside g outer t None = token_at t
  type_by inside g outer t (Some node) = type_inside inside g outer node node.element

  type_deep : (n : ℕ) (outer : List Kind) (t : ParseTree) → At (type_in n l outer t).name.place
  type_deep zero outer t = token_at t
  type_deep (suc n) outer t = type_by (type_in n l) (type_deep n) outer t (type_node t)

  type_placed : (t : ParseTree) → At (type_decl l t).name.place
  unfolding type_decl
  type_placed t = type_deep max_depth [] t

  type_if : (o : Option ParseTree) → TypeHeld At (option_map (type_decl l) o)
  type_if None = tt
  type_if (Some t) = (type_placed t, tt)

  name_if : (o : Option ParseTree) → AllByRecursion At (of_name (option_map (name_at l) o))
  name_if None = tt
  name_if (Some t) = (token_at t, tt)

  -- ---- arguments

  abbrev Argued : ArgumentHead → Type 0
  Argued head = ArgumentHeld At head

  argument_by : (is_accumulator : Bool) (o : Option ParseTree) (has_start : Bool) → Argued (L.argument_head is_accumulator (option_map (type_decl l) o) has_start)
  argument_by true o has_start = type_if o
  argument_by false o has_start = type_if o

  item_kept : (is_accumulator : Bool) (t : ParseTree) → Argued (L.item_head l is_accumulator t)
  item_kept is_accumulator t =
      map_or Argued (λ node. L.argument_head is_accumulator (option_map (type_decl l) node.of_type) (is_some node.start)) (item_node t)
      (L.argument_head is_accumulator None false) (λ node. argument_by is_accumulator node.of_type (is_some node.start))
      (argument_by is_accumulator None false)

  heads_kept : (node : ArgsNode) → AllByRecursion Argued (L.argument_heads l node)
  heads_kept node =
      every_append Argued (map (L.item_head l false) (L.items_before node) ++ option_to_list (option_map (L.item_head l true) node.accumulator))
      (option_to_list (option_map (λ body. a.Body) node.body))
      (every_append Argued (map (L.item_head l false) (L.items_before node)) (option_to_list (option_map (L.item_head l true) node.accumulator))
      (every_map Argued (L.item_head l false) (item_kept false) (L.items_before node))
      (every_if Argued (L.item_head l true) (item_kept true) node.accumulator))
      (every_if Argued (λ body. a.Body) (λ body. tt) node.body)

  arguments_kept : (o : Option ParseTree) → ArgumentsHeld At (L.arguments_at l o).heads
  arguments_kept None = tt
  arguments_kept (Some t) =
      map_or (λ arguments. ArgumentsHeld At arguments.heads) (L.arguments_of l) (args_node t) (L.no_arguments (Some [])) heads_kept tt

  item_pieces : (t : ParseTree) → AllByRecursion PieceHeld (L.item_inner t)
  item_pieces t =
      map_or (AllByRecursion PieceHeld) (λ node. Node node.expression ∷ option_to_list (option_map Node node.start)) (item_node t) (Node t ∷ [])
      (λ node. (tt, every_if PieceHeld Node (λ x. tt) node.start)) (tt, tt)

  argument_pieces : (node : ArgsNode) → AllByRecursion PieceHeld (L.argument_inner node)
  argument_pieces node =
      every_append PieceHeld (flat_map L.item_inner node.items) (option_to_list (option_map Node node.body))
      (every_flat PieceHeld L.item_inner item_pieces node.items) (every_if PieceHeld Node (λ x. tt) node.body)

  pieces_kept : (o : Option ParseTree) → AllByRecursion PieceHeld (L.arguments_at l o).inner
  pieces_kept None = tt
  pieces_kept (Some t) =
      map_or (λ arguments. AllByRecursion PieceHeld arguments.inner) (L.arguments_of l) (args_node t) (L.no_arguments (Some [])) argument_pieces tt

  -- ---- rows

  step_kept : (source : Piece) (t : ParseTree) → PieceHeld source → IsKept (L.step_layer l source t)
  step_kept source t g =
      map_or IsKept (L.dot_layer l source) (dot_node t) _ (λ node. ((token_at node.name, arguments_kept node.arguments), (g, pieces_kept node.arguments)))
      (map_or IsKept (L.arrow_layer l source) (arrow_node t) L.lacking
      (λ node. ((token_at node.name, arguments_kept node.arguments), (g, pieces_kept node.arguments))) (none, tt))

  behind_kept : (left : Piece) (b : Behind) → PieceHeld left → IsKept (L.behind_layer l left b)
  behind_kept left (Operator operator operand) g = (token_at operator, (g, (tt, tt)))
  behind_kept left (Step t) g = step_kept left t g

  row_kept : (first : ParseTree) (bs : List Behind) → IsKept (L.row_layer l first bs)
  row_kept first [] = (tt, (tt, tt))
  row_kept first (last ∷ before) = behind_kept (Row first (reverse before)) last tt

  chain_kept : (operands operators : List ParseTree) → IsKept (L.chain_of l operands operators)
  chain_kept [] operators = (none, tt)
  chain_kept (first ∷ operands) operators = row_kept first (reverse (L.operators_of operators operands))

  -- ---- binds

  word_or_name : (word : Option Place) (t : ParseTree) → IfSome word At → At (unwrap_or word (place_at l t))
  word_or_name None t g = token_at t
  word_or_name (Some at) t g = g

  binds_kept : (word : Option Place) (binds : List ParseTree) (body : ParseTree) → IfSome word At → IsKept (L.binds_layer l word binds body)
  binds_kept word [] body g = (tt, (tt, tt))
  binds_kept word (bind ∷ more) body g =
      map_or IsKept (L.bind_layer l word (Binds None more body)) (bind_node bind) L.lacking
      (λ node. ((word_or_name word node.name g, token_at node.name, type_if node.of_type), (tt, (tt, tt)))) (none, tt)

  -- ---- primaries

  literal_by : (form : ParseTree) (o : Option WrittenLiteral) →
      IsKept (option_map_or (λ value. record { head = h.Literal (place_at l form) value; inner = [] }) o L.lacking)
  literal_by form None = (none, tt)
  literal_by form (Some value) = (token_at form, tt)

  part_kept : (t : ParseTree) → PartHeld At (L.part_head l t)
  part_kept t =
      map_or (PartHeld At) _ (part_node t) p.One
      (λ node. map_or (PartHeld At) _ node.last p.One (λ last. mark_at k.DoubleDot t) tt) tt

  part_pieces : (t : ParseTree) → AllByRecursion PieceHeld (L.part_inner t)
  part_pieces t =
      map_or (AllByRecursion PieceHeld) (λ node. Node node.first ∷ option_to_list (option_map Node node.last)) (part_node t) (Node t ∷ [])
      (λ node. (tt, every_if PieceHeld Node (λ x. tt) node.last)) (tt, tt)

  primary_kept : (t : ParseTree) → IsKept (L.primary_layer l t)
  unfolding L.primary_layer
  primary_kept t =
      map_or IsKept (L.literal_layer l) (primary_node t) _ (λ node. literal_by node.form (literal_at l node.form))
      (map_or IsKept (L.only_literal_layer l t) (literal_node t) _ (λ node. ((mark_at k.Hash t, token_at node.name), tt))
      (map_or IsKept (L.collection_layer l) (collection_node t) _
      (λ node.
      ((token_at node.kind, every_map (PartHeld At) (L.part_head l) part_kept node.parts), every_flat PieceHeld L.part_inner part_pieces node.parts))
      (map_or IsKept (L.named_layer l) (named_node t) _
      (λ node. ((token_at node.name, name_if node.literal, arguments_kept node.arguments), pieces_kept node.arguments))
      (map_or IsKept (L.choice_layer l t) (choice_node t) _ (λ node. (mark_at k.If t, (tt, (tt, (tt, tt)))))
      (map_or IsKept (L.group_layer l t) (group_node t) L.lacking (λ node. (mark_at k.LeftParen t, (tt, tt))) (none, tt))))))

  -- ---- every form

  unary_by : (o : Option ParseTree) (operand : ParseTree) →
      IsKept (option_map_or (λ operator. record {
        head = h.Unary (place_at l operator) (unary_operator operator);
        inner = Node operand ∷ [];
      }) o L.lacking)
  unary_by None operand = (none, tt)
  unary_by (Some operator) operand = (token_at operator, (tt, tt))

  node_kept : (t : ParseTree) → IsKept (L.node_layer l t)
  unfolding L.node_layer
  node_kept t =
      map_or IsKept (L.chain_layer l) (chain_node t) _ (λ node. chain_kept node.operands node.operators)
      (map_or IsKept (L.unary_layer l) (unary_node t) _ (λ node. unary_by node.operator node.operand)
      (map_or IsKept (L.let_layer l t) (let_node t) _ (λ node. binds_kept (Some (place_of_mark l k.Let t)) node.binds node.body (mark_at k.Let t))
      (map_or IsKept (L.postfix_layer l) (postfix_node t) (L.primary_layer l t) (λ node. row_kept node.source (reverse (map Step node.steps)))
      (primary_kept t))))

  pub layer_kept : (piece : Piece) → PieceHeld piece → IsKept (L.layer_of l piece)
  unfolding L.layer_of
  layer_kept (Node t) g = node_kept (plain t)
  layer_kept (Row first bs) g = row_kept first (reverse bs)
  layer_kept (Binds word binds body) g = binds_kept word binds body g
