-- The forms of statements, by what types the blocks in them: parts from left to right, then the statement's own rules.
use Rattle.std.specs.Prelude.{ℕ, ◌^◌, Bool, true, false, nat_lt, if◌then◌else◌, List, [], ◌∷◌, length, Option, Some, None}
use Rattle.std.specs.Option.{option_map_or}
use Rattle.use_text.specs.declared.place.Place.{Place}
use Rattle.grammar_core.specs.Trees.{ParseTree}
use Rattle.use_nodes.specs.StatementNodes as n
use Rattle.use_nodes.specs.declared.statements.AssignNode.{AssignNode}
use Rattle.use_nodes.specs.declared.statements.BranchNode.{BranchNode}
use Rattle.use_nodes.specs.declared.statements.DeclareNode.{DeclareNode}
use Rattle.use_nodes.specs.declared.statements.ForNode.{ForNode}
use Rattle.use_nodes.specs.declared.statements.NewNode.{NewNode}
use Rattle.use_nodes.specs.declared.statements.WhileNode.{WhileNode}
use Rattle.use_decls.specs.Names.{text_at}
use Rattle.use_decls.specs.Types.{type_decl}
use Rattle.class_model.specs.Conformance.{conforms}
use Rattle.class_model.specs.declared.object_model.ObjectModel.{ObjectModel}
use Rattle.class_model.specs.declared.types.OclType.{OclType, more_of-OclType}
use Rattle.class_model.specs.declared.types.OclType.TheVariants as T
use Rattle.ocl_core.specs.declared.expression.Expr.{Expr}
use Rattle.ocl_core.specs.declared.statement.Act.{Act}
use Rattle.ocl_core.specs.declared.statement.Act.TheVariants as act
use Rattle.ocl_core.specs.declared.statement.Stmt.{Stmt}
use Rattle.ocl_syntax.specs.Expressions.{written}
use Rattle.ocl_rules.specs.Typings.{Typing, breaks_t}
use Rattle.ocl_scope.specs.Names.{declared_type}
use Rattle.ocl_shapes.specs.Combining.{◌>>=◌, pure}
use Rattle.soil_scope.specs.Calls.{said}
use Rattle.soil_scope.specs.Expressions.{expression_at}
use Rattle.soil_scope.specs.Scenes.{Scene, place_of_tree}
use Rattle.soil_scope.specs.Variables.{left_to, with_fixed, with_local}
use Rattle.soil_scope.specs.declared.expressions.Placed.{Placed}
use Rattle.soil_scope.specs.declared.variables.Variables.{Variables}
use Rattle.soil_types.specs.Assignments.{assign}
use Rattle.soil_types.specs.ObjectForms.{create, delete, destroy, insert, names_in, new_object}

-- what a form does, and the variables behind it
abbrev pub Checked : Type 0
Checked = Typing (Act × Variables)

-- a form that leaves the variables as they are
abbrev pub leaving : Variables → Typing Act → Checked
leaving vs a = a >>= (λ x. pure (x, vs))

-- a statement is typed where fewer values than this are bound, so that their numbers fit into 32 bits; no text that is read has so many
abbrev pub has_room : Variables → Bool
has_room vs = nat_lt vs.environment.size (2 ^ 31)

-- a local variable of a type for each of some names
abbrev pub with_locals : Place → OclType → Variables → List (List ℕ) → Typing Variables
with_locals place t vs [] = pure vs
with_locals place t vs (name ∷ names) = if has_room vs then with_locals place t (with_local vs name t) names else breaks_t 16 place

unfoldable pub declare : Scene → Variables → Place → DeclareNode → Checked
declare s vs place node = do
  t ← declared_type s.model vs.environment (type_decl s.lexed node.of_type)
  after ← with_locals place t vs (names_in s.lexed node.names)
  pure (act.Declare (length (names_in s.lexed node.names)), after)

-- a condition, or T4 at its first token
abbrev pub condition : ObjectModel → Placed → Typing Expr
condition m x = if conforms m x.typed.of_type T.Bool then pure x.typed.expr else breaks_t 4 x.place

-- the type of what a `for` visits, or T15 at the first token of its source; null is no collection and visits nothing
abbrev pub element_by : Place → OclType → Typing OclType
element_by place (T.Coll' kind shape (more_of-OclType element row)) = pure element
element_by place T.Void = pure T.Void
element_by place _ = breaks_t 15 place

abbrev pub element_of : Placed → Typing OclType
element_of x = element_by x.place x.typed.of_type

-- `new` alone
unfoldable pub make : Scene → Variables → NewNode → Checked
make s vs node = do
  made ← new_object s vs.environment node
  pure (act.New made.class made.name None, vs)

-- an expression alone
unfoldable pub say : Scene → Variables → Place → ParseTree → Checked
say s vs place t = leaving vs (said s vs.environment place (written s.lexed t))

abbrev pub assign_by : Scene → Bool → Variables → Place → ParseTree → Option ParseTree → Checked
assign_by s is_outermost vs place t None = say s vs place t
assign_by s is_outermost vs place t (Some value) = assign s is_outermost vs place t value

abbrev pub assign_or_say : Scene → Bool → Variables → Place → AssignNode → Checked
assign_or_say s is_outermost vs place node = assign_by s is_outermost vs place node.target node.value

-- the first of these that there is
abbrev pub or_else : {A : Type 0} → Option A → (A → Checked) → Checked → Checked
or_else None f other = other
or_else (Some a) f other = f a

-- the forms without blocks; anything else breaks T11
abbrev pub plain_form : Scene → Bool → Variables → Place → ParseTree → Checked
plain_form s is_outermost vs place t =
    or_else (n.create_node t) (create s vs)
    (or_else (n.set_node t) (λ node. assign s is_outermost vs place node.target node.value)
    (or_else (n.new_node t) (make s vs)
    (or_else (n.destroy_node t) (λ node. leaving vs (destroy s vs.environment node))
    (or_else (n.insert_node t) (λ node. leaving vs (insert s vs.environment node))
    (or_else (n.delete_node t) (λ node. leaving vs (delete s vs.environment node))
    (or_else (n.declare_node t) (declare s vs place)
    (or_else (n.assign_node t) (assign_or_say s is_outermost vs place)
    (breaks_t 11 place))))))))

-- the form that stands at a statement
abbrev pub form_at : ParseTree → ParseTree
form_at t = option_map_or (λ node. node.form) (n.stmt_node t) t

module _ (s : Scene) (block_of : Variables → ParseTree → Typing (List Stmt × Variables)) where
  -- the condition, the blocks, then T4
  abbrev pub block_if : Variables → Option ParseTree → Typing (List Stmt × Variables)
  block_if vs None = pure ([], vs)
  block_if vs (Some t) = block_of vs t

  unfoldable pub branch : Variables → BranchNode → Checked
  branch vs node = do
    x ← expression_at s false vs.environment node.condition
    first ← block_of vs node.consequence
    second ← block_if first.1 node.alternative
    e ← condition s.model x
    pure (act.If e first.0 second.0, second.1)

  -- a block where the variable of a `for` is known
  abbrev pub block_under : Variables → List ℕ → OclType → ParseTree → Typing (List Stmt × Variables)
  block_under vs name t body = do
    done ← block_of (with_fixed vs name t) body
    pure (done.0, left_to vs done.1)

  -- the source, T15, then the block
  unfoldable pub for_each : Variables → ForNode → Checked
  for_each vs node = do
    x ← expression_at s false vs.environment node.source
    t ← element_of x
    body ← block_under vs (text_at s.lexed node.variable) t node.body
    pure (act.For x.typed.expr body.0, body.1)

  -- the condition, the block, then T4
  unfoldable pub while_true : Variables → WhileNode → Checked
  while_true vs node = do
    x ← expression_at s false vs.environment node.condition
    body ← block_of vs node.body
    e ← condition s.model x
    pure (act.While e body.0, body.1)

  abbrev pub form : Bool → Variables → Place → ParseTree → Checked
  form is_outermost vs place t =
      or_else (n.branch_node t) (branch vs)
      (or_else (n.for_node t) (for_each vs)
      (or_else (n.while_node t) (while_true vs)
      (plain_form s is_outermost vs place t)))

  abbrev pub form_in : Bool → Variables → Place → ParseTree → Checked
  form_in is_outermost vs place t = if has_room vs then form is_outermost vs place (form_at t) else breaks_t 16 place

  -- a statement, and its place: that of its first token
  unfoldable pub statement : Bool → Variables → ParseTree → Typing (Stmt × Variables)
  statement is_outermost vs t = do
    done ← form_in is_outermost vs (place_of_tree s t) t
    pure (record { place = place_of_tree s t; act = done.0 }, done.1)
