-- What is checked in the text of a model: bodies, invariants and contracts, in the order of the text.
use Rattle.std.specs.Prelude.{ℕ, Bool, true, false, not, List, Option, Some, None}
use Rattle.std.specs.Option.{option_map}
use Rattle.use_text.specs.declared.token.TokenKind.TheVariants as k
use Rattle.grammar_core.specs.Trees.{ParseTree}
use Rattle.use_nodes.specs.declared.models.AttributeNode.{AttributeNode}
use Rattle.use_nodes.specs.declared.models.ClassNode.{ClassNode}
use Rattle.use_nodes.specs.declared.models.ContextNode.{ContextNode}
use Rattle.use_nodes.specs.declared.models.HeadNode.{HeadNode}
use Rattle.use_nodes.specs.declared.models.OperNode.{OperNode}
use Rattle.use_nodes.specs.Nodes.{and_then, is_token}
use Rattle.use_nodes.specs.ModelNodes.{attribute_node, class_node, cond_node, constraints_node, context_node, file_node, head_node, inv_node, oper_node}
use Rattle.use_decls.specs.Names.{text_at}
use Rattle.use_decls.specs.Conds.{context_class}
use Rattle.class_model.specs.Features.{class_named, derived, operation}
use Rattle.class_model.specs.Parts.{der_type, op_result}
use Rattle.ocl_core.specs.declared.program.OpBody.TheVariants as body
use Rattle.ocl_rules.specs.Typings.{Typing}
use Rattle.ocl_shapes.specs.Combining.{◌>>=◌, pure}
use Rattle.soil_scope.specs.Expressions.{expression_at}
use Rattle.soil_scope.specs.Scenes.{Scene, scene}
use Rattle.soil_types.specs.Walk.{body_statements}
use Rattle.model_check.specs.declared.checked.Checked.{Checked}
use Rattle.model_check.specs.declared.source.Source.{Source}
use Rattle.model_check.specs.Seen.{param_names, seen_by_contract, seen_by_invariant, seen_by_query, seen_by_statements, seen_in_class}
use Rattle.model_check.specs.Rules.{condition_rule, result_rule, value_rule}
use Rattle.model_check.specs.Adding.{each_added, next_name, nothing_checked, where_there, with_body, with_contract, with_derived, with_invariant}

-- a model whose text is checked, and the names of its invariants and contracts, in the order of the text
pub record Reading : Type 0 where
  pub scene : Scene
  pub names : List (List ℕ)

abbrev pub reading : Source → Reading
reading s = record { scene = scene s.setting; names = s.names.now }

-- the body of a derived attribute sees what an invariant sees
unfoldable pub derived_value : Reading → ℕ → Checked → ParseTree → ℕ → Typing Checked
derived_value r class found t number = do
  x ← expression_at r.scene false (seen_in_class class).environment t
  e ← value_rule r.scene.model (der_type r.scene.model number) x
  pure (with_derived found number e)

unfoldable pub attribute_value : Reading → ℕ → Checked → AttributeNode → ParseTree → Typing Checked
attribute_value r class found node t =
    where_there (derived r.scene.model class (text_at r.scene.lexed node.name)) found (derived_value r class found t)

unfoldable pub attribute : Reading → ℕ → Checked → ParseTree → Typing Checked
attribute r class found t =
    where_there (attribute_node t) found (λ node. where_there node.value found (attribute_value r class found node))

-- the body of an operation that is a query, and one of statements
unfoldable pub query : Reading → ℕ → List (List ℕ) → Checked → ParseTree → Typing Checked
query r op names found t = do
  x ← expression_at r.scene false (seen_by_query r.scene.model op names).environment t
  e ← result_rule r.scene.model (op_result r.scene.model op) x
  pure (with_body found op (body.Query e))

unfoldable pub statements : Reading → ℕ → List (List ℕ) → Checked → ParseTree → Typing Checked
statements r op names found t = do
  done ← body_statements r.scene (seen_by_statements r.scene.model op names) t
  pure (with_body found op (body.Soil done))

-- contracts of an operation: preconditions and postconditions
unfoldable pub contract_of : Reading → ℕ → List (List ℕ) → Checked → Bool → ParseTree → List ℕ → Typing Checked
contract_of r op names found is_post t name = do
  x ← expression_at r.scene is_post (seen_by_contract r.scene.model op names is_post).environment t
  e ← condition_rule r.scene.model x
  pure (with_contract found (record { op = op; name = name; is_post = is_post; expr = e }))

unfoldable pub contract : Reading → ℕ → List (List ℕ) → Checked → ParseTree → Typing Checked
contract r op names found t =
    where_there (cond_node t) found (λ node.
    where_there (next_name r.names found) found (contract_of r op names found (not (is_token k.Pre node.kind)) node.condition))

abbrev pub contracts : Reading → ℕ → List (List ℕ) → Checked → List ParseTree → Typing Checked
contracts r op names found ts = each_added (contract r op names) found ts

-- an operation: its body, and the contracts behind it
unfoldable pub body_of : Reading → ℕ → List (List ℕ) → Checked → OperNode → Typing Checked
body_of r op names found node =
    where_there node.query found (query r op names found) >>= (λ next. where_there node.statements next (statements r op names next))

unfoldable pub operation_of : Reading → Checked → OperNode → HeadNode → ℕ → Typing Checked
operation_of r found node head op = do
  next ← body_of r op (param_names r.scene.lexed head) found node
  contracts r op (param_names r.scene.lexed head) next node.conditions

-- the declaration of the operation of a head in a class: no other of the class overrides it
abbrev pub declared : Reading → ℕ → HeadNode → Option ℕ
declared r class head = operation r.scene.model class (text_at r.scene.lexed head.name)

unfoldable pub operation_at : Reading → ℕ → Checked → OperNode → HeadNode → Typing Checked
operation_at r class found node head = where_there (declared r class head) found (operation_of r found node head)

unfoldable pub oper : Reading → ℕ → Checked → ParseTree → Typing Checked
oper r class found t = where_there (oper_node t) found (λ node. where_there (head_node node.head) found (operation_at r class found node))

-- an invariant of a class, the object of which may have another name beside `self`
unfoldable pub invariant_of : Reading → ℕ → Option (List ℕ) → Checked → ParseTree → List ℕ → Typing Checked
invariant_of r class variable found t name = do
  x ← expression_at r.scene false (seen_by_invariant class variable).environment t
  e ← condition_rule r.scene.model x
  pure (with_invariant found (record { class = class; name = name; expr = e }))

unfoldable pub invariant : Reading → ℕ → Option (List ℕ) → Checked → ParseTree → Typing Checked
invariant r class variable found t =
    where_there (inv_node t) found (λ node.
    where_there (next_name r.names found) found (invariant_of r class variable found node.condition))

abbrev pub invariants : Reading → ℕ → Option (List ℕ) → Checked → List ParseTree → Typing Checked
invariants r class variable found ts = each_added (invariant r class variable) found ts

-- a class: its derived attributes, its operations, its invariants
unfoldable pub class_of : Reading → Checked → ClassNode → ℕ → Typing Checked
class_of r found node class = do
  with_attributes ← each_added (attribute r class) found node.attributes
  with_operations ← each_added (oper r class) with_attributes node.operations
  invariants r class None with_operations node.invariants

unfoldable pub class : Reading → Checked → ParseTree → Typing Checked
class r found t =
    where_there (class_node t) found (λ node.
    where_there (class_named r.scene.model (text_at r.scene.lexed node.name)) found (class_of r found node))

-- a context: invariants of a class, or contracts of the operation whose head it names
abbrev pub variable_of : Reading → ContextNode → Option (List ℕ)
variable_of r node = option_map (λ _. text_at r.scene.lexed node.name) node.class

unfoldable pub head_contracts : Reading → ℕ → Checked → ContextNode → HeadNode → Typing Checked
head_contracts r class found node head =
    where_there (declared r class head) found (λ op. contracts r op (param_names r.scene.lexed head) found node.conditions)

unfoldable pub context_of : Reading → Checked → ContextNode → Option ParseTree → ℕ → Typing Checked
context_of r found node None class = invariants r class (variable_of r node) found node.invariants
context_of r found node (Some t) class = where_there (head_node t) found (head_contracts r class found node)

unfoldable pub context : Reading → Checked → ParseTree → Typing Checked
context r found t =
    where_there (context_node t) found (λ node.
    where_there (class_named r.scene.model (text_at r.scene.lexed (context_class node))) found (context_of r found node node.head))

-- a declaration: a class, or the contexts of some constraints
unfoldable pub constraints : Reading → Checked → ParseTree → Typing Checked
constraints r found t = where_there (constraints_node t) found (λ node. each_added (context r) found node.contexts)

unfoldable pub declaration : Reading → Checked → ParseTree → Typing Checked
declaration r found t = class r found t >>= (λ next. constraints r next t)

-- a model
unfoldable pub file : Reading → ParseTree → Typing Checked
file r t = where_there (file_node t) (nothing_checked r.scene.model) (λ node. each_added (declaration r) (nothing_checked r.scene.model) node.declarations)
