-- Statements that make, link and destroy objects.
use Rattle.std.specs.Prelude.{ℕ, Bool, true, false, if◌then◌else◌, List, [], map, fold, Option, Some, None}
use Rattle.std.specs.Option.{option_map_or}
use Rattle.use_text.specs.declared.place.Place.{Place}
use Rattle.grammar_core.specs.Trees.{ParseTree}
use Rattle.use_nodes.specs.TypeNodes.{names_node}
use Rattle.use_nodes.specs.declared.statements.CreateNode.{CreateNode}
use Rattle.use_nodes.specs.declared.statements.DeleteNode.{DeleteNode}
use Rattle.use_nodes.specs.declared.statements.DestroyNode.{DestroyNode}
use Rattle.use_nodes.specs.declared.statements.InsertNode.{InsertNode}
use Rattle.use_nodes.specs.declared.statements.NewNode.{NewNode}
use Rattle.use_decls.specs.Names.{LexedText, name_at, text_at}
use Rattle.class_decls.specs.declared.decls.Name.{Name}
use Rattle.class_model.specs.Conformance.{conforms}
use Rattle.class_model.specs.Features.{assoc_named, class_named}
use Rattle.class_model.specs.Parts.{end_class}
use Rattle.class_model.specs.declared.numbers.End.TheVariants.{First, Second}
use Rattle.class_model.specs.declared.object_model.ObjectModel.{ObjectModel}
use Rattle.class_model.specs.declared.types.OclType.{OclType}
use Rattle.class_model.specs.declared.types.OclType.TheVariants as T
use Rattle.ocl_core.specs.declared.expression.Expr.{Expr}
use Rattle.ocl_core.specs.declared.statement.Act.{Act}
use Rattle.ocl_core.specs.declared.statement.Act.TheVariants as act
use Rattle.ocl_rules.specs.Typings.{Typing, breaks_n, breaks_t}
use Rattle.ocl_scope.specs.declared.environment.Environment.{Environment}
use Rattle.ocl_shapes.specs.Combining.{◌>>=◌, each, if_there, pure}
use Rattle.soil_scope.specs.Expressions.{expression_at}
use Rattle.soil_scope.specs.Scenes.{Scene}
use Rattle.soil_scope.specs.Shells.{slot_of}
use Rattle.soil_scope.specs.Variables.{role_of, standing}
use Rattle.soil_scope.specs.declared.expressions.Placed.{Placed}
use Rattle.soil_scope.specs.declared.variables.Role.{Role}
use Rattle.soil_scope.specs.declared.variables.Role.TheVariants.{Fixed, Free, Local, Object, Shell}
use Rattle.soil_scope.specs.declared.variables.Variables.{Variables}
use Rattle.soil_types.specs.declared.objects.Ends.{Ends}
use Rattle.soil_types.specs.declared.objects.NewObject.{NewObject}

-- a class by its name, or T13
abbrev pub class_or : Place → Option ℕ → Typing ℕ
class_or place None = breaks_t 13 place
class_or place (Some c) = pure c

abbrev pub class_wanted : ObjectModel → Name → Typing ℕ
class_wanted m name = class_or name.place (class_named m name.text)

-- an association by its name, or N3
abbrev pub association_or : Place → Option ℕ → Typing ℕ
association_or place None = breaks_n 3 place
association_or place (Some a) = pure a

abbrev pub association_wanted : ObjectModel → Name → Typing ℕ
association_wanted m name = association_or name.place (assoc_named m name.text)

-- a value of a type, or T5 at its first token
abbrev pub conforming : ObjectModel → OclType → Placed → Typing Expr
conforming m t x = if conforms m x.typed.of_type t then pure x.typed.expr else breaks_t 5 x.place

-- values of a class may be objects; null is one of every class
abbrev pub is_object : OclType → Bool
is_object (T.Class c) = true
is_object T.Void = true
is_object T.Any = false
is_object T.Bool = false
is_object T.Int = false
is_object T.Str = false
is_object (T.Enum e) = false
is_object (T.Coll' kind shape row) = false

-- an object, or T14 at its first token
abbrev pub object_wanted : Placed → Typing Expr
object_wanted x = if is_object x.typed.of_type then pure x.typed.expr else breaks_t 14 x.place

-- an object of a class
abbrev pub object_of : ObjectModel → ℕ → Placed → Typing Expr
object_of m c x = if is_object x.typed.of_type then conforming m (T.Class c) x else breaks_t 14 x.place

-- the names that a node lists
abbrev pub names_in : LexedText → ParseTree → List (List ℕ)
names_in l t = option_map_or (λ node. map (text_at l) node.names) (names_node t) []

-- from now on a name of the shell is that of an object of a class, unless it is a variable's
abbrev pub known_as : ℕ → Variables → ℕ → List ℕ → Role → Variables
known_as c vs slot name Shell = vs
known_as c vs slot name Free = standing vs slot name (T.Class c) Object
known_as c vs slot name Object = standing vs slot name (T.Class c) Object
known_as c vs slot name Local = standing vs slot name (T.Class c) Object
known_as c vs slot name Fixed = standing vs slot name (T.Class c) Object

abbrev pub known_at : ℕ → Variables → ℕ → List ℕ → Variables
known_at c vs slot name = known_as c vs slot name (role_of vs slot)

abbrev pub known : Scene → ℕ → Variables → List ℕ → Variables
known s c vs name = option_map_or (λ slot. known_at c vs slot name) (slot_of s.shell name) vs

-- `create`: the objects are known by their names from here on
unfoldable pub create : Scene → Variables → CreateNode → Typing (Act × Variables)
create s vs node = do
  c ← class_wanted s.model (name_at s.lexed node.class)
  pure (act.Create (names_in s.lexed node.names) c, fold (known s c) vs (names_in s.lexed node.names))

-- `new`: its name is a String (T5), its class is a class (T13)
unfoldable pub new_object : Scene → Environment → NewNode → Typing NewObject
new_object s env node = do
  x ← if_there (expression_at s false env) node.name
  name ← if_there (conforming s.model T.Str) x
  c ← class_wanted s.model (name_at s.lexed node.class)
  pure (record { class = c; name = name })

-- both expressions of `insert` and `delete`
unfoldable pub both : Scene → Environment → ParseTree → ParseTree → Typing (Placed × Placed)
both s env first second = do
  x ← expression_at s false env first
  y ← expression_at s false env second
  pure (x, y)

-- each end from left to right
unfoldable pub ends_of : ObjectModel → ℕ → Placed → Placed → Typing Ends
ends_of m a x y = do
  e ← object_of m (end_class m a First) x
  f ← object_of m (end_class m a Second) y
  pure (record { assoc = a; first = e; second = f })

-- what `insert` and `delete` link: both expressions, the association, then its ends
unfoldable pub linked : Scene → Environment → ParseTree → ParseTree → ParseTree → Typing Ends
linked s env first second association = do
  found ← both s env first second
  a ← association_wanted s.model (name_at s.lexed association)
  ends_of s.model a found.0 found.1

unfoldable pub insert : Scene → Environment → InsertNode → Typing Act
insert s env node = do
  found ← linked s env node.first node.second node.association
  pure (act.Insert found.assoc found.first found.second)

unfoldable pub delete : Scene → Environment → DeleteNode → Typing Act
delete s env node = do
  found ← linked s env node.first node.second node.association
  pure (act.Delete found.assoc found.first found.second)

-- `destroy`: all expressions, then each is an object
unfoldable pub destroy : Scene → Environment → DestroyNode → Typing Act
destroy s env node = do
  xs ← each (expression_at s false env) [] node.objects
  objects ← each object_wanted [] xs
  pure (act.Destroy objects)
