-- Statements that make, link, destroy and call are of the model where they are checked.
use Rattle.std.proofs.Common.{◌≡◌, ℕ, ◌<◌, false, [], length, Option, Some, None, IfSome, sym, subst, rules}
use Rattle.std.specs.Prelude.{⊤}
use Rattle.std.specs.List.{AllByRecursion}
use Rattle.std.specs.Option.{ForSome}
use Rattle.std.proofs.lemmas.List.Elements.{All-from_recursion}
use Rattle.use_text.specs.declared.place.Place.{Place}
use Rattle.grammar_core.specs.Trees.{ParseTree}
use Rattle.use_nodes.specs.declared.statements.DeleteNode.{DeleteNode}
use Rattle.use_nodes.specs.declared.statements.DestroyNode.{DestroyNode}
use Rattle.use_nodes.specs.declared.statements.InsertNode.{InsertNode}
use Rattle.use_nodes.specs.declared.statements.NewNode.{NewNode}
use Rattle.use_decls.specs.Names.{name_at}
use Rattle.class_decls.specs.declared.decls.Name.{Name}
use Rattle.class_model.specs.Conformance.{conforms}
use Rattle.class_model.specs.Features.{assoc_named, class_named}
use Rattle.class_model.specs.Parts.{end_class}
use Rattle.class_model.specs.declared.numbers.End.TheVariants.{First, Second}
use Rattle.class_model.specs.declared.object_model.ObjectModel.{ObjectModel}
use Rattle.class_model.specs.declared.types.OclType.{OclType, more_of-OclType}
use Rattle.class_model.specs.declared.types.OclType.TheVariants as T
use Rattle.class_model.specs.InRange.{IsInRange, IsTypeOf}
use Rattle.ocl_core.specs.declared.statement.Act.{Act, out-Act, the_lemmas}
use Rattle.ocl_core.specs.declared.statement.Act.TheOpen.{Act-F}
use Rattle.ocl_core.specs.declared.statement.Act.TheVariants as act
use Rattle.ocl_core.specs.declared.statement.Stmt.{Stmt}
use Rattle.ocl_program.specs.Bodies.{ActIsOf, IsStatementTo, TargetIsOf}
use Rattle.ocl_program.specs.Programs.{IsCheckedNow}
use Rattle.ocl_rules.specs.Typings.{Typing, breaks_t}
use Rattle.ocl_scope.specs.Ranges.{IsEnvironmentOf}
use Rattle.ocl_scope.specs.declared.environment.Environment.{Environment}
use Rattle.ocl_scope.proofs.Found.{either}
use Rattle.ocl_shapes.specs.Combining.{each, if_there, pure}
use Rattle.ocl_syntax.specs.declared.tree.Written.{Written}
use Rattle.ocl_laws.proofs.Comes.{Comes, binds, each_comes, if_there_comes}
use Rattle.ocl_laws.proofs.InRange.{Anywhere, anywhere, every_where}
use Rattle.soil_scope.specs.Calls.{called, callee_in, said, said_by}
use Rattle.soil_scope.specs.Expressions.{expression_at, type_of}
use Rattle.soil_scope.specs.Scenes.{Scene}
use Rattle.soil_scope.specs.declared.calls.Callee.{Callee}
use Rattle.soil_scope.specs.declared.expressions.Placed.{Placed}
use Rattle.soil_scope.specs.declared.variables.Variables.{Variables}
use Rattle.soil_types.specs.ObjectForms.{association_or, both, class_or, class_wanted, association_wanted, conforming, delete, destroy, ends_of, insert, is_object, linked, new_object, object_of, object_wanted}
use Rattle.soil_types.specs.Statements.{condition, element_by, leaving}
use Rattle.soil_laws.proofs.Unnamed.{Ends, NewObject}
use Rattle.soil_laws.proofs.Named.{assoc_there, class_there}
use Rattle.soil_laws.proofs.Bound.{EnvOf, Leads, for_some, stay}
use Rattle.soil_laws.proofs.Called.{IsCall, IsCallee, IsGood, any, called_good, callee_good, expression_good}

-- ---- acts

-- whatever is asked of the statements in it down to a depth
abbrev pub ActOf : ObjectModel → Act → Type 0
ActOf m a = (n : ℕ) → ActIsOf m (IsStatementTo m n) (out-Act a)

pub act_is : (m : ObjectModel) (a : Act) (l : Act-F Act Stmt) → out-Act a ≡ l → ((n : ℕ) → ActIsOf m (IsStatementTo m n) l) → ActOf m a
act_is m a l is h = λ n. subst (ActIsOf m (IsStatementTo m n)) (sym is) (h n)

abbrev pub FormOf : ObjectModel → Variables → Act × Variables → Type 0
FormOf m vs done = ActOf m done.0 × Leads m vs done.1

pub leaving_good : (m : ObjectModel) (vs : Variables) (a : Typing Act) → EnvOf m vs → Comes Anywhere (λ x. ActOf m x) a →
    Comes Anywhere (λ x. FormOf m vs x) (leaving vs a)
leaving_good m vs a h k = binds Anywhere (λ x. ActOf m x) (λ x. FormOf m vs x) a (λ x. pure (x, vs)) k (λ x l. (l, stay m vs h))

-- ---- classes and associations by name

class_or_good : (m : ObjectModel) (place : Place) (o : Option ℕ) → IfSome o (λ c. c < length m.classes) →
    Comes Anywhere (λ c. c < length m.classes) (class_or place o)
class_or_good m place None h = tt
class_or_good m place (Some c) h = h

pub class_good : (m : ObjectModel) (name : Name) → Comes Anywhere (λ c. c < length m.classes) (class_wanted m name)
class_good m name = class_or_good m name.place (class_named m name.text) (class_there m name.text)

assoc_or_good : (m : ObjectModel) (place : Place) (o : Option ℕ) → IfSome o (λ a. a < length m.assocs) →
    Comes Anywhere (λ a. a < length m.assocs) (association_or place o)
assoc_or_good m place None h = tt
assoc_or_good m place (Some a) h = h

assoc_good : (m : ObjectModel) (name : Name) → Comes Anywhere (λ a. a < length m.assocs) (association_wanted m name)
assoc_good m name = assoc_or_good m name.place (assoc_named m name.text) (assoc_there m name.text)

-- ---- values of a type, and objects

conforming_good : (m : ObjectModel) (t : OclType) (x : Placed) → IsGood m x.typed → Comes Anywhere (IsCheckedNow m) (conforming m t x)
conforming_good m t x h = either (Comes Anywhere (IsCheckedNow m)) (conforms m x.typed.of_type t) (pure x.typed.expr) (breaks_t 5 x.place) h.0 tt

pub condition_good : (m : ObjectModel) (x : Placed) → IsGood m x.typed → Comes Anywhere (IsCheckedNow m) (condition m x)
condition_good m x h = either (Comes Anywhere (IsCheckedNow m)) (conforms m x.typed.of_type T.Bool) (pure x.typed.expr) (breaks_t 4 x.place) h.0 tt

object_good : (m : ObjectModel) (x : Placed) → IsGood m x.typed → Comes Anywhere (IsCheckedNow m) (object_wanted x)
object_good m x h = either (Comes Anywhere (IsCheckedNow m)) (is_object x.typed.of_type) (pure x.typed.expr) (breaks_t 14 x.place) h.0 tt

object_of_good : (m : ObjectModel) (c : ℕ) (x : Placed) → IsGood m x.typed → Comes Anywhere (IsCheckedNow m) (object_of m c x)
object_of_good m c x h =
    either (Comes Anywhere (IsCheckedNow m)) (is_object x.typed.of_type) (conforming m (T.Class c) x) (breaks_t 14 x.place) (conforming_good m (T.Class c) x h) tt

pub element_good : (m : ObjectModel) (place : Place) (t : OclType) → IsTypeOf m t → Comes Anywhere (IsTypeOf m) (element_by place t)
element_good m place (T.Coll' kind shape (more_of-OclType element row)) h = h
element_good m place T.Void h = tt
element_good m place t h = tt

abbrev pub IsNew : ObjectModel → NewObject → Type 0
IsNew m made = (made.class < length m.classes) × ForSome made.name (IsCheckedNow m)

abbrev IsLinked : ObjectModel → Ends → Type 0
IsLinked m e = (e.assoc < length m.assocs) × IsCheckedNow m e.first × IsCheckedNow m e.second

ends_good : (m : ObjectModel) (a : ℕ) (x y : Placed) → a < length m.assocs → IsGood m x.typed → IsGood m y.typed →
    Comes Anywhere (λ e. IsLinked m e) (ends_of m a x y)
unfolding ends_of
ends_good m a x y there h k =
    binds Anywhere (IsCheckedNow m) (λ e. IsLinked m e) (object_of m (end_class m a First) x) _ (object_of_good m (end_class m a First) x h)
    (λ first i. binds Anywhere (IsCheckedNow m) (λ e. IsLinked m e) (object_of m (end_class m a Second) y) _
    (object_of_good m (end_class m a Second) y k) (λ second j. (there, i, j)))

module _ (s : Scene) (range : IsInRange s.model) (env : Environment) (f : IsEnvironmentOf s.model env) where
  pub new_good : (node : NewNode) → Comes Anywhere (λ x. IsNew s.model x) (new_object s env node)
  unfolding new_object
  new_good node =
      binds Anywhere (λ o. IfSome o (λ x. IsGood s.model x.typed)) (λ x. IsNew s.model x) (if_there (expression_at s false env) node.name) _
      (if_there_comes Anywhere (λ t. ⊤) (λ x. IsGood s.model x.typed) (expression_at s false env) (λ t k. expression_good s range env f t) node.name
      (anywhere node.name))
      (λ x h. binds Anywhere (λ o. IfSome o (IsCheckedNow s.model)) (λ x. IsNew s.model x) (if_there (conforming s.model T.Str) x) _
      (if_there_comes Anywhere (λ x. IsGood s.model x.typed) (IsCheckedNow s.model) (conforming s.model T.Str)
      (λ x k. conforming_good s.model T.Str x k) x h)
      (λ name k. binds Anywhere (λ c. c < length s.model.classes) (λ x. IsNew s.model x) (class_wanted s.model (name_at s.lexed node.class)) _
      (class_good s.model (name_at s.lexed node.class)) (λ c l. (l, for_some (IsCheckedNow s.model) name k))))

  abbrev AreGood : Placed × Placed → Type 0
  AreGood found = IsGood s.model found.0.typed × IsGood s.model found.1.typed

  both_good : (first second : ParseTree) → Comes Anywhere (λ found. AreGood found) (both s env first second)
  unfolding both
  both_good first second =
      binds Anywhere (λ x. IsGood s.model x.typed) (λ found. AreGood found) (expression_at s false env first) _ (expression_good s range env f first)
      (λ x h. binds Anywhere (λ x. IsGood s.model x.typed) (λ found. AreGood found) (expression_at s false env second) _
      (expression_good s range env f second) (λ y k. (h, k)))

  linked_good : (first second association : ParseTree) → Comes Anywhere (λ e. IsLinked s.model e) (linked s env first second association)
  unfolding linked
  linked_good first second association =
      binds Anywhere (λ found. AreGood found) (λ e. IsLinked s.model e) (both s env first second) _ (both_good first second)
      (λ found h. binds Anywhere (λ a. a < length s.model.assocs) (λ e. IsLinked s.model e) (association_wanted s.model (name_at s.lexed association)) _
      (assoc_good s.model (name_at s.lexed association)) (λ a k. ends_good s.model a found.0 found.1 k h.0 h.1))

  pub insert_good : (node : InsertNode) → Comes Anywhere (λ a. ActOf s.model a) (insert s env node)
  unfolding insert
  insert_good node =
      binds Anywhere (λ e. IsLinked s.model e) (λ a. ActOf s.model a) (linked s env node.first node.second node.association) _
      (linked_good node.first node.second node.association)
      (λ e h. act_is s.model (act.Insert e.assoc e.first e.second) (Act-F.Insert e.assoc e.first e.second) (search (rules, the_lemmas)) (λ n. h))

  pub delete_good : (node : DeleteNode) → Comes Anywhere (λ a. ActOf s.model a) (delete s env node)
  unfolding delete
  delete_good node =
      binds Anywhere (λ e. IsLinked s.model e) (λ a. ActOf s.model a) (linked s env node.first node.second node.association) _
      (linked_good node.first node.second node.association)
      (λ e h. act_is s.model (act.Delete e.assoc e.first e.second) (Act-F.Delete e.assoc e.first e.second) (search (rules, the_lemmas)) (λ n. h))

  pub destroy_good : (node : DestroyNode) → Comes Anywhere (λ a. ActOf s.model a) (destroy s env node)
  unfolding destroy
  destroy_good node =
      binds Anywhere (AllByRecursion (λ x. IsGood s.model x.typed)) (λ a. ActOf s.model a) (each (expression_at s false env) [] node.objects) _
      (each_comes Anywhere (λ t. ⊤) (λ x. IsGood s.model x.typed) (expression_at s false env) (λ t k. expression_good s range env f t) [] node.objects tt
      (every_where node.objects))
      (λ xs h. binds Anywhere (AllByRecursion (IsCheckedNow s.model)) (λ a. ActOf s.model a) (each object_wanted [] xs) _
      (each_comes Anywhere (λ x. IsGood s.model x.typed) (IsCheckedNow s.model) object_wanted (λ x k. object_good s.model x k) [] xs tt h)
      (λ es k. act_is s.model (act.Destroy es) (Act-F.Destroy es) (search (rules, the_lemmas)) (λ n. All-from_recursion (IsCheckedNow s.model) es k)))

  said_by_good : (place : Place) (e : Written) (o : Option Callee) → IfSome o (IsCallee s.model) → Comes Anywhere (λ a. ActOf s.model a) (said_by s env place e o)
  said_by_good place e None h = binds Anywhere (λ x. ⊤) (λ a. ActOf s.model a) (type_of s env e) (λ _. breaks_t 11 place) (any _) (λ x k. tt)
  said_by_good place e (Some c) h =
      binds Anywhere (λ c. IsCall s.model c) (λ a. ActOf s.model a) (called s env e c) _ (called_good s range env f e c h)
      (λ call k. act_is s.model (act.Call call.receiver call.op call.args None) (Act-F.Call call.receiver call.op call.args None) (search (rules, the_lemmas))
      (λ n. (k.0, k.1, k.2, for_some (TargetIsOf s.model) None tt)))

  pub said_good : (place : Place) (e : Written) → Comes Anywhere (λ a. ActOf s.model a) (said s env place e)
  unfolding said
  said_good place e =
      binds Anywhere (λ o. IfSome o (IsCallee s.model)) (λ a. ActOf s.model a) (callee_in s env e) (λ c. said_by s env place e c) (callee_good s range env f e)
      (λ o h. said_by_good place e o h)
