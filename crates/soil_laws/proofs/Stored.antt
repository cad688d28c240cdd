-- Assignments that are checked are of the model: what they name, where they store, and what is stored.
use Rattle.std.proofs.Common.{◌≡◌, ℕ, zero, suc, ◌<◌, Bool, true, false, is_some, List, length, Option, Some, None, IfSome, refl, subst, rules}
use Rattle.std.specs.Prelude.{⊤, codes}
use Rattle.std.specs.Option.{option_map_or}
use Rattle.use_text.specs.declared.place.Place.{Place}
use Rattle.grammar_core.specs.Trees.{ParseTree}
use Rattle.use_nodes.specs.StatementNodes as n
use Rattle.use_nodes.specs.declared.statements.NewNode.{NewNode}
use Rattle.class_decls.specs.Texts.{same_text}
use Rattle.class_decls.specs.declared.decls.Name.{Name}
use Rattle.class_model.specs.declared.object_model.ObjectModel.{ObjectModel}
use Rattle.class_model.specs.declared.types.OclType.{OclType}
use Rattle.class_model.specs.InRange.{IsInRange, IsTypeOf}
use Rattle.ocl_core.specs.Trees as trees
use Rattle.ocl_core.specs.declared.expression.Expr.{Expr, out-Expr}
use Rattle.ocl_core.specs.declared.expression.Expr.TheOpen.{Expr-F}
use Rattle.ocl_core.specs.declared.statement.Act.{the_lemmas}
use Rattle.ocl_core.specs.declared.statement.Act.TheOpen.{Act-F}
use Rattle.ocl_core.specs.declared.statement.Act.TheVariants as act
use Rattle.ocl_core.specs.declared.statement.Target.{Target}
use Rattle.ocl_values.specs.Shape.{IsWellMade}
use Rattle.ocl_program.specs.Bodies.{TargetIsOf}
use Rattle.ocl_program.specs.Programs.{IsCheckedNow}
use Rattle.ocl_rules.specs.Typings.{breaks_t}
use Rattle.ocl_scope.specs.Environments.{has_name, variable_named}
use Rattle.ocl_scope.specs.Names.{type_named}
use Rattle.ocl_scope.specs.Ranges.{IsEnvironmentOf}
use Rattle.ocl_scope.specs.declared.environment.Environment.{Environment}
use Rattle.ocl_scope.specs.declared.environment.Variable.{Variable}
use Rattle.ocl_scope.proofs.Found.{either}
use Rattle.ocl_shapes.specs.Combining.{pure}
use Rattle.ocl_shapes.specs.Shapes as shapes
use Rattle.ocl_syntax.specs.Expressions.{written}
use Rattle.ocl_syntax.specs.declared.tree.Argument.TheOpen.{Written-F}
use Rattle.ocl_syntax.specs.declared.tree.Written.{Written, out-Written}
use Rattle.ocl_laws.proofs.Comes.{Comes, binds}
use Rattle.ocl_laws.proofs.InRange.{Anywhere}
use Rattle.soil_scope.specs.Calls.{called, callee_in}
use Rattle.soil_scope.specs.Expressions.{type_of}
use Rattle.soil_scope.specs.Scenes.{Scene}
use Rattle.soil_scope.specs.Shells.{slot_of}
use Rattle.soil_scope.specs.Variables.{role_of, standing}
use Rattle.soil_scope.specs.declared.calls.Callee.{Callee}
use Rattle.soil_scope.specs.declared.variables.Role.{Role}
use Rattle.soil_scope.specs.declared.variables.Role.TheVariants.{Fixed, Free, Local, Object, Shell}
use Rattle.soil_scope.specs.declared.variables.Variables.{Variables}
use Rattle.soil_types.specs.Aims.{aim_at, aim_of, attribute_at, attribute_read, first_storage, shell_storage, storage_by_role, storage_found, storage_of, storage_of_name, variable_aim}
use Rattle.soil_types.specs.Assignments.{act_of, assign, assignment, call_result, fits, form_by, is_statement, put, retyped, right_side, store_if, storing, target_for, value_by, value_of, value_of_expression}
use Rattle.soil_types.specs.ObjectForms.{new_object}
use Rattle.soil_laws.proofs.Unnamed.{Aim, Assigned, Source, Storage}
use Rattle.soil_laws.proofs.Named.{type_of_result}
use Rattle.soil_laws.proofs.Bound.{EnvOf, Leads, for_some, stands_for, stay, value_more}
use Rattle.soil_laws.proofs.Called.{IsCall, IsCallee, IsGood, any, called_good, callee_good, last_there, type_good}
use Rattle.soil_laws.proofs.Acts.{ActOf, FormOf, IsNew, act_is, new_good}

-- ---- where a value is stored

abbrev FoundOf : ObjectModel → Variables → Target × Variables → Type 0
FoundOf m vs found = TargetIsOf m found.0 × Leads m vs found.1

-- whatever the type of the value is, if it is the model's
abbrev pub StorageOf : ObjectModel → Storage → Type 0
StorageOf m to = (s : Scene) (vs : Variables) → EnvOf m vs → (t : OclType) → IsTypeOf m t → FoundOf m vs (put s vs to t)

-- a name of the shell may come to stand for something else
pub slot_leads : (m : ObjectModel) (vs : Variables) (o : Option ℕ) (f : ℕ → Variables) → EnvOf m vs → ((slot : ℕ) → Leads m vs (f slot)) →
    Leads m vs (option_map_or f o vs)
slot_leads m vs None f h k = stay m vs h
slot_leads m vs (Some slot) f h k = k slot

retyped_leads : (m : ObjectModel) (s : Scene) (vs : Variables) (name : List ℕ) (t : OclType) → EnvOf m vs → IsTypeOf m t → Leads m vs (retyped s vs name t)
retyped_leads m s vs name t h k =
    slot_leads m vs (slot_of s.shell name) (λ slot. standing vs slot name t Shell) h (λ slot. stands_for m vs slot name t Shell h k)

first_good : (m : ObjectModel) (is_outermost : Bool) (name : List ℕ) → StorageOf m (first_storage is_outermost name)
first_good m true name = λ s vs h t k. (k, retyped_leads m s vs name t h k)
first_good m false name = λ s vs h t k. (tt, value_more m Local vs (Some name) t false h k)

shell_good : (m : ObjectModel) (is_outermost : Bool) (name : List ℕ) (kept : OclType) → IsTypeOf m kept → StorageOf m (shell_storage is_outermost name kept)
shell_good m true name kept i = λ s vs h t k. (k, retyped_leads m s vs name t h k)
shell_good m false name kept i = λ s vs h t k. (i, stay m vs h)

by_role_good : (m : ObjectModel) (is_outermost : Bool) (place : Place) (name : List ℕ) (role : Role) (v : Variable) → IsTypeOf m v.of_type →
    Comes Anywhere (λ x. StorageOf m x) (storage_by_role is_outermost place name role v)
by_role_good m is_outermost place name Free v i = first_good m is_outermost name
by_role_good m is_outermost place name Object v i = λ s vs h t k. (k, stay m vs h)
by_role_good m is_outermost place name Shell v i = shell_good m is_outermost name v.of_type i
by_role_good m is_outermost place name Local v i = λ s vs h t k. (tt, stay m vs h)
by_role_good m is_outermost place name Fixed v i = tt

storage_found_good : (m : ObjectModel) (is_outermost : Bool) (place : Place) (vs : Variables) (name : List ℕ) (o : Option Variable) →
    IfSome o (λ v. IsTypeOf m v.of_type) → Comes Anywhere (λ x. StorageOf m x) (storage_found is_outermost place vs name o)
storage_found_good m is_outermost place vs name None h = first_good m is_outermost name
storage_found_good m is_outermost place vs name (Some v) h = by_role_good m is_outermost place name (role_of vs v.number) v h

storage_of_name_good : (m : ObjectModel) (is_outermost : Bool) (place : Place) (vs : Variables) (name : List ℕ) → EnvOf m vs →
    Comes Anywhere (λ x. StorageOf m x) (storage_of_name is_outermost place vs name)
storage_of_name_good m is_outermost place vs name h =
    either (Comes Anywhere (λ x. StorageOf m x)) (same_text name (codes "self")) (breaks_t 11 place)
    (storage_found is_outermost place vs name (variable_named vs.environment name)) tt
    (storage_found_good m is_outermost place vs name (variable_named vs.environment name)
    (last_there (λ v. IsTypeOf m v.of_type) (has_name name) vs.environment.variables h.types))

-- ---- what an assignment names

-- wherever it stands
abbrev pub AimOf : ObjectModel → Aim → Type 0
AimOf m named = (is_outermost : Bool) (place : Place) (vs : Variables) → EnvOf m vs → Comes Anywhere (λ x. StorageOf m x) (storage_of is_outermost place vs named)

attribute_good : (m : ObjectModel) (t : OclType) (e : Expr) (l : trees.Layer) → out-Expr e ≡ l → IsCheckedNow m e → AimOf m (attribute_at t l)
attribute_good m t e (Expr-F.Attr from attr when) is h =
    let checked : IsCheckedNow m from = record {
      checked = record {
        sound = record { literals = λ n. subst (trees.LayerHolds IsWellMade (trees.HasLiteralsTo n)) is (h.checked.sound.literals (suc n)) };
        of_model = record {
          nodes = λ n. (subst (λ l. trees.NodeIsOf m l × trees.LayerHolds (λ v. ⊤) (trees.NodesHoldTo (trees.NodeIsOf m) n) l) is (h.checked.of_model.nodes (suc n))).1;
        };
      };
      now = record {
        nodes = λ n. (subst (λ l. trees.NodeReadsNow l × trees.LayerHolds (λ v. ⊤) (trees.NodesHoldTo trees.NodeReadsNow n) l) is (h.now.nodes (suc n))).1;
      };
    } in
    let there : attr < length m.attrs =
    (subst (λ l. trees.NodeIsOf m l × trees.LayerHolds (λ v. ⊤) (trees.NodesHoldTo (trees.NodeIsOf m) zero) l) is (h.checked.of_model.nodes (suc zero))).0 in
    λ is_outermost place vs f s after i t k. ((checked, there), stay m after i)
attribute_good m t e l is h = λ is_outermost place vs f. tt

target_good : (s : Scene) (vs : Variables) (to : Storage) (t : OclType) (place : Place) → EnvOf s.model vs → StorageOf s.model to → IsTypeOf s.model t →
    Comes Anywhere (λ x. FoundOf s.model vs x) (target_for s vs to t place)
target_good s vs to t place h k l =
    either (Comes Anywhere (λ x. FoundOf s.model vs x)) (fits s.model to t) (pure (put s vs to t)) (breaks_t 5 place) (k s vs h t l) tt

-- ---- what is stored

-- wherever it is stored
abbrev pub SourceOf : ObjectModel → Source → Type 0
SourceOf m from = (to : Target) → TargetIsOf m to → ActOf m (act_of from to)

abbrev pub AssignedOf : ObjectModel → Assigned → Type 0
AssignedOf m x = SourceOf m x.source × IfSome x.of_type (IsTypeOf m)

store_good : (s : Scene) (vs : Variables) (place : Place) (to : Storage) (from : Source) (o : Option OclType) (value_place : Place) → EnvOf s.model vs →
    StorageOf s.model to → SourceOf s.model from → IfSome o (IsTypeOf s.model) → Comes Anywhere (λ x. FormOf s.model vs x) (store_if s vs place to from o value_place)
store_good s vs place to from None value_place h k l i = tt
store_good s vs place to from (Some t) value_place h k l i =
    binds Anywhere (λ x. FoundOf s.model vs x) (λ x. FormOf s.model vs x) (target_for s vs to t value_place) (λ found. pure (storing from found))
    (target_good s vs to t value_place h k i) (λ found j. (l found.0 j.0, j.1))

module _ (s : Scene) (range : IsInRange s.model) (env : Environment) (f : IsEnvironmentOf s.model env) where
  variable_aim_good : (name : Name) → Comes Anywhere (λ x. AimOf s.model x) (variable_aim s.model name)
  variable_aim_good name =
      either (Comes Anywhere (λ x. AimOf s.model x)) (is_some (type_named s.model name.text)) (breaks_t 8 name.place) _ tt
      (λ is_outermost place vs h. storage_of_name_good s.model is_outermost place vs name.text h)

  aim_at_good : (e : Written) (l : shapes.Layer) → Comes Anywhere (λ x. AimOf s.model x) (aim_at s env e l)
  aim_at_good e (Written-F.Named name None false None) = variable_aim_good name
  aim_at_good e (Written-F.Dot from name is_before None) =
      binds Anywhere (λ x. IsGood s.model x) (λ x. AimOf s.model x) (type_of s env e) (λ x. pure (attribute_read x)) (type_good s range env f e)
      (λ x h. attribute_good s.model x.of_type x.expr (out-Expr x.expr) refl h.0)
  aim_at_good e l =
      binds Anywhere (λ x. ⊤) (λ x. AimOf s.model x) (type_of s env e) _ (any _) (λ x k is_outermost place vs h. tt)

  aim_good : (e : Written) → Comes Anywhere (λ x. AimOf s.model x) (aim_of s env e)
  unfolding aim_of
  aim_good e = aim_at_good e (out-Written e)

  value_good : (e : Written) → Comes Anywhere (λ x. AssignedOf s.model x) (value_of s env e)
  value_good e =
      binds Anywhere (λ x. IsGood s.model x) (λ x. AssignedOf s.model x) (type_of s env e) _ (type_good s range env f e)
      (λ x h. (
        λ to k. act_is s.model (act.Assign to x.expr) (Act-F.Assign to x.expr) (search (rules, the_lemmas)) (λ n. (k, h.0)),
        h.1,
      ))

  call_result_good : (e : Written) (c : Callee) → IsCallee s.model c → Comes Anywhere (λ x. AssignedOf s.model x) (call_result s env e c)
  call_result_good e c h =
      binds Anywhere (λ c. IsCall s.model c) (λ x. AssignedOf s.model x) (called s env e c) _ (called_good s range env f e c h)
      (λ call k. (
        λ to l. act_is s.model (act.Call call.receiver call.op call.args (Some to)) (Act-F.Call call.receiver call.op call.args (Some to))
            (search (rules, the_lemmas)) (λ n. (k.0, k.1, k.2, for_some (TargetIsOf s.model) (Some to) l)),
        type_of_result s.model range c.op h.1,
      ))

  value_by_good : (e : Written) (o : Option Callee) → IfSome o (IsCallee s.model) → Comes Anywhere (λ x. AssignedOf s.model x) (value_by s env e o)
  value_by_good e None h = value_good e
  value_by_good e (Some c) h =
      either (Comes Anywhere (λ x. AssignedOf s.model x)) (is_statement s.model c.op) (call_result s env e c) (value_of s env e) (call_result_good e c h)
      (value_good e)

  value_of_expression_good : (e : Written) → Comes Anywhere (λ x. AssignedOf s.model x) (value_of_expression s env e)
  unfolding value_of_expression
  value_of_expression_good e =
      binds Anywhere (λ o. IfSome o (IsCallee s.model)) (λ x. AssignedOf s.model x) (callee_in s env e) (λ c. value_by s env e c) (callee_good s range env f e)
      (λ o h. value_by_good e o h)

  form_by_good : (t : ParseTree) (o : Option NewNode) → Comes Anywhere (λ x. AssignedOf s.model x) (form_by s env t o)
  form_by_good t None = value_of_expression_good (written s.lexed t)
  form_by_good t (Some node) =
      binds Anywhere (λ x. IsNew s.model x) (λ x. AssignedOf s.model x) (new_object s env node) _ (new_good s range env f node)
      (λ made h. (
        λ to k. act_is s.model (act.New made.class made.name (Some to)) (Act-F.New made.class made.name (Some to)) (search (rules, the_lemmas))
            (λ n. (h.0, h.1, for_some (TargetIsOf s.model) (Some to) k)),
        h.0,
      ))

  right_good : (t : ParseTree) → Comes Anywhere (λ x. AssignedOf s.model x) (right_side s env t)
  unfolding right_side
  right_good t =
      form_by_good (option_map_or (λ node. node.form) (n.rhs_node t) t) (n.new_node (option_map_or (λ node. node.form) (n.rhs_node t) t))

pub assign_good : (s : Scene) → IsInRange s.model → (is_outermost : Bool) (vs : Variables) → EnvOf s.model vs → (place : Place) (t value : ParseTree) →
    Comes Anywhere (λ x. FormOf s.model vs x) (assign s is_outermost vs place t value)
unfolding assign
assign_good s range is_outermost vs f place t value =
    binds Anywhere (λ x. AimOf s.model x) (λ x. FormOf s.model vs x) (aim_of s vs.environment (written s.lexed t)) _
    (aim_good s range vs.environment f (written s.lexed t))
    (λ named h. binds Anywhere (λ x. AssignedOf s.model x) (λ x. FormOf s.model vs x) (right_side s vs.environment value)
    (λ x. assignment s is_outermost vs place named x) (right_good s range vs.environment f value)
    (λ x k. binds Anywhere (λ x. StorageOf s.model x) (λ x. FormOf s.model vs x) (storage_of is_outermost place vs named)
    (λ to. store_if s vs place to x.source x.of_type x.place) (h is_outermost place vs f)
    (λ to l. store_good s vs place to x.source x.of_type x.place f l k.0 k.1)))
