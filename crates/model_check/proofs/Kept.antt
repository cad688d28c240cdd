-- What is checked of a model is a program's: where each thing that is added keeps it, the walk does.
use Rattle.std.proofs.Common.{◌≡◌, ℕ, zero, suc, ◌+◌, ◌<◌, ◌≤◌, Bool, true, false, not, List, [], ◌∷◌, length, slice_get, All, Option, Some, None, IfSome, refl, sym, subst, arith, length-append, ⊎_elim, ◌∙◌, ◌^◌}
use Rattle.std.specs.Prelude.{IfOk, Ok, Err}
use Rattle.std.specs.Option.{ForSome, option_and_then}
use Rattle.std.proofs.lemmas.List.{length-map, length-set}
use Rattle.std.proofs.lemmas.List.Elements.{All-map, All-nil, All-push, All-set}
use Rattle.std.proofs.lemmas.Option.{slice_get_cases}
use Rattle.use_text.specs.declared.token.TokenKind.TheVariants as k
use Rattle.grammar_core.specs.Trees.{ParseTree}
use Rattle.use_nodes.specs.declared.models.AttributeNode.{AttributeNode}
use Rattle.use_nodes.specs.declared.models.ClassNode.{ClassNode}
use Rattle.use_nodes.specs.declared.models.ContextNode.{ContextNode}
use Rattle.use_nodes.specs.declared.models.HeadNode.{HeadNode}
use Rattle.use_nodes.specs.declared.models.OperNode.{OperNode}
use Rattle.use_nodes.specs.Nodes.{is_token}
use Rattle.use_nodes.specs.ModelNodes.{attribute_node, class_node, cond_node, constraints_node, context_node, file_node, head_node, inv_node, oper_node}
use Rattle.use_decls.specs.Conds.{context_class}
use Rattle.use_decls.specs.Names.{text_at}
use Rattle.ocl_values.specs.declared.value.Value.TheVariants as V
use Rattle.class_model.specs.declared.object_model.ObjectModel.{ObjectModel}
use Rattle.class_model.specs.declared.object_model.Parameter.{Parameter}
use Rattle.class_model.specs.declared.types.OclType.{OclType}
use Rattle.class_model.specs.declared.types.OclType.TheVariants as T
use Rattle.class_model.specs.Conformance.{conforms}
use Rattle.class_model.specs.Features.{class_named, derived}
use Rattle.class_model.specs.InRange.{IsInRange, IsTypeOf}
use Rattle.class_model.specs.Parts.{der_type, op_class, op_params, op_result}
use Rattle.ocl_core.specs.declared.expression.Expr.{Expr}
use Rattle.ocl_core.specs.declared.expression.Expr.TheVariants as E
use Rattle.ocl_core.specs.declared.program.Contract.{Contract}
use Rattle.ocl_core.specs.declared.program.Invariant.{Invariant}
use Rattle.ocl_core.specs.declared.program.OpBody.{OpBody}
use Rattle.ocl_core.specs.declared.program.OpBody.TheVariants as body
use Rattle.ocl_core.specs.declared.statement.Stmt.{Stmt}
use Rattle.ocl_core.specs.Programs.{query_of}
use Rattle.ocl_core.specs.Trees.{ReadsNow}
use Rattle.ocl_program.specs.Bodies.{IsBodyOf, soil_of}
use Rattle.ocl_program.specs.Programs.{IsChecked, IsCheckedNow, IsProgram, MayRead}
use Rattle.ocl_rules.specs.Typings.{Typing, breaks_t}
use Rattle.ocl_rules.specs.declared.typed.Typed.{Typed}
use Rattle.ocl_scope.specs.Ranges.{IsEnvironmentOf, IsTypedAmong}
use Rattle.ocl_scope.specs.declared.environment.Environment.{Environment}
use Rattle.ocl_scope.proofs.Absent.{operation_is_there}
use Rattle.ocl_scope.proofs.Found.{at_number, either}
use Rattle.ocl_scope.proofs.Kept.{none_kept, variable_kept}
use Rattle.ocl_scope.proofs.Layers.{literal_among}
use Rattle.ocl_shapes.specs.Combining.{◌>>=◌, pure}
use Rattle.ocl_syntax.specs.Expressions.{written}
use Rattle.ocl_syntax.specs.Places.{first_place}
use Rattle.ocl_syntax.specs.declared.tree.Written.{Written}
use Rattle.ocl_types.specs.Walk.{type_expr}
use Rattle.ocl_laws.proofs.Comes.{Comes, binds, widened}
use Rattle.ocl_laws.proofs.InRange.{Anywhere, typed_ranges}
use Rattle.ocl_laws.proofs.Now.{literal_now, typed_now}
use Rattle.soil_laws.proofs.Nesting.{checked_good}
use Rattle.soil_scope.specs.Expressions.{expression_at}
use Rattle.soil_scope.specs.Scenes.{Scene}
use Rattle.soil_scope.specs.Variables.{no_values, with_fixed}
use Rattle.soil_scope.specs.declared.expressions.Placed.{Placed}
use Rattle.soil_scope.specs.declared.variables.Variables.{Variables}
use Rattle.soil_types.specs.Walk.{body_statements}
use Rattle.model_check.specs.declared.checked.Checked.{Checked}
use Rattle.model_check.specs.Adding.{each_added, next_name, nothing_checked, where_there, with_body, with_contract, with_derived, with_invariant}
use Rattle.model_check.specs.Rules.{condition_rule, result_rule, value_rule}
use Rattle.model_check.specs.Seen.{also_named, param_names, seen_by_contract, seen_by_invariant, seen_by_query, seen_by_statements, seen_in_class, with_params, with_result}
use Rattle.model_check.specs.Walk.{Reading, attribute, attribute_value, body_of, class, class_of, constraints, context, context_of, contract, contract_of, contracts}
use Rattle.model_check.specs.Walk.{declaration, declared, derived_value, file, head_contracts, invariant, invariant_of, invariants, oper, operation_at, operation_of, query, statements, variable_of}
use Rattle.model_check.specs.Programs.{parts_of}
use Rattle.model_check.proofs.Named.{class_there}

-- ---- what is bound is of the model

abbrev EnvOf : ObjectModel → Variables → Type 0
EnvOf m vs = IsEnvironmentOf m vs.environment

self_kept : (m : ObjectModel) (class : ℕ) → class < length m.classes → EnvOf m (seen_in_class class)
self_kept m class h = variable_kept m no_values.environment _ (T.Class class) true (none_kept m) h

name_kept : (m : ObjectModel) (class : ℕ) (name : Option (List ℕ)) → class < length m.classes → EnvOf m (also_named (seen_in_class class) class name)
name_kept m class None h = self_kept m class h
name_kept m class (Some name) h = record {
  types = All-push (λ v. IsTypeOf m v.of_type) (seen_in_class class).environment.variables _ (self_kept m class h).types h;
  numbers = All-push (λ v. v.number < 0 + 1) (seen_in_class class).environment.variables _ (self_kept m class h).numbers (omega arith);
}

params_kept : (m : ObjectModel) (vs : Variables) (names : List (List ℕ)) (ps : List Parameter) → EnvOf m vs → All (λ p. IsTypeOf m p.of_type) ps →
    EnvOf m (with_params vs names ps)
params_kept m vs [] ps h k = h
params_kept m vs (n ∷ ns) [] h k = h
params_kept m vs (n ∷ ns) (p ∷ ps) h k =
    params_kept m (with_fixed vs n p.of_type) ns ps (variable_kept m vs.environment (Some n) p.of_type false h (k 0 p (omega arith))) (λ i d l. k (suc i) d (omega (arith, l)))

result_kept : (m : ObjectModel) (vs : Variables) (o : Option OclType) → EnvOf m vs → IfSome o (IsTypeOf m) → EnvOf m (with_result vs o)
result_kept m vs None h k = h
result_kept m vs (Some t) h k = variable_kept m vs.environment _ t false h k

module _ (m : ObjectModel) (range : IsInRange m) (op : ℕ) (there : op < length m.ops) where
  class_of_op : op_class m op < length m.classes
  class_of_op = at_number (λ c. c < length m.classes) (λ d. d.class) m.ops op 0 there range.op_classes

  types_of_params : All (λ p. IsTypeOf m p.of_type) (op_params m op)
  types_of_params = at_number (All (λ p. IsTypeOf m p.of_type)) (λ d. d.params) m.ops op [] there range.param_types

  some_of : {A : Type 0} (P : A → Type 0) (o : Option A) → ForSome o P → IfSome o P
  some_of P None h = tt
  some_of P (Some x) h = h x refl

  type_of_result : IfSome (op_result m op) (IsTypeOf m)
  type_of_result =
      ⊎_elim
      (λ s. subst (λ o. IfSome (option_and_then (λ d. d.result_type) o) (IsTypeOf m)) (sym s.2)
      (some_of (IsTypeOf m) (s.0).result_type (subst (λ x. ForSome x.result_type (IsTypeOf m)) s.3 (range.result_types op s.0 there))))
      (λ s. let past = s.0 in absurd (omega (arith, past, there)))
      ((slice_get_cases m.ops op).1)

  query_sees : (names : List (List ℕ)) → EnvOf m (seen_by_query m op names)
  query_sees names = params_kept m (seen_in_class (op_class m op)) names (op_params m op) (self_kept m (op_class m op) class_of_op) types_of_params

  statements_see : (names : List (List ℕ)) → EnvOf m (seen_by_statements m op names)
  statements_see names = result_kept m (seen_by_query m op names) (op_result m op) (query_sees names) type_of_result

  contract_sees : (names : List (List ℕ)) (is_post : Bool) → EnvOf m (seen_by_contract m op names is_post)
  contract_sees names true = statements_see names
  contract_sees names false = query_sees names

-- ---- what is typed may be evaluated

both : {A : Type 0} (P Q : A → Type 0) (t : Typing A) → IfOk t P → IfOk t Q → Comes Anywhere (λ x. P x × Q x) t
both P Q (Ok a) h k = (h, k)
both P Q (Err r) h k = tt

checked_of : (m : ObjectModel) (n : ℕ) (x : Typed) → IsTypedAmong m n x → IsChecked m x.expr
checked_of m n x h = record { sound = h.expr.literals; of_model = h.expr.numbers }

came : {A : Type 0} (P Q : A → Type 0) (t : Typing A) → ((a : A) → P a → Q a) → IfOk t P → Comes Anywhere Q t
came P Q (Ok a) w h = w a h
came P Q (Err r) w h = tt

typed_kept : (m : ObjectModel) → IsInRange m → (is_post : Bool) (env : Environment) → IsEnvironmentOf m env → (e : Written) →
    Comes Anywhere (λ x. MayRead is_post m x.expr) (type_expr m is_post env e)
typed_kept m range true env f e =
    came (IsTypedAmong m env.size) (λ x. IsChecked m x.expr) (type_expr m true env e) (λ x h. checked_of m env.size x h) (typed_ranges m range true env f e)
typed_kept m range false env f e =
    widened Anywhere (λ x. IsTypedAmong m env.size x × ReadsNow x.expr) (λ x. IsCheckedNow m x.expr) (type_expr m false env e)
    (λ x h. record { checked = checked_of m env.size x h.0; now = h.1 })
    (both (IsTypedAmong m env.size) (λ x. ReadsNow x.expr) (type_expr m false env e) (typed_ranges m range false env f e) (typed_now m env e))

expression_kept : (s : Scene) → IsInRange s.model → (is_post : Bool) (env : Environment) → IsEnvironmentOf s.model env → (t : ParseTree) →
    Comes Anywhere (λ x. MayRead is_post s.model x.typed.expr) (expression_at s is_post env t)
unfolding expression_at
expression_kept s range is_post env f t =
    binds Anywhere (λ x. MayRead is_post s.model x.expr) (λ x. MayRead is_post s.model x.typed.expr) (type_expr s.model is_post env (written s.lexed t))
    (λ x. pure (record { typed = x; place = first_place (written s.lexed t) }))
    (typed_kept s.model range is_post env f (written s.lexed t)) (λ x k. k)

module _ (m : ObjectModel) (P : Expr → Type 0) where
  condition_kept : (x : Placed) → P x.typed.expr → Comes Anywhere P (condition_rule m x)
  condition_kept x h = either (Comes Anywhere P) (conforms m x.typed.of_type T.Bool) (pure x.typed.expr) (breaks_t 4 x.place) h tt

  value_kept : (t : OclType) (x : Placed) → P x.typed.expr → Comes Anywhere P (value_rule m t x)
  value_kept t x h = either (Comes Anywhere P) (conforms m x.typed.of_type t) (pure x.typed.expr) (breaks_t 5 x.place) h tt

  result_rule_kept : (o : Option OclType) (x : Placed) → P x.typed.expr → Comes Anywhere P (result_rule m o x)
  result_rule_kept None x h = tt
  result_rule_kept (Some t) x h = value_kept t x h

-- ---- what is checked

pub record IsGood (m : ObjectModel) (names : List (List ℕ)) (found : Checked) : Type 0 where
  pub invariants : All (λ i. (i.class < length m.classes) × IsCheckedNow m i.expr) found.invariants
  pub contracts : All (λ c. (c.op < length m.ops) × MayRead c.is_post m c.expr) found.contracts
  pub bodies : All (λ b. ForSome (query_of b) (IsCheckedNow m)) found.bodies
  pub soil : All (λ b. ForSome (soil_of b) (IsBodyOf m)) found.bodies
  pub derived : All (IsCheckedNow m) found.derived
  pub few : length found.invariants + length found.contracts ≤ length names
  pub body_count : length found.bodies ≡ length m.ops
  pub derived_count : length found.derived ≡ length m.derived

invalid_now : (m : ObjectModel) → IsCheckedNow m (E.Literal V.Invalid)
invalid_now m =
    let among = literal_among m 0 V.Invalid tt (record { tidy = tt; levels = omega arith }) in
    record { checked = record { sound = among.literals; of_model = among.numbers }; now = literal_now V.Invalid }

no_query : (m : ObjectModel) (b : OpBody) → query_of b ≡ None → ForSome (query_of b) (IsCheckedNow m)
no_query m b e = λ x is. absurd (cc)

a_query : (m : ObjectModel) (e : Expr) → IsCheckedNow m e → ForSome (query_of (body.Query e)) (IsCheckedNow m)
a_query m e h = λ x is. let same : e ≡ x = cc in subst (IsCheckedNow m) same h

no_statements : (m : ObjectModel) (b : OpBody) → soil_of b ≡ None → ForSome (soil_of b) (IsBodyOf m)
no_statements m b e = λ x is. absurd (cc)

some_statements : (m : ObjectModel) (done : List Stmt) → IsBodyOf m done → ForSome (soil_of (body.Soil done)) (IsBodyOf m)
some_statements m done h = λ x is. let same : done ≡ x = cc in subst (IsBodyOf m) same h

within : {A : Type 0} (xs : List A) (i : ℕ) (x : A) → slice_get xs i ≡ Some x → i < length xs
within [] i x e = absurd (cc)
within (y ∷ ys) zero x e = omega arith
within (y ∷ ys) (suc i) x e = let h = within ys i x e in omega (arith, h)

pub nothing_good : (m : ObjectModel) (names : List (List ℕ)) → IsGood m names (nothing_checked m)
nothing_good m names = record {
  invariants = All-nil _;
  contracts = All-nil _;
  bodies = All-map (λ b. ForSome (query_of b) (IsCheckedNow m)) (λ op. body.None) m.ops (λ i d h. no_query m body.None refl);
  soil = All-map (λ b. ForSome (soil_of b) (IsBodyOf m)) (λ op. body.None) m.ops (λ i d h. no_statements m body.None refl);
  derived = All-map (IsCheckedNow m) (λ d. E.Literal V.Invalid) m.derived (λ i d h. invalid_now m);
  few = omega arith;
  body_count = length-map m.ops (λ op. body.None);
  derived_count = length-map m.derived (λ d. E.Literal V.Invalid);
}

module _ (m : ObjectModel) (names : List (List ℕ)) (found : Checked) (g : IsGood m names found) where
  with_body_good : (op : ℕ) (b : OpBody) → ForSome (query_of b) (IsCheckedNow m) → ForSome (soil_of b) (IsBodyOf m) →
      IsGood m names (with_body found op b)
  with_body_good op b h k = record {
    invariants = g.invariants;
    contracts = g.contracts;
    bodies = All-set (λ b. ForSome (query_of b) (IsCheckedNow m)) found.bodies op b h g.bodies;
    soil = All-set (λ b. ForSome (soil_of b) (IsBodyOf m)) found.bodies op b k g.soil;
    derived = g.derived;
    few = g.few;
    body_count = length-set found.bodies op b ∙ g.body_count;
    derived_count = g.derived_count;
  }

  with_derived_good : (number : ℕ) (e : Expr) → IsCheckedNow m e → IsGood m names (with_derived found number e)
  with_derived_good number e h = record {
    invariants = g.invariants;
    contracts = g.contracts;
    bodies = g.bodies;
    soil = g.soil;
    derived = All-set (IsCheckedNow m) found.derived number e h g.derived;
    few = g.few;
    body_count = g.body_count;
    derived_count = length-set found.derived number e ∙ g.derived_count;
  }

  with_invariant_good : (i : Invariant) (name : List ℕ) → next_name names found ≡ Some name → (i.class < length m.classes) × IsCheckedNow m i.expr →
      IsGood m names (with_invariant found i)
  with_invariant_good i name e h = record {
    invariants = All-push (λ i. (i.class < length m.classes) × IsCheckedNow m i.expr) found.invariants i g.invariants h;
    contracts = g.contracts;
    bodies = g.bodies;
    soil = g.soil;
    derived = g.derived;
    few =
        let room = within names (length found.invariants + length found.contracts) name e in
        let l = length-append found.invariants (i ∷ []) in
        omega (arith, room, l);
    body_count = g.body_count;
    derived_count = g.derived_count;
  }

  with_contract_good : (c : Contract) (name : List ℕ) → next_name names found ≡ Some name → (c.op < length m.ops) × MayRead c.is_post m c.expr →
      IsGood m names (with_contract found c)
  with_contract_good c name e h = record {
    invariants = g.invariants;
    contracts = All-push (λ c. (c.op < length m.ops) × MayRead c.is_post m c.expr) found.contracts c g.contracts h;
    bodies = g.bodies;
    soil = g.soil;
    derived = g.derived;
    few =
        let room = within names (length found.invariants + length found.contracts) name e in
        let l = length-append found.contracts (c ∷ []) in
        omega (arith, room, l);
    body_count = g.body_count;
    derived_count = g.derived_count;
  }

-- ---- the walk

module _ (r : Reading) (range : IsInRange r.scene.model) where
  abbrev m : ObjectModel
  m = r.scene.model

  abbrev Good : Checked → Type 0
  Good found = IsGood r.scene.model r.names found

  abbrev Kept : Typing Checked → Type 0
  Kept t = Comes Anywhere (λ f. IsGood r.scene.model r.names f) t

  where_kept : {A : Type 0} (o : Option A) (found : Checked) (add : A → Typing Checked) → Good found → ((a : A) → o ≡ Some a → Kept (add a)) →
      Kept (where_there o found add)
  where_kept None found add g h = g
  where_kept (Some a) found add g h = h a refl

  each_kept : {A : Type 0} (add : Checked → A → Typing Checked) → ((found : Checked) (a : A) → Good found → Kept (add found a)) → (found : Checked)
      (xs : List A) → Good found → Kept (each_added add found xs)
  each_kept add h found [] g = g
  each_kept add h found (x ∷ xs) g = binds Anywhere Good Good (add found x) (λ n. each_added add n xs) (h found x g) (λ n k. each_kept add h n xs k)

  -- an expression, a rule, and what they add
  added : (is_post : Bool) (env : Environment) → IsEnvironmentOf r.scene.model env → (t : ParseTree) (rule : Placed → Typing Expr)
      (add : Expr → Checked) → ((x : Placed) → MayRead is_post r.scene.model x.typed.expr → Comes Anywhere (λ e. MayRead is_post r.scene.model e) (rule x)) →
      ((e : Expr) → MayRead is_post r.scene.model e → Good (add e)) →
      Kept (expression_at r.scene is_post env t >>= (λ x. rule x >>= (λ e. pure (add e))))
  added is_post env f t rule add h k =
      binds Anywhere (λ x. MayRead is_post r.scene.model x.typed.expr) Good (expression_at r.scene is_post env t) (λ x. rule x >>= (λ e. pure (add e)))
      (expression_kept r.scene range is_post env f t)
      (λ x p. binds Anywhere (λ e. MayRead is_post r.scene.model e) Good (rule x) (λ e. pure (add e)) (h x p) k)

  derived_value_kept : (c : ℕ) (found : Checked) (t : ParseTree) (number : ℕ) → c < length r.scene.model.classes → Good found →
      Kept (derived_value r c found t number)
  unfolding derived_value
  derived_value_kept c found t number h g =
      added false (seen_in_class c).environment (self_kept r.scene.model c h) t (λ x. value_rule r.scene.model (der_type r.scene.model number) x)
      (λ e. with_derived found number e)
      (λ x p. value_kept r.scene.model (IsCheckedNow r.scene.model) (der_type r.scene.model number) x p)
      (λ e p. with_derived_good r.scene.model r.names found g number e p)

  attribute_value_kept : (c : ℕ) → c < length r.scene.model.classes → (found : Checked) (node : AttributeNode) (t : ParseTree) → Good found →
      Kept (attribute_value r c found node t)
  unfolding attribute_value
  attribute_value_kept c h found node t g =
      where_kept (derived r.scene.model c (text_at r.scene.lexed node.name)) found (derived_value r c found t) g
      (λ number _. derived_value_kept c found t number h g)

  attribute_kept : (c : ℕ) → c < length r.scene.model.classes → (found : Checked) (t : ParseTree) → Good found → Kept (attribute r c found t)
  unfolding attribute
  attribute_kept c h found t g =
      where_kept (attribute_node t) found (λ node. where_there node.value found (attribute_value r c found node)) g
      (λ node _. where_kept node.value found (attribute_value r c found node) g (λ t _. attribute_value_kept c h found node t g))

  query_kept : (op : ℕ) → op < length r.scene.model.ops → (names : List (List ℕ)) (found : Checked) (t : ParseTree) → Good found →
      Kept (query r op names found t)
  unfolding query
  query_kept op there names found t g =
      added false (seen_by_query r.scene.model op names).environment (query_sees r.scene.model range op there names) t
      (λ x. result_rule r.scene.model (op_result r.scene.model op) x) (λ e. with_body found op (body.Query e))
      (λ x p. result_rule_kept r.scene.model (IsCheckedNow r.scene.model) (op_result r.scene.model op) x p)
      (λ e p. with_body_good r.scene.model r.names found g op (body.Query e) (a_query r.scene.model e p)
      (no_statements r.scene.model (body.Query e) refl))

  statements_kept : (op : ℕ) → op < length r.scene.model.ops → (names : List (List ℕ)) (found : Checked) (t : ParseTree) → Good found →
      Kept (statements r op names found t)
  unfolding statements
  statements_kept op there names found t g =
      binds Anywhere (λ done. IsBodyOf r.scene.model done) Good (body_statements r.scene (seen_by_statements r.scene.model op names) t)
      (λ done. pure (with_body found op (body.Soil done)))
      (checked_good r.scene range false (seen_by_statements r.scene.model op names) (statements_see r.scene.model range op there names) t)
      (λ done h. with_body_good r.scene.model r.names found g op (body.Soil done) (no_query r.scene.model (body.Soil done) refl)
      (some_statements r.scene.model done h))

  body_kept : (op : ℕ) → op < length r.scene.model.ops → (names : List (List ℕ)) (found : Checked) (node : OperNode) → Good found →
      Kept (body_of r op names found node)
  unfolding body_of
  body_kept op there names found node g =
      binds Anywhere Good Good (where_there node.query found (query r op names found)) (λ next. where_there node.statements next (statements r op names next))
      (where_kept node.query found (query r op names found) g (λ t _. query_kept op there names found t g))
      (λ next k. where_kept node.statements next (statements r op names next) k (λ t _. statements_kept op there names next t k))

  contract_of_kept : (op : ℕ) → op < length r.scene.model.ops → (names : List (List ℕ)) (found : Checked) (is_post : Bool) (t : ParseTree) (name : List ℕ) →
      next_name r.names found ≡ Some name → Good found → Kept (contract_of r op names found is_post t name)
  unfolding contract_of
  contract_of_kept op there names found is_post t name next g =
      added is_post (seen_by_contract r.scene.model op names is_post).environment (contract_sees r.scene.model range op there names is_post) t
      (λ x. condition_rule r.scene.model x) (λ e. with_contract found (record { op = op; name = name; is_post = is_post; expr = e }))
      (λ x p. condition_kept r.scene.model (λ e. MayRead is_post r.scene.model e) x p)
      (λ e p. with_contract_good r.scene.model r.names found g (record { op = op; name = name; is_post = is_post; expr = e }) name next (there, p))

  contract_kept : (op : ℕ) → op < length r.scene.model.ops → (names : List (List ℕ)) (found : Checked) (t : ParseTree) → Good found →
      Kept (contract r op names found t)
  unfolding contract
  contract_kept op there names found t g =
      where_kept (cond_node t) found
      (λ node. where_there (next_name r.names found) found (contract_of r op names found (not (is_token k.Pre node.kind)) node.condition)) g
      (λ node _. where_kept (next_name r.names found) found (contract_of r op names found (not (is_token k.Pre node.kind)) node.condition) g
      (λ name e. contract_of_kept op there names found (not (is_token k.Pre node.kind)) node.condition name e g))

  contracts_kept : (op : ℕ) → op < length r.scene.model.ops → (names : List (List ℕ)) (found : Checked) (ts : List ParseTree) → Good found →
      Kept (contracts r op names found ts)
  contracts_kept op there names found ts g = each_kept (contract r op names) (λ f t k. contract_kept op there names f t k) found ts g

  -- the operation of a name is one of the model's
  found_there : {A : Type 0} (P : A → Type 0) (o : Option A) (a : A) → IfSome o P → o ≡ Some a → P a
  found_there P None a h e = absurd (cc)
  found_there P (Some x) a h e = let same : x ≡ a = cc in subst P same h

  declared_there : (c : ℕ) (head : HeadNode) (op : ℕ) → declared r c head ≡ Some op → op < length r.scene.model.ops
  declared_there c head op e =
      found_there (λ o. o < length r.scene.model.ops) (declared r c head) op
      (operation_is_there r.scene.model c (text_at r.scene.lexed head.name) (declared r c head) refl) e

  operation_of_kept : (found : Checked) (node : OperNode) (head : HeadNode) (op : ℕ) → op < length r.scene.model.ops → Good found →
      Kept (operation_of r found node head op)
  unfolding operation_of
  operation_of_kept found node head op there g =
      binds Anywhere Good Good (body_of r op (param_names r.scene.lexed head) found node)
      (λ next. contracts r op (param_names r.scene.lexed head) next node.conditions)
      (body_kept op there (param_names r.scene.lexed head) found node g)
      (λ next k. contracts_kept op there (param_names r.scene.lexed head) next node.conditions k)

  operation_at_kept : (c : ℕ) (found : Checked) (node : OperNode) (head : HeadNode) → Good found → Kept (operation_at r c found node head)
  unfolding operation_at
  operation_at_kept c found node head g =
      where_kept (declared r c head) found (operation_of r found node head) g
      (λ op e. operation_of_kept found node head op (declared_there c head op e) g)

  oper_kept : (c : ℕ) (found : Checked) (t : ParseTree) → Good found → Kept (oper r c found t)
  unfolding oper
  oper_kept c found t g =
      where_kept (oper_node t) found (λ node. where_there (head_node node.head) found (operation_at r c found node)) g
      (λ node _. where_kept (head_node node.head) found (operation_at r c found node) g (λ head _. operation_at_kept c found node head g))

  invariant_of_kept : (c : ℕ) → c < length r.scene.model.classes → (variable : Option (List ℕ)) (found : Checked) (t : ParseTree) (name : List ℕ) →
      next_name r.names found ≡ Some name → Good found → Kept (invariant_of r c variable found t name)
  unfolding invariant_of
  invariant_of_kept c h variable found t name next g =
      added false (seen_by_invariant c variable).environment (name_kept r.scene.model c variable h) t (λ x. condition_rule r.scene.model x)
      (λ e. with_invariant found (record { class = c; name = name; expr = e }))
      (λ x p. condition_kept r.scene.model (IsCheckedNow r.scene.model) x p)
      (λ e p. with_invariant_good r.scene.model r.names found g (record { class = c; name = name; expr = e }) name next (h, p))

  invariant_kept : (c : ℕ) → c < length r.scene.model.classes → (variable : Option (List ℕ)) (found : Checked) (t : ParseTree) → Good found →
      Kept (invariant r c variable found t)
  unfolding invariant
  invariant_kept c h variable found t g =
      where_kept (inv_node t) found (λ node. where_there (next_name r.names found) found (invariant_of r c variable found node.condition)) g
      (λ node _. where_kept (next_name r.names found) found (invariant_of r c variable found node.condition) g
      (λ name e. invariant_of_kept c h variable found node.condition name e g))

  invariants_kept : (c : ℕ) → c < length r.scene.model.classes → (variable : Option (List ℕ)) (found : Checked) (ts : List ParseTree) → Good found →
      Kept (invariants r c variable found ts)
  invariants_kept c h variable found ts g = each_kept (invariant r c variable) (λ f t k. invariant_kept c h variable f t k) found ts g

  named_there : (name : List ℕ) (c : ℕ) → class_named r.scene.model name ≡ Some c → c < length r.scene.model.classes
  named_there name c e = found_there (λ c. c < length r.scene.model.classes) (class_named r.scene.model name) c (class_there r.scene.model name) e

  class_of_kept : (found : Checked) (node : ClassNode) (c : ℕ) → c < length r.scene.model.classes → Good found → Kept (class_of r found node c)
  unfolding class_of
  class_of_kept found node c h g =
      binds Anywhere Good Good (each_added (attribute r c) found node.attributes)
      (λ f. each_added (oper r c) f node.operations >>= (λ h. invariants r c None h node.invariants))
      (each_kept (attribute r c) (λ f t k. attribute_kept c h f t k) found node.attributes g)
      (λ f k. binds Anywhere Good Good (each_added (oper r c) f node.operations) (λ h. invariants r c None h node.invariants)
      (each_kept (oper r c) (λ f t k. oper_kept c f t k) f node.operations k)
      (λ f k. invariants_kept c h None f node.invariants k))

  class_kept : (found : Checked) (t : ParseTree) → Good found → Kept (class r found t)
  unfolding class
  class_kept found t g =
      where_kept (class_node t) found
      (λ node. where_there (class_named r.scene.model (text_at r.scene.lexed node.name)) found (class_of r found node)) g
      (λ node _. where_kept (class_named r.scene.model (text_at r.scene.lexed node.name)) found (class_of r found node) g
      (λ c e. class_of_kept found node c (named_there (text_at r.scene.lexed node.name) c e) g))

  head_contracts_kept : (c : ℕ) (found : Checked) (node : ContextNode) (head : HeadNode) → Good found → Kept (head_contracts r c found node head)
  unfolding head_contracts
  head_contracts_kept c found node head g =
      where_kept (declared r c head) found (λ op. contracts r op (param_names r.scene.lexed head) found node.conditions) g
      (λ op e. contracts_kept op (declared_there c head op e) (param_names r.scene.lexed head) found node.conditions g)

  context_of_kept : (found : Checked) (node : ContextNode) (o : Option ParseTree) (c : ℕ) → c < length r.scene.model.classes → Good found →
      Kept (context_of r found node o c)
  unfolding context_of
  context_of_kept found node None c h g = invariants_kept c h (variable_of r node) found node.invariants g
  context_of_kept found node (Some t) c h g =
      where_kept (head_node t) found (head_contracts r c found node) g (λ head _. head_contracts_kept c found node head g)

  context_kept : (found : Checked) (t : ParseTree) → Good found → Kept (context r found t)
  unfolding context
  context_kept found t g =
      where_kept (context_node t) found
      (λ node. where_there (class_named r.scene.model (text_at r.scene.lexed (context_class node))) found (context_of r found node node.head)) g
      (λ node _. where_kept (class_named r.scene.model (text_at r.scene.lexed (context_class node))) found (context_of r found node node.head) g
      (λ c e. context_of_kept found node node.head c (named_there (text_at r.scene.lexed (context_class node)) c e) g))

  constraints_kept : (found : Checked) (t : ParseTree) → Good found → Kept (constraints r found t)
  unfolding constraints
  constraints_kept found t g =
      where_kept (constraints_node t) found (λ node. each_added (context r) found node.contexts) g
      (λ node _. each_kept (context r) (λ f t k. context_kept f t k) found node.contexts g)

  declaration_kept : (found : Checked) (t : ParseTree) → Good found → Kept (declaration r found t)
  unfolding declaration
  declaration_kept found t g =
      binds Anywhere Good Good (class r found t) (λ next. constraints r next t) (class_kept found t g) (λ next k. constraints_kept next t k)

  pub file_kept : (t : ParseTree) → Kept (file r t)
  unfolding file
  file_kept t =
      where_kept (file_node t) (nothing_checked r.scene.model) (λ node. each_added (declaration r) (nothing_checked r.scene.model) node.declarations)
      (nothing_good r.scene.model r.names)
      (λ node _. each_kept (declaration r) (λ f t k. declaration_kept f t k) (nothing_checked r.scene.model) node.declarations
      (nothing_good r.scene.model r.names))

-- so it is a program's, where there are few enough contracts
pub is_program : (r : Reading) → IsInRange r.scene.model → (t : ParseTree) (found : Checked) → file r t ≡ Ok found → length r.names < 2 ^ 32 →
    IsProgram (parts_of r.scene.model found)
is_program r range t found e few =
    let g : IsGood r.scene.model r.names found = subst (Comes Anywhere (λ f. IsGood r.scene.model r.names f)) e (file_kept r range t) in
    record {
      invariants = g.invariants;
      contracts = g.contracts;
      bodies = g.bodies;
      soil = g.soil;
      derived = g.derived;
      contract_count = let k = g.few in omega (arith, k, few);
      body_count = g.body_count;
      derived_count = g.derived_count;
    }
