-- Statements that are checked are of the model, and lead to variables that are.
use Rattle.std.proofs.Common.{ℕ, zero, suc, ◌<◌, Bool, false, List, [], ◌∷◌, ◌++◌, fold, length, All, Option, Some, None, rules}
use Rattle.std.specs.Prelude.{IfOk}
use Rattle.std.proofs.lemmas.List.Elements.{All-nil, All-push, All-weaker}
use Rattle.use_text.specs.declared.place.Place.{Place}
use Rattle.grammar_core.specs.Trees.{ParseTree}
use Rattle.use_nodes.specs.StatementNodes as n
use Rattle.use_nodes.specs.declared.statements.BranchNode.{BranchNode}
use Rattle.use_nodes.specs.declared.statements.CreateNode.{CreateNode}
use Rattle.use_nodes.specs.declared.statements.DeclareNode.{DeclareNode}
use Rattle.use_nodes.specs.declared.statements.ForNode.{ForNode}
use Rattle.use_nodes.specs.declared.statements.NewNode.{NewNode}
use Rattle.use_nodes.specs.declared.statements.WhileNode.{WhileNode}
use Rattle.use_decls.specs.Names.{name_at, text_at}
use Rattle.use_decls.specs.Types.{type_decl}
use Rattle.class_model.specs.declared.object_model.ObjectModel.{ObjectModel}
use Rattle.class_model.specs.declared.types.OclType.{OclType}
use Rattle.class_model.specs.declared.types.OclType.TheVariants as T
use Rattle.class_model.specs.InRange.{IsInRange, IsTypeOf}
use Rattle.ocl_core.specs.declared.statement.Act.{Act, the_lemmas}
use Rattle.ocl_core.specs.declared.statement.Act.TheOpen.{Act-F}
use Rattle.ocl_core.specs.declared.statement.Act.TheVariants as act
use Rattle.ocl_core.specs.declared.statement.Stmt.{Stmt}
use Rattle.ocl_program.specs.Bodies.{IsBodyOf, IsStatementOf, IsStatementTo, TargetIsOf}
use Rattle.ocl_program.specs.Programs.{IsCheckedNow}
use Rattle.ocl_rules.specs.Typings.{Typing, breaks_t}
use Rattle.ocl_scope.specs.Names.{declared_type}
use Rattle.ocl_scope.proofs.Found.{either}
use Rattle.ocl_scope.proofs.Told.{AtName, declared_gives}
use Rattle.ocl_syntax.specs.Expressions.{written}
use Rattle.ocl_laws.proofs.Comes.{Comes, binds, widened}
use Rattle.ocl_laws.proofs.InRange.{Anywhere, if_typed}
use Rattle.soil_scope.specs.Calls.{said}
use Rattle.soil_scope.specs.Expressions.{expression_at}
use Rattle.soil_scope.specs.Scenes.{Scene, each_after, place_of_tree}
use Rattle.soil_scope.specs.Shells.{slot_of}
use Rattle.soil_scope.specs.Variables.{role_of, with_fixed, with_local}
use Rattle.soil_scope.specs.declared.variables.Role.{Role}
use Rattle.soil_scope.specs.declared.variables.Role.TheVariants.{Fixed, Free, Local, Object, Shell}
use Rattle.soil_scope.specs.declared.variables.Variables.{Variables}
use Rattle.soil_types.specs.Assignments.{assign}
use Rattle.soil_types.specs.ObjectForms.{class_wanted, create, delete, destroy, insert, known, known_as, known_at, names_in, new_object}
use Rattle.soil_types.specs.Statements.{assign_or_say, assign_by, block_if, block_under, branch, condition, declare, element_of, for_each, form, form_at, form_in, has_room, leaving, make, or_else, plain_form, say, statement, while_true, with_locals}
use Rattle.soil_types.specs.Walk.{block_in, checked, max_nesting, statements, statements_of}
use Rattle.soil_laws.proofs.Bound.{EnvOf, Leads, for_some, on, stands_for, stay, taken_back, value_more}
use Rattle.soil_laws.proofs.Called.{IsGood, expression_good, from_match}
use Rattle.soil_laws.proofs.Acts.{ActOf, FormOf, IsNew, act_is, class_good, condition_good, destroy_good, delete_good, element_good, insert_good, leaving_good, new_good, said_good}
use Rattle.soil_laws.proofs.Stored.{assign_good, slot_leads}

-- ---- variables behind statements

known_role : (s : Scene) (c : ℕ) → c < length s.model.classes → (vs : Variables) (slot : ℕ) (name : List ℕ) (role : Role) → EnvOf s.model vs →
    Leads s.model vs (known_as c vs slot name role)
known_role s c below vs slot name Shell h = stay s.model vs h
known_role s c below vs slot name Free h = stands_for s.model vs slot name (T.Class c) Object h below
known_role s c below vs slot name Object h = stands_for s.model vs slot name (T.Class c) Object h below
known_role s c below vs slot name Local h = stands_for s.model vs slot name (T.Class c) Object h below
known_role s c below vs slot name Fixed h = stands_for s.model vs slot name (T.Class c) Object h below

known_leads : (s : Scene) (c : ℕ) → c < length s.model.classes → (vs : Variables) (name : List ℕ) → EnvOf s.model vs → Leads s.model vs (known s c vs name)
known_leads s c below vs name h =
    slot_leads s.model vs (slot_of s.shell name) (λ slot. known_at c vs slot name) h (λ slot. known_role s c below vs slot name (role_of vs slot) h)

all_known : (s : Scene) (c : ℕ) → c < length s.model.classes → (vs : Variables) (names : List (List ℕ)) → EnvOf s.model vs →
    Leads s.model vs (fold (known s c) vs names)
all_known s c below vs [] h = stay s.model vs h
all_known s c below vs (name ∷ names) h =
    let first = known_leads s c below vs name h in
    on s.model vs (known s c vs name) (fold (known s c) (known s c vs name) names) first (all_known s c below (known s c vs name) names first.env)

locals_lead : (m : ObjectModel) (place : Place) (t : OclType) → IsTypeOf m t → (vs : Variables) (names : List (List ℕ)) → EnvOf m vs →
    Comes Anywhere (λ after. Leads m vs after) (with_locals place t vs names)
locals_lead m place t k vs [] h = stay m vs h
locals_lead m place t k vs (name ∷ names) h =
    let first = value_more m Local vs (Some name) t false h k in
    either (Comes Anywhere (λ after. Leads m vs after)) (has_room vs) (with_locals place t (with_local vs name t) names) (breaks_t 16 place)
    (widened Anywhere (λ after. Leads m (with_local vs name t) after) (λ after. Leads m vs after) (with_locals place t (with_local vs name t) names)
    (λ after l. on m vs (with_local vs name t) after first l) (locals_lead m place t k (with_local vs name t) names first.env))
    tt

-- ---- forms

or_good : {A : Type 0} (P : Act × Variables → Type 0) (o : Option A) (f : A → Typing (Act × Variables)) (other : Typing (Act × Variables)) →
    ((a : A) → Comes Anywhere P (f a)) → Comes Anywhere P other → Comes Anywhere P (or_else o f other)
or_good P None f other h k = k
or_good P (Some a) f other h k = h a

module _ (s : Scene) (range : IsInRange s.model) (vs : Variables) (f : EnvOf s.model vs) where
  abbrev Form : Act × Variables → Type 0
  Form x = FormOf s.model vs x

  create_good : (node : CreateNode) → Comes Anywhere Form (create s vs node)
  unfolding create
  create_good node =
      binds Anywhere (λ c. c < length s.model.classes) Form (class_wanted s.model (name_at s.lexed node.class)) _ (class_good s.model (name_at s.lexed node.class))
      (λ c h. (
        act_is s.model (act.Create (names_in s.lexed node.names) c) (Act-F.Create (names_in s.lexed node.names) c) (search (rules, the_lemmas)) (λ n. h),
        all_known s c h vs (names_in s.lexed node.names) f,
      ))

  make_good : (node : NewNode) → Comes Anywhere Form (make s vs node)
  unfolding make
  make_good node =
      binds Anywhere (λ x. IsNew s.model x) Form (new_object s vs.environment node) _ (new_good s range vs.environment f node)
      (λ made h. (
        act_is s.model (act.New made.class made.name None) (Act-F.New made.class made.name None) (search (rules, the_lemmas))
            (λ n. (h.0, h.1, for_some (TargetIsOf s.model) None tt)),
        stay s.model vs f,
      ))

  declare_good : (place : Place) (node : DeclareNode) → Comes Anywhere Form (declare s vs place node)
  unfolding declare
  declare_good place node =
      binds Anywhere (IsTypeOf s.model) Form (declared_type s.model vs.environment (type_decl s.lexed node.of_type)) _
      (from_match (IsTypeOf s.model) (AtName (type_decl s.lexed node.of_type).name)
      (declared_type s.model vs.environment (type_decl s.lexed node.of_type)) (declared_gives s.model vs.environment (type_decl s.lexed node.of_type)))
      (λ t h. binds Anywhere (λ after. Leads s.model vs after) Form (with_locals place t vs (names_in s.lexed node.names)) _
      (locals_lead s.model place t h vs (names_in s.lexed node.names) f)
      (λ after k. (
        act_is s.model (act.Declare (length (names_in s.lexed node.names))) (Act-F.Declare (length (names_in s.lexed node.names)))
            (search (rules, the_lemmas)) (λ n. tt),
        k,
      )))

  say_good : (place : Place) (t : ParseTree) → Comes Anywhere Form (say s vs place t)
  unfolding say
  say_good place t =
      leaving_good s.model vs (said s vs.environment place (written s.lexed t)) f (said_good s range vs.environment f place (written s.lexed t))

  assign_by_good : (is_outermost : Bool) (place : Place) (t : ParseTree) (o : Option ParseTree) → Comes Anywhere Form (assign_by s is_outermost vs place t o)
  assign_by_good is_outermost place t None = say_good place t
  assign_by_good is_outermost place t (Some value) = assign_good s range is_outermost vs f place t value

  plain_good : (is_outermost : Bool) (place : Place) (t : ParseTree) → Comes Anywhere Form (plain_form s is_outermost vs place t)
  plain_good is_outermost place t =
      or_good Form (n.create_node t) (create s vs) _ (λ node. create_good node)
      (or_good Form (n.set_node t) (λ node. assign s is_outermost vs place node.target node.value) _
      (λ node. assign_good s range is_outermost vs f place node.target node.value)
      (or_good Form (n.new_node t) (make s vs) _ (λ node. make_good node)
      (or_good Form (n.destroy_node t) (λ node. leaving vs (destroy s vs.environment node)) _
      (λ node. leaving_good s.model vs (destroy s vs.environment node) f (destroy_good s range vs.environment f node))
      (or_good Form (n.insert_node t) (λ node. leaving vs (insert s vs.environment node)) _
      (λ node. leaving_good s.model vs (insert s vs.environment node) f (insert_good s range vs.environment f node))
      (or_good Form (n.delete_node t) (λ node. leaving vs (delete s vs.environment node)) _
      (λ node. leaving_good s.model vs (delete s vs.environment node) f (delete_good s range vs.environment f node))
      (or_good Form (n.declare_node t) (declare s vs place) _ (λ node. declare_good place node)
      (or_good Form (n.assign_node t) (assign_or_say s is_outermost vs place) (breaks_t 11 place)
      (λ node. assign_by_good is_outermost place node.target node.value) tt)))))))

-- ---- blocks

abbrev pub BlockOf : ObjectModel → Variables → List Stmt × Variables → Type 0
BlockOf m vs done = IsBodyOf m done.0 × Leads m vs done.1

body_to : (m : ObjectModel) (body : List Stmt) → IsBodyOf m body → (n : ℕ) → All (IsStatementTo m n) body
body_to m body h n = All-weaker (IsStatementOf m) (IsStatementTo m n) (λ x k. k.holds n) body h

module _ (s : Scene) (range : IsInRange s.model) (block_of : Variables → ParseTree → Typing (List Stmt × Variables))
    (blocks : (vs : Variables) → EnvOf s.model vs → (t : ParseTree) → Comes Anywhere (λ x. BlockOf s.model vs x) (block_of vs t)) where
  block_if_good : (vs : Variables) → EnvOf s.model vs → (o : Option ParseTree) → Comes Anywhere (λ x. BlockOf s.model vs x) (block_if s block_of vs o)
  block_if_good vs f None = (All-nil _, stay s.model vs f)
  block_if_good vs f (Some t) = blocks vs f t

  branch_good : (vs : Variables) → EnvOf s.model vs → (node : BranchNode) → Comes Anywhere (λ x. FormOf s.model vs x) (branch s block_of vs node)
  unfolding branch
  branch_good vs f node =
      binds Anywhere (λ x. IsGood s.model x.typed) (λ x. FormOf s.model vs x) (expression_at s false vs.environment node.condition) _
      (expression_good s range vs.environment f node.condition)
      (λ x h. binds Anywhere (λ x. BlockOf s.model vs x) (λ x. FormOf s.model vs x) (block_of vs node.consequence) _ (blocks vs f node.consequence)
      (λ first k. binds Anywhere (λ x. BlockOf s.model first.1 x) (λ x. FormOf s.model vs x) (block_if s block_of first.1 node.alternative) _
      (block_if_good first.1 k.1.env node.alternative)
      (λ second l. binds Anywhere (IsCheckedNow s.model) (λ x. FormOf s.model vs x) (condition s.model x) _ (condition_good s.model x h)
      (λ e i. (
        act_is s.model (act.If e first.0 second.0) (Act-F.If e first.0 second.0) (search (rules, the_lemmas))
            (λ n. (i, body_to s.model first.0 k.0 n, body_to s.model second.0 l.0 n)),
        on s.model vs first.1 second.1 k.1 l.1,
      )))))

  under_good : (vs : Variables) → EnvOf s.model vs → (name : List ℕ) (t : OclType) → IsTypeOf s.model t → (body : ParseTree) →
      Comes Anywhere (λ x. BlockOf s.model vs x) (block_under s block_of vs name t body)
  under_good vs f name t h body =
      let first = value_more s.model Fixed vs (Some name) t false f h in
      binds Anywhere (λ x. BlockOf s.model (with_fixed vs name t) x) (λ x. BlockOf s.model vs x) (block_of (with_fixed vs name t) body) _
      (blocks (with_fixed vs name t) first.env body)
      (λ done k. (k.0, taken_back s.model vs done.1 f (on s.model vs (with_fixed vs name t) done.1 first k.1)))

  for_good : (vs : Variables) → EnvOf s.model vs → (node : ForNode) → Comes Anywhere (λ x. FormOf s.model vs x) (for_each s block_of vs node)
  unfolding for_each
  for_good vs f node =
      binds Anywhere (λ x. IsGood s.model x.typed) (λ x. FormOf s.model vs x) (expression_at s false vs.environment node.source) _
      (expression_good s range vs.environment f node.source)
      (λ x h. binds Anywhere (IsTypeOf s.model) (λ x. FormOf s.model vs x) (element_of x) _ (element_good s.model x.place x.typed.of_type h.1)
      (λ t k. binds Anywhere (λ x. BlockOf s.model vs x) (λ x. FormOf s.model vs x) (block_under s block_of vs (text_at s.lexed node.variable) t node.body) _
      (under_good vs f (text_at s.lexed node.variable) t k node.body)
      (λ body l. (
        act_is s.model (act.For x.typed.expr body.0) (Act-F.For x.typed.expr body.0) (search (rules, the_lemmas))
            (λ n. (h.0, body_to s.model body.0 l.0 n)),
        l.1,
      ))))

  while_good : (vs : Variables) → EnvOf s.model vs → (node : WhileNode) → Comes Anywhere (λ x. FormOf s.model vs x) (while_true s block_of vs node)
  unfolding while_true
  while_good vs f node =
      binds Anywhere (λ x. IsGood s.model x.typed) (λ x. FormOf s.model vs x) (expression_at s false vs.environment node.condition) _
      (expression_good s range vs.environment f node.condition)
      (λ x h. binds Anywhere (λ x. BlockOf s.model vs x) (λ x. FormOf s.model vs x) (block_of vs node.body) _ (blocks vs f node.body)
      (λ body k. binds Anywhere (IsCheckedNow s.model) (λ x. FormOf s.model vs x) (condition s.model x) _ (condition_good s.model x h)
      (λ e i. (act_is s.model (act.While e body.0) (Act-F.While e body.0) (search (rules, the_lemmas)) (λ n. (i, body_to s.model body.0 k.0 n)), k.1))))

  form_good : (is_outermost : Bool) (vs : Variables) → EnvOf s.model vs → (place : Place) (t : ParseTree) →
      Comes Anywhere (λ x. FormOf s.model vs x) (form s block_of is_outermost vs place t)
  form_good is_outermost vs f place t =
      or_good (λ x. FormOf s.model vs x) (n.branch_node t) (branch s block_of vs) _ (λ node. branch_good vs f node)
      (or_good (λ x. FormOf s.model vs x) (n.for_node t) (for_each s block_of vs) _ (λ node. for_good vs f node)
      (or_good (λ x. FormOf s.model vs x) (n.while_node t) (while_true s block_of vs) (plain_form s is_outermost vs place t) (λ node. while_good vs f node)
      (plain_good s range vs f is_outermost place t)))

  form_in_good : (is_outermost : Bool) (vs : Variables) → EnvOf s.model vs → (place : Place) (t : ParseTree) →
      Comes Anywhere (λ x. FormOf s.model vs x) (form_in s block_of is_outermost vs place t)
  form_in_good is_outermost vs f place t =
      either (Comes Anywhere (λ x. FormOf s.model vs x)) (has_room vs) (form s block_of is_outermost vs place (form_at t)) (breaks_t 16 place)
      (form_good is_outermost vs f place (form_at t)) tt

  abbrev StatementOf : Variables → Stmt × Variables → Type 0
  StatementOf vs done = IsStatementOf s.model done.0 × Leads s.model vs done.1

  act_to : (place : Place) (a : Act) → ActOf s.model a → (n : ℕ) → IsStatementTo s.model n (record { place = place; act = a })
  act_to place a h zero = tt
  act_to place a h (suc n) = h n

  statement_good : (is_outermost : Bool) (vs : Variables) → EnvOf s.model vs → (t : ParseTree) →
      Comes Anywhere (λ x. StatementOf vs x) (statement s block_of is_outermost vs t)
  unfolding statement
  statement_good is_outermost vs f t =
      binds Anywhere (λ x. FormOf s.model vs x) (λ x. StatementOf vs x) (form_in s block_of is_outermost vs (place_of_tree s t) t) _
      (form_in_good is_outermost vs f (place_of_tree s t) t)
      (λ done h. (record { holds = act_to (place_of_tree s t) done.0 h.0 }, h.1))

  each_good : (is_outermost : Bool) (start : Variables) (done : List Stmt) (vs : Variables) (ts : List ParseTree) → IsBodyOf s.model done → Leads s.model start vs →
      Comes Anywhere (λ x. BlockOf s.model start x) (each_after (statement s block_of is_outermost) done vs ts)
  each_good is_outermost start done vs [] h k = (h, k)
  each_good is_outermost start done vs (t ∷ ts) h k =
      binds Anywhere (λ x. StatementOf vs x) (λ x. BlockOf s.model start x) (statement s block_of is_outermost vs t)
      (λ y. each_after (statement s block_of is_outermost) (done ++ y.0 ∷ []) y.1 ts) (statement_good is_outermost vs k.env t)
      (λ y l. each_good is_outermost start (done ++ y.0 ∷ []) y.1 ts (All-push (IsStatementOf s.model) done y.0 h l.0) (on s.model start vs y.1 k l.1))

  statements_good : (is_outermost : Bool) (vs : Variables) → EnvOf s.model vs → (t : ParseTree) →
      Comes Anywhere (λ x. BlockOf s.model vs x) (statements s block_of is_outermost vs t)
  unfolding statements
  statements_good is_outermost vs f t = each_good is_outermost vs [] vs (statements_of t) (All-nil _) (stay s.model vs f)

blocks_good : (s : Scene) → IsInRange s.model → (n : ℕ) (vs : Variables) → EnvOf s.model vs → (t : ParseTree) →
    Comes Anywhere (λ x. BlockOf s.model vs x) (block_in s n vs t)
unfolding block_in
blocks_good s range zero vs f t = tt
blocks_good s range (suc n) vs f t =
    binds Anywhere (λ x. BlockOf s.model vs x) (λ x. BlockOf s.model vs x) (statements s (block_in s n) false vs t) _
    (statements_good s range (block_in s n) (λ vs f t. blocks_good s range n vs f t) false vs f t)
    (λ done h. (h.0, taken_back s.model vs done.1 f h.1))

pub checked_good : (s : Scene) → IsInRange s.model → (is_outermost : Bool) (vs : Variables) → EnvOf s.model vs → (t : ParseTree) →
    Comes Anywhere (λ body. IsBodyOf s.model body) (checked s is_outermost vs t)
checked_good s range is_outermost vs f t =
    binds Anywhere (λ x. BlockOf s.model vs x) (λ body. IsBodyOf s.model body) (statements s (block_in s max_nesting) is_outermost vs t) _
    (statements_good s range (block_in s max_nesting) (λ vs f t. blocks_good s range max_nesting vs f t) is_outermost vs f t) (λ done h. h.0)

-- what is given for a block is of the model
pub statements_kept : (s : Scene) → IsInRange s.model → (is_outermost : Bool) (vs : Variables) → EnvOf s.model vs → (t : ParseTree) →
    IfOk (checked s is_outermost vs t) (λ body. IsBodyOf s.model body)
statements_kept s range is_outermost vs f t =
    if_typed (λ body. IsBodyOf s.model body) (checked s is_outermost vs t) (checked_good s range is_outermost vs f t)
