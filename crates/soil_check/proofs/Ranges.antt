-- What checking a command gives is in range for the model.
use Rattle.std.proofs.Common.{◌≡◌, ℕ, suc, ◌+◌, ◌<◌, nat_lt, false, List, [], ◌∷◌, fold, length, All, Option, Some, None, IfSome, subst, arith, ◌^◌, is_some}
use Rattle.std.specs.Prelude.{⊤, IfOk, Result, Ok, Err, true, codes}
use Rattle.std.specs.Option.{ForSome, option_map_or}
use Rattle.std.proofs.lemmas.List.Elements.{All-nil}
use Rattle.use_text.specs.declared.place.Place.{Place}
use Rattle.class_model.specs.declared.object_model.ObjectModel.{ObjectModel}
use Rattle.class_model.specs.declared.types.OclType.{OclType}
use Rattle.class_model.specs.declared.types.OclType.TheVariants as T
use Rattle.class_model.specs.InRange.{IsTypeOf, IsInRange}
use Rattle.ocl_rules.specs.Typings.{Tells, Typing, breaks_n, breaks_t}
use Rattle.ocl_scope.specs.Ranges.{IsEnvironmentOf}
use Rattle.ocl_scope.specs.declared.environment.Environment.{Environment}
use Rattle.ocl_scope.proofs.Found.{either, some_if}
use Rattle.ocl_scope.proofs.Kept.{none_kept, variable_kept}
use Rattle.ocl_shapes.specs.Combining.{pure, if_there}
use Rattle.ocl_laws.proofs.Comes.{Comes, binds, if_there_comes}
use Rattle.ocl_laws.proofs.InRange.{Anywhere, anywhere, if_typed}
use Rattle.soil_scope.specs.Variables.{no_values}
use Rattle.soil_scope.specs.declared.variables.Variables.{Variables}
use Rattle.soil_check.specs.Checks.{AreBindingsOf, IsKnownOf, IsScopeOf, IsCommandOf, IsTopicOf}
use Rattle.soil_check.specs.declared.scope.Bindings.{Bindings}
use Rattle.soil_check.specs.Scopes.{Known, object, variable}
use Rattle.soil_check.specs.Seen.{bindings_of, result_of, seen, with_all, with_binding, with_known, with_shell_name}
use Rattle.grammar_core.specs.Trees.{ParseTree}
use Rattle.class_decls.specs.declared.decls.Name.{Name}
use Rattle.ocl_program.specs.Programs.{IsCheckedNow}
use Rattle.ocl_rules.specs.declared.fault.TypeFault.{TypeFault}
use Rattle.ocl_rules.specs.Properties.{operation_of_type}
use Rattle.ocl_shapes.specs.Shapes.{are_plain}
use Rattle.ocl_syntax.specs.declared.tree.Argument.{Argument}
use Rattle.soil_scope.specs.Arguments.{values, written_arguments}
use Rattle.soil_scope.specs.Expressions.{expression_at}
use Rattle.soil_scope.specs.Scenes.{Scene, place_of_tree}
use Rattle.use_text.specs.declared.token.TokenKind.TheVariants as k
use Rattle.use_syntax.specs.declared.rule.Rule.TheVariants as r
use Rattle.use_nodes.specs.declared.commands.EnterNode.{EnterNode}
use Rattle.use_nodes.specs.declared.commands.ExitNode.{ExitNode}
use Rattle.use_nodes.specs.declared.commands.QueryNode.{QueryNode}
use Rattle.use_nodes.specs.Nodes.{is_rule, is_token}
use Rattle.use_nodes.specs.CommandNodes.{check_node, enter_node, exit_node, info_node, query_node, view_node}
use Rattle.use_nodes.specs.StatementNodes.{block_node}
use Rattle.use_decls.specs.Names.{LexedText, name_at, number_at}
use Rattle.soil_types.specs.Walk.{command_statements}
use Rattle.soil_check.specs.declared.checked.Checked.{Checked}
use Rattle.soil_check.specs.declared.checked.Checked.TheVariants as c
use Rattle.soil_check.specs.Shell.{shell_names}
use Rattle.soil_check.specs.Calls.{entered, left, entered_with, operation_or, operation_wanted, result_wanted}
use Rattle.soil_check.specs.Topics.{check, info, view, check_switched, subject, topic_named, topic_of, topic_or, view_dropped, view_number}
use Rattle.use_text.specs.Pieces.{same_text}
use Rattle.use_nodes.specs.declared.commands.CheckNode.{CheckNode}
use Rattle.use_nodes.specs.declared.commands.InfoNode.{InfoNode}
use Rattle.use_nodes.specs.declared.commands.ViewNode.{ViewNode}
use Rattle.soil_types.specs.ObjectForms.{class_wanted, is_object}
use Rattle.soil_check.specs.declared.checked.Topic.{Topic}
use Rattle.soil_check.specs.declared.checked.Topic.TheVariants as topics
use Rattle.soil_scope.specs.declared.expressions.Placed.{Placed}
use Rattle.model_check.specs.Rules.{value_rule}
use Rattle.class_model.specs.Conformance.{conforms}
use Rattle.ocl_program.specs.Bodies.{IsBodyOf}
use Rattle.soil_laws.proofs.Bound.{EnvOf, for_some, some_of}
use Rattle.soil_laws.proofs.Called.{IsCall, IsGood, call_by_good, expression_good, operation_there, values_good}
use Rattle.soil_laws.proofs.Acts.{class_good}
use Rattle.soil_laws.proofs.Nesting.{checked_good}
use Rattle.soil_check.specs.Commands.{asked, command_of, enter, exit, form, form_at, form_in, form_of, or_else, query, scene_of, statements, topic, word}

-- ---- what a command sees

known_seen : (m : ObjectModel) (vs : Variables) (name : List ℕ) (o : Option Known) → EnvOf m vs → IfSome o (IsKnownOf m) → EnvOf m (with_known vs name o)
known_seen m vs name None h k = variable_kept m vs.environment None T.Void false h tt
known_seen m vs name (Some (object class)) h k = variable_kept m vs.environment (Some name) (T.Class class) false h k
known_seen m vs name (Some (variable t)) h k = variable_kept m vs.environment (Some name) t false h k

names_seen : (m : ObjectModel) (known : List ℕ → Option Known) → ((name : List ℕ) → IfSome (known name) (IsKnownOf m)) → (vs : Variables)
    (names : List (List ℕ)) → EnvOf m vs → EnvOf m (fold (with_shell_name known) vs names)
names_seen m known k vs [] h = h
names_seen m known k vs (n ∷ ns) h = names_seen m known k (with_shell_name known vs n) ns (known_seen m vs n (known n) h (k n))

bindings_seen : (m : ObjectModel) (vs : Variables) (bs : List (List ℕ × OclType)) → EnvOf m vs → All (λ b. IsTypeOf m b.1) bs →
    EnvOf m (fold with_binding vs bs)
bindings_seen m vs [] h k = h
bindings_seen m vs (b ∷ bs) h k =
    bindings_seen m (with_binding vs b) bs (variable_kept m vs.environment (Some b.0) b.1 _ h (k 0 b (omega arith))) (λ i d l. k (suc i) d (omega (arith, l)))

frame_types : (m : ObjectModel) (frame : Option Bindings) → IfSome frame (AreBindingsOf m) → All (λ b. IsTypeOf m b.1) (bindings_of frame)
frame_types m None h = All-nil _
frame_types m (Some b) h = h.names

pub seen_kept : (m : ObjectModel) (known : List ℕ → Option Known) (names : List (List ℕ)) (frame : Option Bindings) (place : Place) → IsScopeOf m known frame →
    Comes Anywhere (λ vs. EnvOf m vs) (seen known names frame place)
seen_kept m known names frame place scope =
    either (Comes Anywhere (λ vs. EnvOf m vs)) (nat_lt (length names + length (bindings_of frame)) (2 ^ 31))
    (pure (with_all known names (bindings_of frame))) (breaks_t 16 place)
    (bindings_seen m (fold (with_shell_name known) no_values names) (bindings_of frame)
    (names_seen m known (λ name. some_of (IsKnownOf m) (known name) (scope.names name)) no_values names (none_kept m)) (frame_types m frame (some_of (AreBindingsOf m) frame scope.bindings)))
    tt

-- ---- `openter` and `opexit`

operation_or_good : (m : ObjectModel) (place : Place) (o : Option ℕ) → IfSome o (λ op. op < length m.ops) →
    Comes Anywhere (λ op. op < length m.ops) (operation_or place o)
operation_or_good m place None h = tt
operation_or_good m place (Some op) h = h

wanted_good : (m : ObjectModel) (x : Placed) (name : Name) → Comes Anywhere (λ op. op < length m.ops) (operation_wanted m x name)
wanted_good m x name =
    either (Comes Anywhere (λ op. op < length m.ops)) (is_object x.typed.of_type)
    (operation_or name.place (operation_of_type m x.typed.of_type name.text)) (breaks_t 14 x.place)
    (operation_or_good m name.place (operation_of_type m x.typed.of_type name.text) (operation_there m x.typed.of_type name.text)) tt

module _ (s : Scene) (range : IsInRange s.model) (env : Environment) (f : IsEnvironmentOf s.model env) where
  entered_with_good : (x : Placed) → IsGood s.model x.typed → (name : Name) (args : List Argument) →
      Comes Anywhere (λ c. IsCall s.model c) (entered_with s env x name args)
  unfolding entered_with
  entered_with_good x h name args =
      binds Anywhere (λ xs. All (IsGood s.model) xs) (λ c. IsCall s.model c) (values s env args) _ (values_good s range env f args)
      (λ xs k. binds Anywhere (λ op. op < length s.model.ops) (λ c. IsCall s.model c) (operation_wanted s.model x name) _ (wanted_good s.model x name)
      (λ op l. call_by_good s.model name.place false x.typed.expr op xs (are_plain args) h.0 l k))

  entered_good : (node : EnterNode) → Comes Anywhere (λ c. IsCall s.model c) (entered s env node)
  unfolding entered
  entered_good node =
      binds Anywhere (λ x. IsGood s.model x.typed) (λ c. IsCall s.model c) (expression_at s false env node.receiver) _
      (expression_good s range env f node.receiver)
      (λ x h. entered_with_good x h (name_at s.lexed node.operation) (written_arguments s.lexed node.arguments))

  value_rule_good : (t : OclType) (x : Placed) → IsGood s.model x.typed → Comes Anywhere (IsCheckedNow s.model) (value_rule s.model t x)
  value_rule_good t x h =
      either (Comes Anywhere (IsCheckedNow s.model)) (conforms s.model x.typed.of_type t) (pure x.typed.expr) (breaks_t 5 x.place) h.0 tt

  result_good : (place : Place) (o : Option OclType) (x : Option Placed) → IfSome x (λ x. IsGood s.model x.typed) →
      Comes Anywhere (λ v. ForSome v (IsCheckedNow s.model)) (result_wanted s.model place o x)
  result_good place None None h = for_some (IsCheckedNow s.model) None tt
  result_good place None (Some x) h = tt
  result_good place (Some t) None h = tt
  result_good place (Some t) (Some x) h =
      binds Anywhere (IsCheckedNow s.model) (λ v. ForSome v (IsCheckedNow s.model)) (value_rule s.model t x) _ (value_rule_good t x h)
      (λ e k. for_some (IsCheckedNow s.model) (Some e) k)

  left_good : (o : Option OclType) (t : ParseTree) (node : ExitNode) → Comes Anywhere (λ v. ForSome v (IsCheckedNow s.model)) (left s env o t node)
  unfolding left
  left_good o t node =
      binds Anywhere (λ x. IfSome x (λ x. IsGood s.model x.typed)) (λ v. ForSome v (IsCheckedNow s.model)) (if_there (expression_at s false env) node.value)
      (λ x. result_wanted s.model (place_of_tree s t) o x)
      (if_there_comes Anywhere (λ t. ⊤) (λ x. IsGood s.model x.typed) (expression_at s false env) (λ t k. expression_good s range env f t) node.value
      (anywhere node.value))
      (λ x h. result_good (place_of_tree s t) o x h)

-- ---- `check`, `info` and `view`

module _ (m : ObjectModel) where
  abbrev Command : Typing Checked → Type 0
  Command t = Comes Anywhere (λ c. IsCommandOf m c) t

  check_good : (l : LexedText) (node : CheckNode) → Command (check l node)
  unfolding check
  check_good l node = switched node.option where
    switched : (o : Option ParseTree) → Command (option_map_or (λ t. check_switched (name_at l t)) o (pure (c.Check false)))
    switched None = tt
    switched (Some t) = either Command (same_text (name_at l t).text (codes "d")) (pure (c.Check true)) (breaks_n 3 (name_at l t).place) tt tt

  view_good : (l : LexedText) (node : ViewNode) → Command (view l node)
  unfolding view
  view_good l node =
      either Command (is_token k.Int node.subject) (pure (c.Show (view_number (number_at l node.number))))
      (view_dropped (name_at l node.subject) (view_number (number_at l node.number))) tt
      (either Command (same_text (name_at l node.subject).text (codes "drop")) (pure (c.Drop (view_number (number_at l node.number))))
      (breaks_n 3 (name_at l node.subject).place) tt tt)

  abbrev TopicOf : Topic → Type 0
  TopicOf t = IsTopicOf m t

  topic_named_good : (name : List ℕ) → IfSome (topic_named name) TopicOf
  topic_named_good name =
      some_if TopicOf (same_text name (codes "state")) topics.State _ tt
      (some_if TopicOf (same_text name (codes "vars")) topics.Vars _ tt
      (some_if TopicOf (same_text name (codes "opstack")) topics.Opstack _ tt
      (some_if TopicOf (same_text name (codes "script")) topics.Script _ tt
      (some_if TopicOf (same_text name (codes "use")) topics.Use None tt tt))))

  topic_or_good : (place : Place) (o : Option Topic) → IfSome o TopicOf → Comes Anywhere TopicOf (topic_or place o)
  topic_or_good place None h = tt
  topic_or_good place (Some t) h = h

  subject_good : (l : LexedText) (t : ParseTree) → Comes Anywhere TopicOf (subject l t)
  unfolding subject
  subject_good l t =
      either (Comes Anywhere TopicOf) (is_token k.Model t) (pure topics.Model) (topic_or (name_at l t).place (topic_named (name_at l t).text)) tt
      (topic_or_good (name_at l t).place (topic_named (name_at l t).text) (topic_named_good (name_at l t).text))

topic_good : (s : Scene) (node : InfoNode) (o : Option ParseTree) → Comes Anywhere (IsTopicOf s.model) (topic_of s node o)
unfolding topic_of
topic_good s node None = subject_good s.model s.lexed node.subject
topic_good s node (Some t) =
    binds Anywhere (λ c. c < length s.model.classes) (IsTopicOf s.model) (class_wanted s.model (name_at s.lexed t)) _ (class_good s.model (name_at s.lexed t))
    (λ c h. h)

info_good : (s : Scene) (node : InfoNode) → Command s.model (info s node)
unfolding info
info_good s node = binds Anywhere (IsTopicOf s.model) (IsCommandOf s.model) (topic_of s node node.class) _ (topic_good s node node.class) (λ t h. h)

-- ---- forms

or_good : {A : Type 0} (m : ObjectModel) (o : Option A) (f : A → Typing Checked) (other : Typing Checked) → ((a : A) → Command m (f a)) → Command m other →
    Command m (or_else o f other)
or_good m None f other h k = k
or_good m (Some a) f other h k = h a

word_good : (m : ObjectModel) (t : ParseTree) → IsCommandOf m (word t)
word_good m t =
    either (IsCommandOf m) (is_token k.Undo t) c.Undo _ tt
    (either (IsCommandOf m) (is_token k.Redo t) c.Redo _ tt (either (IsCommandOf m) (is_token k.Reset t) c.Reset c.Quit tt tt))

topics_good : (s : Scene) (t : ParseTree) → Command s.model (topic s t)
unfolding topic
topics_good s t =
    or_good s.model (check_node t) (check s.lexed) _ (λ node. check_good s.model s.lexed node)
    (or_good s.model (info_node t) (info s) _ (λ node. info_good s node)
    (or_good s.model (view_node t) (view s.lexed) (pure (word t)) (λ node. view_good s.model s.lexed node) (word_good s.model t)))

module _ (s : Scene) (range : IsInRange s.model) (vs : Variables) (f : EnvOf s.model vs) where
  query_good : (node : QueryNode) → Command s.model (query s vs node)
  unfolding query
  query_good node =
      binds Anywhere (λ x. IsGood s.model x.typed) (IsCommandOf s.model) (expression_at s false vs.environment node.expression)
      (λ x. pure (asked (is_some node.explained) x.typed s.shell)) (expression_good s range vs.environment f node.expression)
      (λ x h. either (IsCommandOf s.model) (is_some node.explained) (c.Explain x.typed.expr x.typed.of_type s.shell)
      (c.Query x.typed.expr x.typed.of_type s.shell) h h)

  statements_good : (t : ParseTree) → Command s.model (statements s vs t)
  unfolding statements
  statements_good t =
      binds Anywhere (λ body. IsBodyOf s.model body) (IsCommandOf s.model) (command_statements s vs t) (λ body. pure (c.Statements body s.shell))
      (checked_good s range true vs f t) (λ body h. h)

  enter_good : (node : EnterNode) → Command s.model (enter s vs node)
  unfolding enter
  enter_good node =
      binds Anywhere (λ c. IsCall s.model c) (IsCommandOf s.model) (entered s vs.environment node) _ (entered_good s range vs.environment f node) (λ call h. h)

  exit_good : (o : Option OclType) (t : ParseTree) (node : ExitNode) → Command s.model (exit s vs o t node)
  unfolding exit
  exit_good o t node =
      binds Anywhere (λ v. ForSome v (IsCheckedNow s.model)) (IsCommandOf s.model) (left s vs.environment o t node) _
      (left_good s range vs.environment f o t node) (λ v h. h)

  form_good : (o : Option OclType) (t : ParseTree) → Command s.model (form s vs o t)
  unfolding form
  form_good o t =
      or_good s.model (block_node t) (λ _. statements s vs t) _ (λ node. statements_good t)
      (or_good s.model (enter_node t) (enter s vs) _ (λ node. enter_good node)
      (or_good s.model (exit_node t) (exit s vs o t) _ (λ node. exit_good o t node)
      (or_good s.model (query_node t) (query s vs) (topic s t) (λ node. query_good node) (topics_good s t))))

-- ---- commands

-- what a call tells of typing
pub told : {A : Type 0} (P : A → Type 0) (t : Typing A) (result : Result A TypeFault) → IfOk t P → Tells t result → IfOk result P
told P t (Ok a) h e = subst (λ x. IfOk x P) e h
told P t (Err f) h e = tt

module _ (m : ObjectModel) (range : IsInRange m) (known : List ℕ → Option Known) (frame : Option Bindings) (scope : IsScopeOf m known frame) where
  form_in_good : (l : LexedText) (t : ParseTree) → Command m (form_in m known frame l t)
  unfolding form_in
  form_in_good l t =
      let s = scene_of m l (shell_names known (is_rule r.Block t) l) in
      binds Anywhere (λ vs. EnvOf m vs) (IsCommandOf m) (seen known s.shell frame (place_of_tree s t)) (λ vs. form s vs (result_of frame) t)
      (seen_kept m known s.shell frame (place_of_tree s t) scope) (λ vs h. form_good s range vs h (result_of frame) t)

  -- what checking a command gives is in range
  pub command_kept : (l : LexedText) (t : ParseTree) → IfOk (command_of m known frame l t) (IsCommandOf m)
  command_kept l t =
      if_typed (IsCommandOf m) (command_of m known frame l t)
      (or_good m (form_of t) (λ t. form_in m known frame l (form_at t)) (pure c.Empty) (λ t. form_in_good l (form_at t)) tt)

  -- so is what a call answers that tells of a form, over a model that is this one
  pub form_told : (n : ObjectModel) → n ≡ m → (l : LexedText) (t : ParseTree) (result : Result Checked TypeFault) → Tells (form_in n known frame l t) result →
      IfOk result (IsCommandOf m)
  form_told n same l t result h =
      told (IsCommandOf m) (form_in m known frame l t) result (if_typed (IsCommandOf m) (form_in m known frame l t) (form_in_good l t))
      (subst (λ n. Tells (form_in n known frame l t) result) same h)
