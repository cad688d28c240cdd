-- The names that a command takes from the shell: each once, and few.
use Rattle.std.proofs.Common.{◌≡◌, ℕ, ◌+◌, ◌<◌, ◌^◌, nat_lt, nat_eq, Bool, true, false, not, cond, ◌||◌, ◌&&◌, List, [], ◌∷◌, ◌++◌, fold, length, Option, Some, None, is_some, refl, sym, ap, ◌∙◌, true≢false, Ordering, Less, Equal, Greater, is_eq, arith}
use Rattle.std.specs.Prelude.{⊤, IfOk, Result, Ok, Err, codes}
use Rattle.std.specs.Cmp.Lexicographic.{bytes_decides, nat_list_cmp_total, pointwise, slice_cmp}
use Rattle.std.specs.List.{list_any, position_from}
use Rattle.std.specs.Option.{option_map_or}
use Rattle.std.specs.Ordering.{nat_cmp}
use Rattle.std.proofs.lemmas.Bool.{ltb-true}
use Rattle.std.proofs.lemmas.Map.Lookups.{exact_bytes}
use Rattle.use_orders.specs.Canon.{all_differ, has}
use Rattle.use_orders.proofs.Distinct.{push_differs}
use Rattle.use_text.specs.declared.place.Place.{Place}
use Rattle.use_text.specs.declared.token.Token.{Token}
use Rattle.use_text.specs.declared.token.TokenKind.TheVariants as k
use Rattle.use_text.specs.Pieces.{same_text}
use Rattle.grammar_core.specs.Trees.{ParseTree}
use Rattle.use_syntax.specs.declared.rule.Rule.TheVariants as r
use Rattle.use_nodes.specs.declared.commands.CheckNode.{CheckNode}
use Rattle.use_nodes.specs.declared.commands.EnterNode.{EnterNode}
use Rattle.use_nodes.specs.declared.commands.ExitNode.{ExitNode}
use Rattle.use_nodes.specs.declared.commands.InfoNode.{InfoNode}
use Rattle.use_nodes.specs.declared.commands.QueryNode.{QueryNode}
use Rattle.use_nodes.specs.declared.commands.ViewNode.{ViewNode}
use Rattle.use_nodes.specs.CommandNodes.{check_node, enter_node, exit_node, info_node, query_node, view_node}
use Rattle.use_nodes.specs.Nodes.{is_rule, is_token}
use Rattle.use_nodes.specs.StatementNodes.{block_node}
use Rattle.use_decls.specs.Names.{LexedText, name_at, number_at}
use Rattle.class_model.specs.declared.object_model.ObjectModel.{ObjectModel}
use Rattle.class_model.specs.declared.types.OclType.{OclType}
use Rattle.ocl_rules.specs.declared.fault.TypeFault.{TypeFault}
use Rattle.ocl_rules.specs.Typings.{Tells, Typing, breaks_n}
use Rattle.ocl_scope.proofs.Found.{either}
use Rattle.ocl_shapes.specs.Combining.{pure}
use Rattle.ocl_laws.proofs.Comes.{Comes, binds}
use Rattle.ocl_laws.proofs.InRange.{Anywhere, if_typed}
use Rattle.soil_scope.specs.Expressions.{expression_at}
use Rattle.soil_scope.specs.Scenes.{Scene, place_of_tree}
use Rattle.soil_scope.specs.Shells.{slot_of, with_name}
use Rattle.soil_scope.specs.declared.variables.Variables.{Variables}
use Rattle.soil_types.specs.Walk.{command_statements}
use Rattle.soil_check.specs.declared.checked.Checked.{Checked}
use Rattle.soil_check.specs.declared.checked.Checked.TheVariants as c
use Rattle.soil_check.specs.declared.scope.Bindings.{Bindings}
use Rattle.soil_check.specs.Calls.{entered, left}
use Rattle.soil_check.specs.Checks.{AreNames, TakesNames}
use Rattle.soil_check.specs.Commands.{asked, enter, exit, form, form_in, or_else, query, scene_of, statements, topic, word}
use Rattle.soil_check.specs.Scopes.{Known}
use Rattle.soil_check.specs.Seen.{bindings_of, result_of, seen}
use Rattle.soil_check.specs.Shell.{is_taken, name_of, shell_names, taken_by}
use Rattle.soil_check.specs.Topics.{check, check_switched, info, topic_of, view, view_dropped, view_number}
use Rattle.soil_check.proofs.Ranges.{told}

-- ---- each once

by_test : {P : Type 0} (b : Bool) → (b ≡ true → P) → (b ≡ false → P) → P
by_test true f g = f refl
by_test false f g = g refl

neither : (a b : Bool) → (a || b) ≡ false → (a ≡ false) × (b ≡ false)
neither true b h = absurd (true≢false h)
neither false b h = (refl, h)

some_or : (b : Bool) (n : ℕ) (o : Option ℕ) (c : Bool) → is_some o ≡ c → is_some (cond b (Some n) o) ≡ (b || c)
some_or true n o c h = refl
some_or false n o c h = h

-- something has a place exactly where it is there
some_place : {A : Type 0} (test : A → Bool) (n : ℕ) (xs : List A) → is_some (position_from test n xs) ≡ list_any test xs
some_place test n [] = refl
some_place test n (x ∷ xs) = some_or (test x) n (position_from test (n + 1) xs) (list_any test xs) (some_place test (n + 1) xs)

equal : (o : Ordering) → is_eq o ≡ true → o ≡ Equal
equal Less h = absurd (true≢false (sym h))
equal Equal h = refl
equal Greater h = absurd (true≢false (sym h))

apart : (a b : List ℕ) → pointwise nat_eq a b ≡ false → is_eq (slice_cmp nat_cmp b a) ≡ false
apart a b h = by_test (is_eq (slice_cmp nat_cmp b a))
    (λ y. absurd (true≢false (sym ((bytes_decides a b).1 (sym (exact_bytes b a (equal _ y)))) ∙ h)))
    (λ z. z)

far : (names : List (List ℕ)) (name : List ℕ) → list_any (λ n. pointwise nat_eq n name) names ≡ false → has (slice_cmp nat_cmp) names name ≡ false
far [] name h = refl
far (n ∷ ns) name h =
    let r = neither (pointwise nat_eq n name) (list_any (λ n. pointwise nat_eq n name) ns) h in
    ap (λ b. b || has (slice_cmp nat_cmp) ns name) (apart n name r.0) ∙ far ns name r.1

abbrev Once : List (List ℕ) → Type 0
Once names = all_differ (slice_cmp nat_cmp) names ≡ true

pushed_once : (names : List (List ℕ)) (name : List ℕ) → Once names → is_some (slot_of names name) ≡ false → Once (names ++ name ∷ [])
pushed_once names name h none =
    let new = far names name (sym (some_place (λ n. pointwise nat_eq n name) 0 names) ∙ none) in
    push_differs (slice_cmp nat_cmp) nat_list_cmp_total names name
    ∙ ap (λ b. b && not (has (slice_cmp nat_cmp) names name)) h
    ∙ ap not new

named_once : (names : List (List ℕ)) (name : List ℕ) → Once names → Once (with_name names name)
named_once names name h = by_test (is_some (slot_of names name))
    (λ y. rw y h)
    (λ n. rw n (pushed_once names name h n))

taken_once : (known : List ℕ → Option Known) (is_block : Bool) (names : List (List ℕ)) (o : Option (List ℕ)) → Once names → Once (taken_by known is_block names o)
taken_once known is_block names None h = h
taken_once known is_block names (Some name) h =
    either Once (is_taken known is_block name) (with_name names name) names (named_once names name h) h

all_once : (known : List ℕ → Option Known) (is_block : Bool) (text : List ℕ) (names : List (List ℕ)) (ts : List Token) → Once names →
    Once (fold (λ names t. taken_by known is_block names (name_of text t)) names ts)
all_once known is_block text names [] h = h
all_once known is_block text names (t ∷ ts) h =
    all_once known is_block text (taken_by known is_block names (name_of text t)) ts (taken_once known is_block names (name_of text t) h)

-- ---- few

any_typing : {A : Type 0} (t : Typing A) → Comes Anywhere (λ x. ⊤) t
any_typing (Ok a) = tt
any_typing (Err r) = tt

seen_few : (known : List ℕ → Option Known) (names : List (List ℕ)) (frame : Option Bindings) (place : Place) →
    Comes Anywhere (λ vs. length names < 2 ^ 32) (seen known names frame place)
seen_few known names frame place = by_test (nat_lt (length names + length (bindings_of frame)) (2 ^ 31))
    (λ y. rw y (omega (arith, ltb-true (length names + length (bindings_of frame)) (2 ^ 31) y)))
    (λ n. rw n tt)

-- ---- forms

abbrev Takes : Typing Checked → Type 0
Takes t = Comes Anywhere TakesNames t

check_takes : (l : LexedText) (node : CheckNode) → Takes (check l node)
unfolding check
check_takes l node = switched node.option where
  switched : (o : Option ParseTree) → Takes (option_map_or (λ t. check_switched (name_at l t)) o (pure (c.Check false)))
  switched None = tt
  switched (Some t) = either Takes (same_text (name_at l t).text (codes "d")) (pure (c.Check true)) (breaks_n 3 (name_at l t).place) tt tt

view_takes : (l : LexedText) (node : ViewNode) → Takes (view l node)
unfolding view
view_takes l node =
    either Takes (is_token k.Int node.subject) (pure (c.Show (view_number (number_at l node.number))))
    (view_dropped (name_at l node.subject) (view_number (number_at l node.number))) tt
    (either Takes (same_text (name_at l node.subject).text (codes "drop")) (pure (c.Drop (view_number (number_at l node.number))))
    (breaks_n 3 (name_at l node.subject).place) tt tt)

info_takes : (s : Scene) (node : InfoNode) → Takes (info s node)
unfolding info
info_takes s node = binds Anywhere (λ t. ⊤) TakesNames (topic_of s node node.class) _ (any_typing (topic_of s node node.class)) (λ t h. tt)

or_takes : {A : Type 0} (o : Option A) (f : A → Typing Checked) (other : Typing Checked) → ((a : A) → Takes (f a)) → Takes other → Takes (or_else o f other)
or_takes None f other h k = k
or_takes (Some a) f other h k = h a

word_takes : (t : ParseTree) → TakesNames (word t)
word_takes t =
    either TakesNames (is_token k.Undo t) c.Undo _ tt
    (either TakesNames (is_token k.Redo t) c.Redo _ tt (either TakesNames (is_token k.Reset t) c.Reset c.Quit tt tt))

topic_takes : (s : Scene) (t : ParseTree) → Takes (topic s t)
unfolding topic
topic_takes s t =
    or_takes (check_node t) (check s.lexed) _ (λ node. check_takes s.lexed node)
    (or_takes (info_node t) (info s) _ (λ node. info_takes s node)
    (or_takes (view_node t) (view s.lexed) (pure (word t)) (λ node. view_takes s.lexed node) (word_takes t)))

module _ (s : Scene) (names : AreNames s.shell) (vs : Variables) where
  query_takes : (node : QueryNode) → Takes (query s vs node)
  unfolding query
  query_takes node =
      binds Anywhere (λ x. ⊤) TakesNames (expression_at s false vs.environment node.expression)
      (λ x. pure (asked (is_some node.explained) x.typed s.shell)) (any_typing (expression_at s false vs.environment node.expression))
      (λ x h. either TakesNames (is_some node.explained) (c.Explain x.typed.expr x.typed.of_type s.shell)
      (c.Query x.typed.expr x.typed.of_type s.shell) names names)

  statements_take : (t : ParseTree) → Takes (statements s vs t)
  unfolding statements
  statements_take t =
      binds Anywhere (λ x. ⊤) TakesNames (command_statements s vs t) (λ body. pure (c.Statements body s.shell)) (any_typing (command_statements s vs t))
      (λ body h. names)

  enter_takes : (node : EnterNode) → Takes (enter s vs node)
  unfolding enter
  enter_takes node =
      binds Anywhere (λ x. ⊤) TakesNames (entered s vs.environment node) _ (any_typing (entered s vs.environment node)) (λ call h. names)

  exit_takes : (o : Option OclType) (t : ParseTree) (node : ExitNode) → Takes (exit s vs o t node)
  unfolding exit
  exit_takes o t node =
      binds Anywhere (λ x. ⊤) TakesNames (left s vs.environment o t node) _ (any_typing (left s vs.environment o t node)) (λ v h. names)

  form_takes : (o : Option OclType) (t : ParseTree) → Takes (form s vs o t)
  unfolding form
  form_takes o t =
      or_takes (block_node t) (λ _. statements s vs t) _ (λ node. statements_take t)
      (or_takes (enter_node t) (enter s vs) _ (λ node. enter_takes node)
      (or_takes (exit_node t) (exit s vs o t) _ (λ node. exit_takes o t node)
      (or_takes (query_node t) (query s vs) (topic s t) (λ node. query_takes node) (topic_takes s t))))

-- ---- commands

form_in_takes : (m : ObjectModel) (known : List ℕ → Option Known) (frame : Option Bindings) (l : LexedText) (t : ParseTree) → Takes (form_in m known frame l t)
unfolding form_in
form_in_takes m known frame l t =
    let s = scene_of m l (shell_names known (is_rule r.Block t) l) in
    binds Anywhere (λ vs. length s.shell < 2 ^ 32) TakesNames (seen known s.shell frame (place_of_tree s t)) (λ vs. form s vs (result_of frame) t)
    (seen_few known s.shell frame (place_of_tree s t))
    (λ vs few. form_takes s (record { few = few; differ = all_once known (is_rule r.Block t) l.text [] l.tokens refl }) vs (result_of frame) t)

-- what a call answers that tells of a form
pub names_told : (m : ObjectModel) (known : List ℕ → Option Known) (frame : Option Bindings) (l : LexedText) (t : ParseTree)
    (result : Result Checked TypeFault) → Tells (form_in m known frame l t) result → IfOk result TakesNames
names_told m known frame l t result h =
    told TakesNames (form_in m known frame l t) result (if_typed TakesNames (form_in m known frame l t) (form_in_takes m known frame l t)) h
