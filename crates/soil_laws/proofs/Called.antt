-- What is typed in statements and commands is in range: expressions, arguments and calls.
use Rattle.std.proofs.Common.{◌≡◌, ℕ, zero, suc, ◌<◌, Bool, false, if◌then◌else◌, is_some, List, [], ◌∷◌, get_or, length, All, Option, Some, None, IfSome, refl, sym, subst, arith, rules}
use Rattle.std.specs.Prelude.{⊤, IfOk, MatchResult, Ok, Err}
use Rattle.std.specs.List.{AllByRecursion}
use Rattle.std.specs.Option.{option_and_then, option_map}
use Rattle.std.proofs.lemmas.List.Elements.{All-from_recursion, All-map}
use Rattle.use_text.specs.declared.place.Place.{Place}
use Rattle.use_text.specs.declared.refusal.Refusal.{Refusal}
use Rattle.grammar_core.specs.Trees.{ParseTree}
use Rattle.class_decls.specs.declared.decls.Name.{Name}
use Rattle.class_model.specs.declared.object_model.ObjectModel.{ObjectModel}
use Rattle.class_model.specs.declared.types.OclType.{OclType}
use Rattle.class_model.specs.declared.types.OclType.TheVariants as T
use Rattle.class_model.specs.Features.{operation}
use Rattle.class_model.specs.InRange.{IsInRange, IsTypeOf}
use Rattle.class_model.specs.Parts.{op_params}
use Rattle.ocl_core.specs.declared.expression.Expr.{Expr, out-Expr, the_lemmas}
use Rattle.ocl_core.specs.declared.expression.Expr.TheOpen.{Expr-F}
use Rattle.ocl_core.specs.declared.expression.Expr.TheVariants as E
use Rattle.ocl_core.specs.Trees.{LayerHolds, NodeReadsNow, NodesHoldTo, ReadsNow}
use Rattle.ocl_program.specs.Programs.{IsCheckedNow}
use Rattle.ocl_rules.specs.Arguments.{broken_arguments, conforms_to, exprs, unless_broken}
use Rattle.ocl_rules.specs.Properties.{operation_of_type}
use Rattle.ocl_rules.specs.Typings.{Typing, breaks_t, then_typed}
use Rattle.ocl_rules.specs.declared.typed.Typed.{Typed}
use Rattle.ocl_scope.specs.Environments.{last_that}
use Rattle.ocl_scope.specs.Names.{type_named, variable}
use Rattle.ocl_scope.specs.Ranges.{IsEnvironmentOf, IsTypedAmong}
use Rattle.ocl_scope.specs.declared.environment.Environment.{Environment}
use Rattle.ocl_scope.specs.declared.environment.Variable.{Variable}
use Rattle.ocl_scope.proofs.Absent.{operation_is_there}
use Rattle.ocl_scope.proofs.Found.{either, some_if, some_or}
use Rattle.ocl_scope.proofs.Layers.{local_among}
use Rattle.ocl_shapes.specs.Combining.{pure}
use Rattle.ocl_shapes.specs.Extents.{class_asked}
use Rattle.ocl_shapes.specs.Shapes.{Layer, are_plain, expression_of}
use Rattle.ocl_syntax.specs.Expressions.{written}
use Rattle.ocl_syntax.specs.Places.{first_place}
use Rattle.ocl_syntax.specs.declared.tree.Argument.{Argument}
use Rattle.ocl_syntax.specs.declared.tree.Argument.TheOpen.{Written-F}
use Rattle.ocl_syntax.specs.declared.tree.Written.{Written, out-Written}
use Rattle.ocl_types.specs.Nodes as nodes
use Rattle.ocl_types.specs.Walk.{type_expr}
use Rattle.ocl_laws.proofs.Comes.{Comes, binds, each_comes, widened}
use Rattle.ocl_laws.proofs.InRange.{Anywhere, every_where, typed_ranges}
use Rattle.ocl_laws.proofs.Now.{typed_now}
use Rattle.soil_scope.specs.Arguments.{argument_value, now_in, values}
use Rattle.soil_scope.specs.Calls.{bare_callee, call_by, call_with, called, called_at, callee_at, callee_in, callee_of, dot_callee_by, has_operation, implicit, is_given, operation_called}
use Rattle.soil_scope.specs.Expressions.{expression_at, type_of}
use Rattle.soil_scope.specs.Scenes.{Scene}
use Rattle.soil_scope.specs.declared.calls.Call.{Call}
use Rattle.soil_scope.specs.declared.calls.Callee.{Callee}

-- ---- expressions

-- it may be evaluated over the present state, and its type is the model's
abbrev pub IsGood : ObjectModel → Typed → Type 0
IsGood m x = IsCheckedNow m x.expr × IsTypeOf m x.of_type

pub any : {A : Type 0} (t : Typing A) → Comes Anywhere (λ x. ⊤) t
any (Ok a) = tt
any (Err r) = tt

pub from_match : {A : Type 0} (P : A → Type 0) (Q : Refusal → Type 0) (t : Typing A) → MatchResult t P Q → Comes Anywhere P t
from_match P Q (Ok a) h = h
from_match P Q (Err r) h = tt

both : {A : Type 0} (P Q : A → Type 0) (t : Typing A) → IfOk t P → IfOk t Q → Comes Anywhere (λ x. P x × Q x) t
both P Q (Ok a) h k = (h, k)
both P Q (Err r) h k = tt

pub typed_good : (m : ObjectModel) → IsInRange m → (env : Environment) → IsEnvironmentOf m env → (e : Written) →
    Comes Anywhere (λ x. IsGood m x) (type_expr m false env e)
typed_good m range env f e =
    widened Anywhere (λ x. IsTypedAmong m env.size x × ReadsNow x.expr) (λ x. IsGood m x) (type_expr m false env e)
    (λ x h. (record { checked = record { sound = h.0.expr.literals; of_model = h.0.expr.numbers }; now = h.1 }, h.0.of_type))
    (both (IsTypedAmong m env.size) (λ x. ReadsNow x.expr) (type_expr m false env e) (typed_ranges m range false env f e) (typed_now m env e))

module _ (s : Scene) (range : IsInRange s.model) (env : Environment) (f : IsEnvironmentOf s.model env) where
  pub type_good : (e : Written) → Comes Anywhere (λ x. IsGood s.model x) (type_of s env e)
  unfolding type_of
  type_good e = typed_good s.model range env f e

  pub expression_good : (t : ParseTree) → Comes Anywhere (λ x. IsGood s.model x.typed) (expression_at s false env t)
  unfolding expression_at
  expression_good t =
      binds Anywhere (λ x. IsGood s.model x) (λ x. IsGood s.model x.typed) (type_expr s.model false env (written s.lexed t))
      (λ x. pure (record { typed = x; place = first_place (written s.lexed t) }))
      (typed_good s.model range env f (written s.lexed t)) (λ x k. k)

  -- ---- arguments

  behind_good : (a : Argument) (x : Typed) → IsGood s.model x →
      Comes Anywhere (λ x. IsGood s.model x) (then_typed (nodes.behind (now_in s) (type_of s) env a) (λ _. pure x))
  behind_good a x h = binds Anywhere (λ y. ⊤) (λ x. IsGood s.model x) (nodes.behind (now_in s) (type_of s) env a) (λ _. pure x) (any _) (λ y k. h)

  argument_in : (a : Argument) → Comes Anywhere (λ x. IsGood s.model x) (nodes.argument_value (now_in s) (type_of s) env a)
  unfolding nodes.argument_value
  argument_in a =
      binds Anywhere (λ x. IsGood s.model x) (λ x. IsGood s.model x) (type_of s env (expression_of a))
      (λ x. then_typed (nodes.behind (now_in s) (type_of s) env a) (λ _. pure x))
      (type_good (expression_of a)) (λ x k. behind_good a x k)

  argument_good : (a : Argument) → Comes Anywhere (λ x. IsGood s.model x) (argument_value s env a)
  unfolding argument_value
  argument_good a = argument_in a

  pub values_good : (args : List Argument) → Comes Anywhere (λ xs. All (IsGood s.model) xs) (values s env args)
  values_good args =
      widened Anywhere (AllByRecursion (λ x. IsGood s.model x)) (λ xs. All (IsGood s.model) xs) (values s env args)
      (λ xs h. All-from_recursion (IsGood s.model) xs h)
      (each_comes Anywhere (λ a. ⊤) (λ x. IsGood s.model x) (argument_value s env) (λ a k. argument_good a) [] args tt (every_where args))

-- ---- operations

pub some_map : {A B : Type 0} (P : B → Type 0) (f : A → B) (o : Option A) → IfSome o (λ x. P (f x)) → IfSome (option_map f o) P
some_map P f None h = tt
some_map P f (Some x) h = h

pub some_then : {A B : Type 0} (P : A → Type 0) (Q : B → Type 0) (f : A → Option B) (o : Option A) → ((a : A) → P a → IfSome (f a) Q) → IfSome o P →
    IfSome (option_and_then f o) Q
some_then P Q f None k h = tt
some_then P Q f (Some a) k h = k a h

widen_some : {A : Type 0} (P Q : A → Type 0) (o : Option A) → ((a : A) → P a → Q a) → IfSome o P → IfSome o Q
widen_some P Q None k h = tt
widen_some P Q (Some a) k h = k a h

pub operation_there : (m : ObjectModel) (t : OclType) (name : List ℕ) → IfSome (operation_of_type m t name) (λ o. o < length m.ops)
operation_there m (T.Class c) name = operation_is_there m c name (operation m c name) refl
operation_there m T.Any name = tt
operation_there m T.Void name = tt
operation_there m T.Bool name = tt
operation_there m T.Int name = tt
operation_there m T.Str name = tt
operation_there m (T.Enum e) name = tt
operation_there m (T.Coll' kind shape row) name = tt

called_there : (m : ObjectModel) (t : OclType) (name : List ℕ) → IfSome (operation_called m t name) (λ o. o < length m.ops)
called_there m t name =
    either (λ o. IfSome o (λ o. o < length m.ops)) (is_given m t name) None (operation_of_type m t name) tt (operation_there m t name)

-- an entry of the environment reads no state
layer_now : (e : Expr) (i : ℕ) → out-Expr e ≡ Expr-F.Local i → (n : ℕ) → NodesHoldTo NodeReadsNow n e
layer_now e i is zero = tt
layer_now e i is (suc n) = subst (λ l. NodeReadsNow l × LayerHolds (λ v. ⊤) (NodesHoldTo NodeReadsNow n) l) (sym is) (tt, tt)

local_now : (i : ℕ) → ReadsNow (E.Local i)
local_now i = record { nodes = layer_now (E.Local i) i (search (rules, the_lemmas)) }

pub last_there : {A : Type 0} (P : A → Type 0) (test : A → Bool) (xs : List A) → All P xs → IfSome (last_that test xs) P
last_there P test [] h = tt
last_there P test (x ∷ xs) h =
    some_or P (last_that test xs) (if test x then Some x else None) (last_there P test xs (λ k d i. h (suc k) d (omega (arith, i))))
    (some_if P (test x) x None (h 0 x (omega arith)) tt)

variable_good : (m : ObjectModel) (env : Environment) → IsEnvironmentOf m env → (k : ℕ) (d : Variable) → k < length env.variables →
    IsGood m (variable (get_or env.variables k d))
variable_good m env h k d i =
    let among = local_among m env.size (get_or env.variables k d).number (h.numbers k d i) in
    (record { checked = record { sound = among.literals; of_model = among.numbers }; now = local_now (get_or env.variables k d).number }, h.types k d i)

-- ---- calls

abbrev pub IsCallee : ObjectModel → Callee → Type 0
IsCallee m c = IsGood m c.source × (c.op < length m.ops)

abbrev pub IsCall : ObjectModel → Call → Type 0
IsCall m c = (c.op < length m.ops) × IsCheckedNow m c.receiver × All (IsCheckedNow m) c.args

callee_of_good : (s : Scene) (x : Typed) (name : Name) → IsGood s.model x → IfSome (callee_of s x name) (IsCallee s.model)
callee_of_good s x name h =
    some_map (IsCallee s.model) (λ op. record { source = x; op = op }) (operation_called s.model x.of_type name.text)
    (widen_some (λ o. o < length s.model.ops) (λ op. IsGood s.model x × (op < length s.model.ops)) (operation_called s.model x.of_type name.text)
    (λ op k. (h, k)) (called_there s.model x.of_type name.text))

module _ (s : Scene) (range : IsInRange s.model) (env : Environment) (f : IsEnvironmentOf s.model env) where
  abbrev Found : Option Callee → Type 0
  Found o = IfSome o (IsCallee s.model)

  dot_good : (source : Written) (name : Name) (o : Option Name) → Comes Anywhere (λ o. Found o) (dot_callee_by s env source name o)
  dot_good source name (Some class) = tt
  dot_good source name None =
      binds Anywhere (λ x. IsGood s.model x) (λ o. Found o) (type_of s env source) (λ x. pure (callee_of s x name)) (type_good s range env f source)
      (λ x h. callee_of_good s x name h)

  bare_good : (name : Name) → Found (bare_callee s env name)
  bare_good name =
      either (λ o. Found o) (is_some (type_named s.model name.text)) None (option_and_then (λ v. callee_of s (variable v) name) (implicit s.model env name.text)) tt
      (some_then (λ v. IsGood s.model (variable v)) (IsCallee s.model) (λ v. callee_of s (variable v) name) (implicit s.model env name.text)
      (λ v h. callee_of_good s (variable v) name h)
      (last_there (λ v. IsGood s.model (variable v)) (has_operation s.model name.text) env.variables (variable_good s.model env f)))

  callee_at_good : (l : Layer) → Comes Anywhere (λ o. Found o) (callee_at s env l)
  callee_at_good (Written-F.Dot source name is_before (Some args)) = dot_good source name (class_asked source name)
  callee_at_good (Written-F.Named name None is_before (Some args)) = bare_good name
  callee_at_good l = tt

  pub callee_good : (e : Written) → Comes Anywhere (λ o. IfSome o (IsCallee s.model)) (callee_in s env e)
  unfolding callee_in
  callee_good e = callee_at_good (out-Written e)

unbroken : {A : Type 0} (P : A → Type 0) (place : Place) (o : Option ℕ) (t : Typing A) → Comes Anywhere P t → Comes Anywhere P (unless_broken place o t)
unbroken P place None t h = h
unbroken P place (Some n) t h = tt

pub call_by_good : (m : ObjectModel) (place : Place) (is_before : Bool) (receiver : Expr) (op : ℕ) (args : List Typed) (is_plain : Bool) →
    IsCheckedNow m receiver → op < length m.ops → All (IsGood m) args → Comes Anywhere (λ c. IsCall m c) (call_by m place is_before receiver op args is_plain)
call_by_good m place is_before receiver op args is_plain r there h =
    either (Comes Anywhere (λ c. IsCall m c)) is_plain _ (breaks_t 2 place)
    (unbroken (λ c. IsCall m c) place (broken_arguments (λ p a. conforms_to m p.of_type a) (op_params m op) args) _
    (either (Comes Anywhere (λ c. IsCall m c)) is_before (breaks_t 9 place) (pure (record { receiver = receiver; op = op; args = exprs args })) tt
    (there, r, All-map (IsCheckedNow m) (λ a. a.expr) args (λ k d i. (h k d i).0))))
    tt

module _ (s : Scene) (range : IsInRange s.model) (env : Environment) (f : IsEnvironmentOf s.model env) where
  call_with_good : (name : Name) (is_before : Bool) (args : List Argument) (c : Callee) → IsCallee s.model c →
      Comes Anywhere (λ c. IsCall s.model c) (call_with s env name is_before args c)
  unfolding call_with
  call_with_good name is_before args c h =
      binds Anywhere (λ xs. All (IsGood s.model) xs) (λ c. IsCall s.model c) (values s env args)
      (λ xs. call_by s.model name.place is_before c.source.expr c.op xs (are_plain args)) (values_good s range env f args)
      (λ xs k. call_by_good s.model name.place is_before c.source.expr c.op xs (are_plain args) h.0.0 h.1 k)

  called_at_good : (place : Place) (c : Callee) → IsCallee s.model c → (l : Layer) → Comes Anywhere (λ c. IsCall s.model c) (called_at s env place c l)
  called_at_good place c h (Written-F.Dot source name is_before (Some args)) = call_with_good name is_before args c h
  called_at_good place c h (Written-F.Named name None is_before (Some args)) = call_with_good name is_before args c h
  called_at_good place c h l = tt

  pub called_good : (e : Written) (c : Callee) → IsCallee s.model c → Comes Anywhere (λ c. IsCall s.model c) (called s env e c)
  unfolding called
  called_good e c h = called_at_good (first_place e) c h (out-Written e)
