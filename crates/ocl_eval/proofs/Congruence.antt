-- Two evaluations that go alike in each step go alike as a whole: any relation that single steps keep is kept by every node.
use Rattle.std.proofs.Common.{ℕ, Bool, true, false, ◌&&◌, not, cond, nat_lt, is_some, length, List, [], ◌∷◌, ◌++◌, Option, Some, None}
use Rattle.ocl_values.specs.Shape.{canon, size_of}
use Rattle.ocl_values.specs.declared.value.Kind.{Kind}
use Rattle.ocl_values.specs.declared.value.Kind.TheVariants.{Set}
use Rattle.ocl_values.specs.declared.value.Value.{Value, items-the_row-Value}
use Rattle.ocl_values.specs.declared.value.Value.TheVariants as V
use Rattle.ocl_values.specs.declared.value.Value.TheVariants.{Null, Invalid, Obj, Coll'}
use Rattle.ocl_collections.specs.Operations.{coll_op_value}
use Rattle.ocl_collections.specs.declared.op.CollOp.{CollOp}
use Rattle.class_model.specs.declared.numbers.End.{End}
use Rattle.class_model.specs.declared.types.OclType.{OclType}
use Rattle.class_model.specs.declared.types.OclType.TheVariants as T
use Rattle.object_state.specs.declared.cell.Cell.{Cell}
use Rattle.object_state.specs.declared.cell.Cell.TheVariants as cell
use Rattle.object_state.specs.declared.cell.Look.{Look}
use Rattle.ocl_core.specs.declared.expression.Expr.{Expr, out-Expr}
use Rattle.ocl_core.specs.declared.expression.Expr.TheOpen.{Expr-F, Part-F}
use Rattle.ocl_core.specs.declared.expression.Part.{Part, out-Part}
use Rattle.ocl_core.specs.declared.operators.BinaryOp.{BinaryOp}
use Rattle.ocl_core.specs.declared.operators.IterOp.{IterOp}
use Rattle.ocl_core.specs.declared.operators.PlainOp.{PlainOp}
use Rattle.ocl_core.specs.declared.operators.TypeTest.{TypeTest}
use Rattle.ocl_core.specs.declared.operators.UnaryOp.{UnaryOp}
use Rattle.ocl_core.specs.declared.operators.When.{When}
use Rattle.ocl_core.specs.declared.operators.When.TheVariants.{Now, Pre}
use Rattle.ocl_core.specs.declared.program.ProgramParts.{ProgramParts}
use Rattle.ocl_core.specs.Trees.{Layer, PartLayer}
use Rattle.ocl_operations.specs.Iterators.{bindings, ends_walk, iterator_value, may_have, wants_start}
use Rattle.ocl_operations.specs.Navigation.{navigated}
use Rattle.ocl_operations.specs.Operators.{binary_value, decided, plain_value, unary_value}
use Rattle.ocl_operations.specs.Sources.{as_source}
use Rattle.ocl_operations.specs.Types.{plain_tested, tested}
use Rattle.ocl_eval.specs.declared.parts.Made.{Made}
use Rattle.ocl_eval.specs.declared.walks.Visited.{Visited}
use Rattle.ocl_eval.specs.Evaluations.{Evaluation, ◌>>=◌, pay, pure, spend, walk}
use Rattle.ocl_eval.specs.Nodes as N
use Rattle.ocl_eval.specs.Scenes.{Scene, derived_body, look, query_called, scene_of, within}

module _ (p : ProgramParts) (now pre now' pre' : Cell → Look)
    (R : (A : Type 0) → Evaluation A → Evaluation A → Type 0)
    (pures : (A : Type 0) (a : A) → R A (pure a) (pure a))
    (binds : (A B : Type 0) (x x' : Evaluation A) (f f' : A → Evaluation B) → R A x x' → ((a : A) → R B (f a) (f' a)) → R B (x >>= f) (x' >>= f'))
    (spends : (n : ℕ) → R (Unit {0}) (spend n) (spend n))
    (ranges : (before : Made) (x y : Value) → R Made (N.add_range before x y) (N.add_range before x y))
    (looks : (when : When) (c : Cell) → R Look (look (scene_of p now pre) when c) (look (scene_of p now' pre') when c)) where
  abbrev s : Scene
  s = scene_of p now pre

  abbrev s' : Scene
  s' = scene_of p now' pre'

  pays : (v : Value) → R _ (pay v) (pay v)
  pays v = binds _ _ (spend (size_of v)) (spend (size_of v)) (λ _. pure v) (λ _. pure v) (spends (size_of v)) (λ _. pures _ v)

  chosen : {A : Type 0} (b : Bool) (x x' y y' : Evaluation A) → R _ x x' → R _ y y' → R _ (cond b x y) (cond b x' y')
  chosen true x x' y y' h g = h
  chosen false x x' y y' h g = g

  walks : {S A : Type 0} (stops : S → Bool) (step step' : S → A → Evaluation S) → ((t : S) (a : A) → R _ (step t a) (step' t a)) → (t : S) (xs : List A) →
      R _ (walk stops step t xs) (walk stops step' t xs)
  walks stops step step' h t [] = pures _ t
  walks stops step step' h t (x ∷ xs) =
      chosen (stops t) (pure t) (pure t) (step t x >>= (λ u. walk stops step u xs)) (step' t x >>= (λ u. walk stops step' u xs)) (pures _ t)
      (binds _ _ (step t x) (step' t x) (λ u. walk stops step u xs) (λ u. walk stops step' u xs) (h t x) (λ u. walks stops step step' h u xs))

  -- ---- nodes whose parts alone tell their value

  module _ (e e' : List Value → Expr → Evaluation Value) (h : (env : List Value) (x : Expr) → R _ (e env x) (e' env x)) (env : List Value) where
    unary_alike : (op : UnaryOp) (a : Expr) → R _ (N.unary e env op a) (N.unary e' env op a)
    unfolding N.unary
    unary_alike op a = binds _ _ (e env a) (e' env a) (λ x. pay (unary_value op x)) (λ x. pay (unary_value op x)) (h env a) (λ x. pays (unary_value op x))

    right_alike : (op : BinaryOp) (x : Value) (b : Expr) (o : Option Value) → R _ (N.right e env op x b o) (N.right e' env op x b o)
    right_alike op x b (Some v) = pays v
    right_alike op x b None =
        binds _ _ (e env b) (e' env b) (λ y. pay (binary_value op x y)) (λ y. pay (binary_value op x y)) (h env b) (λ y. pays (binary_value op x y))

    binary_alike : (op : BinaryOp) (a b : Expr) → R _ (N.binary e env op a b) (N.binary e' env op a b)
    unfolding N.binary
    binary_alike op a b =
        binds _ _ (e env a) (e' env a) (λ x. N.right e env op x b (decided op x)) (λ x. N.right e' env op x b (decided op x)) (h env a)
        (λ x. right_alike op x b (decided op x))

    paid_alike : (a : Expr) → R _ (N.paid e env a) (N.paid e' env a)
    paid_alike a = binds _ _ (e env a) (e' env a) pay pay (h env a) pays

    branch_alike : (v : Value) (a b : Expr) → R _ (N.branch e env v a b) (N.branch e' env v a b)
    branch_alike (V.Bool true) a b = paid_alike a
    branch_alike (V.Bool false) a b = paid_alike b
    branch_alike Null a b = pays Invalid
    branch_alike Invalid a b = pays Invalid
    branch_alike (V.Int i) a b = pays Invalid
    branch_alike (V.Str t) a b = pays Invalid
    branch_alike (V.Enum n l) a b = pays Invalid
    branch_alike (Obj o) a b = pays Invalid
    branch_alike (Coll' kind shape row) a b = pays Invalid

    choice_alike : (c a b : Expr) → R _ (N.choice e env c a b) (N.choice e' env c a b)
    unfolding N.choice
    choice_alike c a b =
        binds _ _ (e env c) (e' env c) (λ x. N.branch e env x a b) (λ x. N.branch e' env x a b) (h env c) (λ x. branch_alike x a b)

    bind_alike : (a b : Expr) → R _ (N.bind e env a b) (N.bind e' env a b)
    unfolding N.bind
    bind_alike a b =
        binds _ _ (e env a) (e' env a) (λ x. e (env ++ x ∷ []) b >>= pay) (λ x. e' (env ++ x ∷ []) b >>= pay) (h env a)
        (λ x. binds _ _ (e (env ++ x ∷ []) b) (e' (env ++ x ∷ []) b) pay pay (h (env ++ x ∷ []) b) pays)

    values_alike : (done : List Value) (all : List Expr) → R _ (N.values e env done all) (N.values e' env done all)
    unfolding N.values
    values_alike done all =
        walks N.never (N.add_value e env) (N.add_value e' env)
        (λ before a. binds _ _ (e env a) (e' env a) (λ x. pure (before ++ x ∷ [])) (λ x. pure (before ++ x ∷ [])) (h env a) (λ x. pures _ (before ++ x ∷ [])))
        done all

    operation_alike : (apply : Value → List Value → Value) (all : List Expr) → R _ (N.operation e env apply all) (N.operation e' env apply all)
    operation_alike apply [] = pays Invalid
    operation_alike apply (a ∷ args) =
        binds _ _ (e env a) (e' env a) (λ x. N.values e env [] args >>= (λ xs. pay (apply x xs))) (λ x. N.values e' env [] args >>= (λ xs. pay (apply x xs)))
        (h env a)
        (λ x. binds _ _ (N.values e env [] args) (N.values e' env [] args) (λ xs. pay (apply x xs)) (λ xs. pay (apply x xs)) (values_alike [] args)
        (λ xs. pays (apply x xs)))

    plain_alike : (op : PlainOp) (all : List Expr) → R _ (N.plain e env op all) (N.plain e' env op all)
    unfolding N.plain
    plain_alike op all = operation_alike (plain_value op) all

    collection_alike : (op : CollOp) (all : List Expr) → R _ (N.collection e env op all) (N.collection e' env op all)
    unfolding N.collection
    collection_alike op all = operation_alike (λ x xs. coll_op_value op (as_source x) xs) all

    to_set_alike : (a : Expr) → R _ (N.to_set e env a) (N.to_set e' env a)
    unfolding N.to_set
    to_set_alike a = binds _ _ (e env a) (e' env a) (λ x. pay (as_source x)) (λ x. pay (as_source x)) (h env a) (λ x. pays (as_source x))

    -- ---- written collections

    one_part : (before : Made) (l : PartLayer) → R _ (N.add_layer e env before l) (N.add_layer e' env before l)
    one_part before (Part-F.One a) =
        binds _ _ (e env a) (e' env a) (λ x. pure (record before { items = before.items ++ x ∷ [] })) (λ x. pure (record before { items = before.items ++ x ∷ [] }))
        (h env a) (λ x. pures _ (record before { items = before.items ++ x ∷ [] }))
    one_part before (Part-F.Range a b) =
        binds _ _ (e env a) (e' env a) (λ x. e env b >>= (λ y. N.add_range before x y)) (λ x. e' env b >>= (λ y. N.add_range before x y)) (h env a)
        (λ x. binds _ _ (e env b) (e' env b) (λ y. N.add_range before x y) (λ y. N.add_range before x y) (h env b) (λ y. ranges before x y))

    part_alike : (before : Made) (a : Part) → R _ (N.add_part e env before a) (N.add_part e' env before a)
    unfolding N.add_part
    part_alike before a = one_part before (out-Part a)

    parts_alike : (before : Made) (all : List Part) → R _ (N.parts e env before all) (N.parts e' env before all)
    unfolding N.parts
    parts_alike before all = walks N.never (N.add_part e env) (N.add_part e' env) part_alike before all

    make_alike : (kind : Kind) (all : List Part) → R _ (N.make e env kind all) (N.make e' env kind all)
    unfolding N.make
    make_alike kind all =
        binds _ _ (N.parts e env N.nothing_made all) (N.parts e' env N.nothing_made all) (λ made. pay (cond (made.is_valid) (canon kind made.items) Invalid))
        (λ made. pay (cond (made.is_valid) (canon kind made.items) Invalid)) (parts_alike N.nothing_made all)
        (λ made. pays (cond (made.is_valid) (canon kind made.items) Invalid))

    -- ---- iterators

    visit_alike : (op : IterOp) (body : Expr) (before : Visited) (bound : List Value) → R _ (N.visit e env op body before bound) (N.visit e' env op body before bound)
    visit_alike op body before bound =
        binds _ _ (e (env ++ bound) body) (e' (env ++ bound) body) (λ x. pure (record { values = before.values ++ x ∷ []; ended = ends_walk op x }))
        (λ x. pure (record { values = before.values ++ x ∷ []; ended = ends_walk op x })) (h (env ++ bound) body)
        (λ x. pures _ (record { values = before.values ++ x ∷ []; ended = ends_walk op x }))

    visits_alike : (op : IterOp) (body : Expr) (before : Visited) (all : List (List Value)) → R _ (N.visits e env op body before all) (N.visits e' env op body before all)
    unfolding N.visits
    visits_alike op body before all = walks N.has_ended (N.visit e env op body) (N.visit e' env op body) (visit_alike op body) before all

    iterate_alike : (body : Expr) (acc : Value) (xs : List Value) → R _ (N.iterate e env body acc xs) (N.iterate e' env body acc xs)
    unfolding N.iterate
    iterate_alike body acc xs =
        walks N.never (N.iterate_step e env body) (N.iterate_step e' env body) (λ before x. h (env ++ x ∷ before ∷ []) body) acc xs

    gathered_alike : (op : IterOp) (n : ℕ) (body : Expr) (kind : Kind) (xs : List Value) →
        R _ (N.gathered e env op n body kind xs) (N.gathered e' env op n body kind xs)
    unfolding N.gathered
    gathered_alike op n body kind xs =
        binds _ _ (N.visits e env op body N.unvisited (bindings n xs)) (N.visits e' env op body N.unvisited (bindings n xs))
        (λ seen. pure (iterator_value op kind xs seen.values)) (λ seen. pure (iterator_value op kind xs seen.values))
        (visits_alike op body N.unvisited (bindings n xs)) (λ seen. pures _ (iterator_value op kind xs seen.values))

    over_alike : (op : IterOp) (n : ℕ) (start : Option Value) (body : Expr) (kind : Kind) (xs : List Value) →
        R _ (N.over e env op n start body kind xs) (N.over e' env op n start body kind xs)
    over_alike op n (Some start) body kind xs =
        chosen (wants_start op && may_have op n) (N.iterate e env body start xs) (N.iterate e' env body start xs) (pure Invalid) (pure Invalid)
        (iterate_alike body start xs) (pures _ Invalid)
    over_alike op n None body kind xs =
        chosen (not (wants_start op) && may_have op n) (N.gathered e env op n body kind xs) (N.gathered e' env op n body kind xs) (pure Invalid) (pure Invalid)
        (gathered_alike op n body kind xs) (pures _ Invalid)

    source_alike : (op : IterOp) (n : ℕ) (start : Option Value) (body : Expr) (v : Value) →
        R _ (N.over_source e env op n start body v) (N.over_source e' env op n start body v)
    source_alike op n start body Null = pures _ Invalid
    source_alike op n start body Invalid = pures _ Invalid
    source_alike op n start body (V.Bool b) = pures _ Invalid
    source_alike op n start body (V.Int i) = pures _ Invalid
    source_alike op n start body (V.Str t) = pures _ Invalid
    source_alike op n start body (V.Enum k l) = pures _ Invalid
    source_alike op n start body (Obj o) = pures _ Invalid
    source_alike op n start body (Coll' kind shape row) = over_alike op n start body kind (items-the_row-Value _ row)

    maybe_alike : (o : Option Expr) → R _ (N.maybe e env o) (N.maybe e' env o)
    maybe_alike None = pures _ None
    maybe_alike (Some a) = binds _ _ (e env a) (e' env a) (λ x. pure (Some x)) (λ x. pure (Some x)) (h env a) (λ x. pures _ (Some x))

    iterator_alike : (op : IterOp) (source : Expr) (n : ℕ) (start : Option Expr) (body : Expr) →
        R _ (N.iterator e env op source n start body) (N.iterator e' env op source n start body)
    unfolding N.iterator
    iterator_alike op source n start body =
        binds _ _ (e env source) (e' env source)
        (λ x. N.maybe e env start >>= (λ first. N.over_source e env op n first body (as_source x) >>= (λ v. pay v)))
        (λ x. N.maybe e' env start >>= (λ first. N.over_source e' env op n first body (as_source x) >>= (λ v. pay v)))
        (h env source)
        (λ x. binds _ _ (N.maybe e env start) (N.maybe e' env start) (λ first. N.over_source e env op n first body (as_source x) >>= (λ v. pay v))
        (λ first. N.over_source e' env op n first body (as_source x) >>= (λ v. pay v)) (maybe_alike start)
        (λ first. binds _ _ (N.over_source e env op n first body (as_source x)) (N.over_source e' env op n first body (as_source x)) (λ v. pay v) (λ v. pay v)
        (source_alike op n first body (as_source x)) pays))

  -- ---- nodes that look at a state

  object_alike : (v : Value) (f f' : ℕ → Evaluation Value) → ((o : ℕ) → R _ (f o) (f' o)) → R _ (N.of_object v f) (N.of_object v f')
  object_alike Null f f' h = pures _ Invalid
  object_alike Invalid f f' h = pures _ Invalid
  object_alike (V.Bool b) f f' h = pures _ Invalid
  object_alike (V.Int i) f f' h = pures _ Invalid
  object_alike (V.Str t) f f' h = pures _ Invalid
  object_alike (V.Enum k l) f f' h = pures _ Invalid
  object_alike (Obj o) f f' h = h o
  object_alike (Coll' kind shape row) f f' h = pures _ Invalid

  with_alike : (o : Option ℕ) (f f' : ℕ → Evaluation Value) → ((c : ℕ) → R _ (f c) (f' c)) → R _ (N.with_class o f) (N.with_class o f')
  with_alike (Some c) f f' h = h c
  with_alike None f f' h = pures _ Invalid

  module _ (at : When) where
    class_alike : (when : When) (o : ℕ) → R _ (N.class_of s at when o) (N.class_of s' at when o)
    unfolding N.class_of
    class_alike when o =
        binds _ _ (look s (within at when) (cell.Kind o)) (look s' (within at when) (cell.Kind o)) (λ seen. pure (N.class_in seen)) (λ seen. pure (N.class_in seen))
        (looks (within at when) (cell.Kind o)) (λ seen. pures _ (N.class_in seen))

    slot_alike : (number : ℕ) (when : When) (o : ℕ) → R _ (N.slot s at number when o) (N.slot s' at number when o)
    unfolding N.slot
    slot_alike number when o =
        binds _ _ (look s (within at when) (cell.Slot o number)) (look s' (within at when) (cell.Slot o number))
        (λ seen. pure (cond (nat_lt number (length p.model.attrs)) (N.value_in seen) Invalid))
        (λ seen. pure (cond (nat_lt number (length p.model.attrs)) (N.value_in seen) Invalid)) (looks (within at when) (cell.Slot o number))
        (λ seen. pures _ (cond (nat_lt number (length p.model.attrs)) (N.value_in seen) Invalid))

    linked_alike : (assoc : ℕ) (end : End) (when : When) (o : ℕ) → R _ (N.linked s at assoc end when o) (N.linked s' at assoc end when o)
    unfolding N.linked
    linked_alike assoc end when o =
        binds _ _ (look s (within at when) (cell.Nav assoc end o)) (look s' (within at when) (cell.Nav assoc end o))
        (λ seen. pure (N.objects_in seen (navigated p.model assoc end))) (λ seen. pure (N.objects_in seen (navigated p.model assoc end)))
        (looks (within at when) (cell.Nav assoc end o)) (λ seen. pures _ (N.objects_in seen (navigated p.model assoc end)))

    instances_alike : (class : ℕ) (when : When) → R _ (N.instances s at class when) (N.instances s' at class when)
    unfolding N.instances
    instances_alike class when =
        binds _ _ (look s (within at when) (cell.Extent class)) (look s' (within at when) (cell.Extent class))
        (λ seen. pure (cond (nat_lt class (length p.model.classes)) (N.objects_in seen (canon Set)) Invalid))
        (λ seen. pure (cond (nat_lt class (length p.model.classes)) (N.objects_in seen (canon Set)) Invalid)) (looks (within at when) (cell.Extent class))
        (λ seen. pures _ (cond (nat_lt class (length p.model.classes)) (N.objects_in seen (canon Set)) Invalid))

    test_object_alike : (test : TypeTest) (t : OclType) (when : When) (o : ℕ) → R _ (N.test_object s at test t when o) (N.test_object s' at test t when o)
    unfolding N.test_object
    test_object_alike test t when o =
        binds _ _ (N.class_of s at when o) (N.class_of s' at when o)
        (λ class. N.with_class class (λ c. pure (tested p.model test t (Some (T.Class c)) (Obj o))))
        (λ class. N.with_class class (λ c. pure (tested p.model test t (Some (T.Class c)) (Obj o)))) (class_alike when o)
        (λ class. with_alike class (λ c. pure (tested p.model test t (Some (T.Class c)) (Obj o))) (λ c. pure (tested p.model test t (Some (T.Class c)) (Obj o)))
        (λ c. pures _ (tested p.model test t (Some (T.Class c)) (Obj o))))

    test_value_alike : (test : TypeTest) (t : OclType) (when : When) (v : Value) → R _ (N.test_value s at test t when v) (N.test_value s' at test t when v)
    test_value_alike test t when Null = pures _ (plain_tested p.model test t Null)
    test_value_alike test t when Invalid = pures _ (plain_tested p.model test t Invalid)
    test_value_alike test t when (V.Bool b) = pures _ (plain_tested p.model test t (V.Bool b))
    test_value_alike test t when (V.Int i) = pures _ (plain_tested p.model test t (V.Int i))
    test_value_alike test t when (V.Str x) = pures _ (plain_tested p.model test t (V.Str x))
    test_value_alike test t when (V.Enum k l) = pures _ (plain_tested p.model test t (V.Enum k l))
    test_value_alike test t when (Obj o) = test_object_alike test t when o
    test_value_alike test t when (Coll' kind shape row) = pures _ (plain_tested p.model test t (Coll' kind shape row))

    new_alike : (o : ℕ) → R _ (N.is_new s at o) (N.is_new s' at o)
    unfolding N.is_new
    new_alike o =
        binds _ _ (N.class_of s at Now o) (N.class_of s' at Now o)
        (λ class. N.class_of s at Pre o >>= (λ before. pure (V.Bool (is_some class && not (is_some before)))))
        (λ class. N.class_of s' at Pre o >>= (λ before. pure (V.Bool (is_some class && not (is_some before))))) (class_alike Now o)
        (λ class. binds _ _ (N.class_of s at Pre o) (N.class_of s' at Pre o) (λ before. pure (V.Bool (is_some class && not (is_some before))))
        (λ before. pure (V.Bool (is_some class && not (is_some before)))) (class_alike Pre o)
        (λ before. pures _ (V.Bool (is_some class && not (is_some before)))))

    module _ (e e' : When → List Value → Expr → Evaluation Value) (h : (when : When) (env : List Value) (x : Expr) → R _ (e when env x) (e' when env x)) where
      body_alike : (when : When) (env : List Value) (o : Option Expr) → R _ (N.body_value s e at when env o) (N.body_value s' e' at when env o)
      body_alike when env (Some x) = h when env x
      body_alike when env None = pures _ Invalid

      derived_alike : (number : ℕ) (when : When) (o : ℕ) → R _ (N.derived s e at number when o) (N.derived s' e' at number when o)
      unfolding N.derived
      derived_alike number when o =
          binds _ _ (N.class_of s at when o) (N.class_of s' at when o)
          (λ class. N.with_class class (λ c. N.body_value s e at (within at when) (Obj o ∷ []) (derived_body p number)))
          (λ class. N.with_class class (λ c. N.body_value s' e' at (within at when) (Obj o ∷ []) (derived_body p number))) (class_alike when o)
          (λ class. with_alike class (λ c. N.body_value s e at (within at when) (Obj o ∷ []) (derived_body p number))
          (λ c. N.body_value s' e' at (within at when) (Obj o ∷ []) (derived_body p number))
          (λ c. body_alike (within at when) (Obj o ∷ []) (derived_body p number)))

      query_alike : (op : ℕ) (args : List Value) (o : ℕ) → R _ (N.query s e at op args o) (N.query s' e' at op args o)
      unfolding N.query
      query_alike op args o =
          binds _ _ (N.class_of s at Now o) (N.class_of s' at Now o) (λ class. N.with_class class (λ c. N.body_value s e at at (Obj o ∷ args) (query_called p c op)))
          (λ class. N.with_class class (λ c. N.body_value s' e' at at (Obj o ∷ args) (query_called p c op))) (class_alike Now o)
          (λ class. with_alike class (λ c. N.body_value s e at at (Obj o ∷ args) (query_called p c op))
          (λ c. N.body_value s' e' at at (Obj o ∷ args) (query_called p c op)) (λ c. body_alike at (Obj o ∷ args) (query_called p c op)))

      -- ---- every node

      of_source : (env : List Value) (a : Expr) (f f' : ℕ → Evaluation Value) → ((o : ℕ) → R _ (f o) (f' o)) →
          R _ (e at env a >>= (λ x. N.of_object x f) >>= pay) (e' at env a >>= (λ x. N.of_object x f') >>= pay)
      of_source env a f f' g =
          binds _ _ (e at env a >>= (λ x. N.of_object x f)) (e' at env a >>= (λ x. N.of_object x f')) pay pay
          (binds _ _ (e at env a) (e' at env a) (λ x. N.of_object x f) (λ x. N.of_object x f') (h at env a) (λ x. object_alike x f f' g)) pays

      layer_alike : (env : List Value) (l : Layer) → R _ (N.layer s e at env l) (N.layer s' e' at env l)
      layer_alike env (Expr-F.Literal v) = pays v
      layer_alike env (Expr-F.Local n) = pays (N.entry_of env n)
      layer_alike env (Expr-F.Unary op a) = unary_alike (e at) (e' at) (h at) env op a
      layer_alike env (Expr-F.Binary op a b) = binary_alike (e at) (e' at) (h at) env op a b
      layer_alike env (Expr-F.If c a b) = choice_alike (e at) (e' at) (h at) env c a b
      layer_alike env (Expr-F.Let a b) = bind_alike (e at) (e' at) (h at) env a b
      layer_alike env (Expr-F.Make kind all) = make_alike (e at) (e' at) (h at) env kind all
      layer_alike env (Expr-F.Plain op all) = plain_alike (e at) (e' at) (h at) env op all
      layer_alike env (Expr-F.Coll op all) = collection_alike (e at) (e' at) (h at) env op all
      layer_alike env (Expr-F.Iter op source n start body) = iterator_alike (e at) (e' at) (h at) env op source n start body
      layer_alike env (Expr-F.Attr a number when) = of_source env a (N.slot s at number when) (N.slot s' at number when) (slot_alike number when)
      layer_alike env (Expr-F.Derived a number when) =
          of_source env a (N.derived s e at number when) (N.derived s' e' at number when) (derived_alike number when)
      layer_alike env (Expr-F.Nav a assoc end when) =
          of_source env a (N.linked s at assoc end when) (N.linked s' at assoc end when) (linked_alike assoc end when)
      layer_alike env (Expr-F.Extent class when) =
          binds _ _ (N.instances s at class when) (N.instances s' at class when) pay pay (instances_alike class when) pays
      layer_alike env (Expr-F.Query a op all) =
          binds _ _ (e at env a) (e' at env a)
          (λ x. N.values (e at) env [] all >>= (λ xs. N.of_object x (N.query s e at op xs) >>= (λ v. pay v)))
          (λ x. N.values (e' at) env [] all >>= (λ xs. N.of_object x (N.query s' e' at op xs) >>= (λ v. pay v))) (h at env a)
          (λ x. binds _ _ (N.values (e at) env [] all) (N.values (e' at) env [] all) (λ xs. N.of_object x (N.query s e at op xs) >>= (λ v. pay v))
          (λ xs. N.of_object x (N.query s' e' at op xs) >>= (λ v. pay v)) (values_alike (e at) (e' at) (h at) env [] all)
          (λ xs. binds _ _ (N.of_object x (N.query s e at op xs)) (N.of_object x (N.query s' e' at op xs)) (λ v. pay v) (λ v. pay v)
          (object_alike x (N.query s e at op xs) (N.query s' e' at op xs) (query_alike op xs)) pays))
      layer_alike env (Expr-F.Test test a t when) =
          binds _ _ (e at env a >>= N.test_value s at test t when) (e' at env a >>= N.test_value s' at test t when) pay pay
          (binds _ _ (e at env a) (e' at env a) (N.test_value s at test t when) (N.test_value s' at test t when) (h at env a) (test_value_alike test t when)) pays
      layer_alike env (Expr-F.IsNew a) = of_source env a (N.is_new s at) (N.is_new s' at) new_alike
      layer_alike env (Expr-F.ToSet a) = to_set_alike (e at) (e' at) (h at) env a

      pub node_alike : (env : List Value) (x : Expr) → R _ (N.node s e at env x) (N.node s' e' at env x)
      unfolding N.node
      node_alike env x = layer_alike env (out-Expr x)
