-- What each act on a transaction keeps, executions of a model's statements keep: what only adds changes, and variables whose types are the model's.
use Rattle.std.proofs.Common.{ℕ, ◌+◌, All, refl, zero, suc, Bool, true, false, List, [], ◌∷◌, ◌++◌, length, Option, Some, None, Ok, Err}
use Rattle.std.specs.Prelude.{◌-◌, if◌then◌else◌, nat_eq, replicate, unwrap_or}
use Rattle.std.specs.Option.{ForSome}
use Rattle.std.proofs.lemmas.List.Elements.{All-head, All-nil, All-tail}
use Rattle.use_text.specs.declared.code.Code.{Code}
use Rattle.use_text.specs.declared.code.Family.TheVariants.{C}
use Rattle.use_text.specs.declared.place.Place.{Place}
use Rattle.use_text.specs.Codes.{code_of}
use Rattle.use_text.specs.Refusals.{refusal_at}
use Rattle.soil_exec.specs.declared.fault.ExecFault.{ExecFault}
use Rattle.soil_exec.specs.declared.fault.ExecFault.TheVariants.{Broken}
use Rattle.class_model.specs.InRange.{IsTypeOf}
use Rattle.class_model.specs.Parts.{class_name, op_result}
use Rattle.class_model.specs.declared.object_model.ObjectModel.{ObjectModel}
use Rattle.class_model.specs.declared.types.OclType.{OclType}
use Rattle.ocl_program.specs.Bodies.{ActIsOf, IsBodyOf, IsStatementOf, IsStatementTo, TargetIsOf, soil_of}
use Rattle.ocl_values.specs.declared.value.Value.{Value}
use Rattle.ocl_values.specs.declared.value.Value.TheVariants.{Null, Obj}
use Rattle.ocl_core.specs.declared.expression.Expr.{Expr}
use Rattle.ocl_core.specs.declared.program.OpBody.{OpBody}
use Rattle.ocl_core.specs.declared.program.OpBody.TheVariants as body
use Rattle.ocl_core.specs.declared.program.ProgramParts.{ProgramParts}
use Rattle.ocl_core.specs.declared.statement.Act.{out-Act}
use Rattle.ocl_core.specs.declared.statement.Act.TheOpen.{Act-F}
use Rattle.ocl_core.specs.declared.statement.Stmt.{Stmt, out-Stmt}
use Rattle.ocl_core.specs.declared.statement.Target.{Target}
use Rattle.ocl_core.specs.declared.statement.Target.TheVariants.{Local, Shell, Attr}
use Rattle.ocl_eval.specs.declared.outcome.Outcome as told
use Rattle.ocl_eval.specs.declared.outcome.Outcome.TheVariants.{Done, Exhausted}
use Rattle.ocl_eval.specs.Evaluation.{eval}
use Rattle.ocl_eval.specs.Evaluations as evaluations
use Rattle.entry_states.specs.declared.frame.Call.{Call}
use Rattle.entry_states.specs.Frames.{left, opened}
use Rattle.contract_frames.specs.Holding.{is_true, judged}
use Rattle.contract_frames.specs.Judging.{bound_before, picture, post_units, posts, pre_units, pres}
use Rattle.soil_changes.specs.Acts.{Outcome, ◌>>=◌, ◌>>◌, each, nothing, pure, refuse, then_act}
use Rattle.soil_changes.specs.Creating as creating
use Rattle.soil_changes.specs.Joining as joining
use Rattle.soil_changes.specs.Destroying as destroying
use Rattle.soil_changes.specs.Progress.{Changing, Progress, diagram_of}
use Rattle.soil_changes.specs.Storing.{holder_of, refuse_unless_stored, set_slot, set_variable}
use Rattle.soil_exec.specs.Calls.{body_of, call, call_of, called_on, check_stored, check_stored_if, chosen, framed, given_by, hold, holds, local_at, posts_hold, pres_hold, query, query_value, result_start, statements, statements_value}
use Rattle.soil_exec.specs.Exec.{outermost}
use Rattle.soil_exec.specs.Machine.{Execution, Machine, apart, breaks_b, changing, count, environment, leave, or_breaks_x, placed, push, scoped, with_frames}
use Rattle.soil_exec.specs.Statements.{Layer, act, again, assign, block, branch, destroy, for_each, new, next_object, round, rounds, statement, turn, within}
use Rattle.soil_exec.specs.Targets.{check_attr, check_holder, check_holder_if, holder, holder_if, put, put_if, put_local, set_local}
use Rattle.soil_exec.specs.Values.{as_elements, as_truth, collection, condition, scene, value, value_if, valued, values, values_behind}
use Rattle.soil_changes.specs.Adding.{Adds}
use Rattle.soil_changes.proofs.Adding.{adds_both, adds_none, all_add, delete_adds, destroyed_add, holder_adds, insert_adds, new_adds, slot_adds, stored_adds, variable_adds}
use Rattle.soil_exec.proofs.Bodied.{HasBodies, soil_there}
use Rattle.soil_exec.proofs.Framed.{framed_adds}
use Rattle.soil_exec.proofs.Rounds.{block_within}
use Rattle.soil_exec.proofs.Binding.{KeepsTypes, all_keep, delete_keeps, destroyed_keep, holder_keeps, insert_keeps, new_keeps, slot_keeps, stored_keeps, variable_keeps}

-- what stands between a transaction and what an act leaves of it
abbrev Leaves : (Progress → Progress → Type 0) → {A : Type 0} → Changing A → Type 0
Leaves R act = (p : Progress) → R p (act p).1

-- that stands after each act, where variables get types of the model
record IsLeft (model : ObjectModel) (R : Progress → Progress → Type 0) : Type 0 where
  none : (p : Progress) → R p p
  both : (p q r : Progress) → R p q → R q r → R p r
  stored : (v : Value) → Leaves R (refuse_unless_stored v)
  held : (v : Value) (a : ℕ) → Leaves R (holder_of v a)
  slot : (target : Value) (a : ℕ) (v : Value) → Leaves R (set_slot target a v)
  variable : (name : List ℕ) (t : OclType) (v : Value) → IsTypeOf model t → Leaves R (set_variable name t v)
  created : (class : ℕ) (names : List (List ℕ)) → Leaves R (creating.create_all class names)
  one : (class : ℕ) (word : List ℕ) (given : Option Value) → Leaves R (creating.create_new class word given)
  inserted : (a : ℕ) (v w : Value) → Leaves R (joining.insert a v w)
  deleted : (a : ℕ) (v w : Value) → Leaves R (joining.delete a v w)
  destroyed : (vs : List Value) → Leaves R (destroying.destroy_all vs)
  framed : (k : Call) (p q : Progress) → R (record p { frames = opened k ∷ p.frames }) q → R p (record q { frames = left q.frames })

-- what holds of statements down to each depth
module _ (model : ObjectModel) where
  all_of : (xs : List Stmt) → ((n : ℕ) → All (IsStatementTo model n) xs) → IsBodyOf model xs
  all_of xs h k d l = record { holds = λ n. h n k d l }

module _ (model : ObjectModel) (R : Progress → Progress → Type 0) (is : IsLeft model R) where
  abbrev Stays : {A : Type 0} → Execution A → Type 0
  Stays e = (m : Machine) → R m.progress (e m).1.progress

  then_stays : {A B : Type 0} (e : Execution A) (next : A → Execution B) → Stays e → ((a : A) → Stays (next a)) → Stays (e >>= next)
  then_stays {A = A} e next f g m = by (e m) (f m)
    where
      by : (o : Outcome Machine ExecFault A) → R m.progress o.1.progress → R m.progress (then_act o next).1.progress
      by (Ok a, n) h = is.both m.progress n.progress (next a n).1.progress h (g a n)
      by (Err r, n) h = h

  each_stays : {A : Type 0} (f : A → Execution (Unit {0})) (xs : List A) → ((x : A) → Stays (f x)) → Stays (each f xs)
  each_stays f [] h m = is.none m.progress
  each_stays f (x ∷ xs) h m = then_stays (f x) (λ u. each f xs) (h x) (λ u. each_stays f xs h) m

  each_of : {A : Type 0} (P : A → Type 0) (f : A → Execution (Unit {0})) → ((x : A) → P x → Stays (f x)) → (xs : List A) → All P xs → Stays (each f xs)
  each_of P f k [] a m = is.none m.progress
  each_of P f k (x ∷ xs) a m = then_stays (f x) (λ u. each f xs) (k x (All-head P x xs a)) (λ u. each_of P f k xs (All-tail P x xs a)) m

  changing_stays : {A : Type 0} (at : Place) (a : Changing A) → Leaves R a → Stays (changing at a)
  changing_stays {A = A} at a h m = by (a m.progress) (h m.progress)
    where
      by : (o : Outcome Progress Code A) → R m.progress o.1 → R m.progress (placed at m o).1.progress
      by (Ok x, p) h = h
      by (Err code, p) h = h

  or_stays : {A : Type 0} (u : Option A) (n : ℕ) (at : Place) → Stays (or_breaks_x u n at)
  or_stays (Some a) n at m = is.none m.progress
  or_stays None n at m = is.none m.progress

  count_stays : (at : Place) → Stays (count at)
  count_stays at m = by (nat_eq m.left 0)
    where
      by : (b : Bool) → R m.progress (if b then breaks_b {A = Unit {0}} 2 at m else (Ok tt, record m { left = m.left - 1 })).1.progress
      by true = is.none m.progress
      by false = is.none m.progress

  push_stays : (v : Value) → Stays (push v)
  push_stays v m = is.none m.progress

  scoped_stays : (e : Execution (Unit {0})) → Stays e → Stays (scoped e)
  scoped_stays e h m = then_stays e (λ u. leave (length m.locals)) h (λ u n. is.none n.progress) m

  local_stays : (at : Place) (n : ℕ) (v : Value) → Stays (put_local at n v)
  local_stays at n v = then_stays (changing at (refuse_unless_stored v)) (λ u. set_local n v) (changing_stays at (refuse_unless_stored v) (is.stored v)) (λ u m.
      is.none m.progress)

  attr_stays : (at : Place) (a : ℕ) (object : Value) → Stays (check_attr at a object)
  attr_stays at a object = changing_stays at (holder_of object a >> nothing) (λ p. by p (holder_of object a p) (is.held object a p))
    where
      by : (p : Progress) (o : Outcome Progress Code ℕ) → R p o.1 → R p (then_act o (λ x. nothing)).1
      by p (Ok x, q) h = h
      by p (Err e, q) h = h

  check_stays : (at : Place) (target : Target) (object : Value) → Stays (check_holder at target object)
  check_stays at (Local n) object m = is.none m.progress
  check_stays at (Shell name t) object m = is.none m.progress
  check_stays at (Attr e a) object m = attr_stays at a object m

  check_if_stays : (at : Place) (target : Option Target) (object : Value) → Stays (check_holder_if at target object)
  check_if_stays at None object m = is.none m.progress
  check_if_stays at (Some target) object m = check_stays at target object m

  put_stays : (at : Place) (target : Target) (object v : Value) → TargetIsOf model target → Stays (put at target object v)
  put_stays at (Local n) object v t m = local_stays at n v m
  put_stays at (Shell name type) object v t m = changing_stays at (set_variable name type v) (is.variable name type v t) m
  put_stays at (Attr e a) object v t m = changing_stays at (set_slot object a v) (is.slot object a v) m

  put_if_stays : (at : Place) (target : Option Target) (object v : Value) → ForSome target (TargetIsOf model) → Stays (put_if at target object v)
  put_if_stays at None object v t m = is.none m.progress
  put_if_stays at (Some target) object v t m = put_stays at target object v (t target refl) m

  module _ (p : ProgramParts) where
    value_stays : (at : Place) (e : Expr) → Stays (value p at e)
    value_stays at e m = by (eval (scene p m) (environment m) e)
      where
        by : (o : evaluations.Outcome Value) → R m.progress (valued at m o).1.progress
        by (Some v, meter) = is.none m.progress
        by (None, meter) = is.none m.progress

    values_stay : (at : Place) (vs : List Value) (es : List Expr) → Stays (values_behind p at vs es)
    values_stay at vs [] m = is.none m.progress
    values_stay at vs (e ∷ es) m = then_stays (value p at e) (λ v. values_behind p at (vs ++ v ∷ []) es) (value_stays at e) (λ v. values_stay at (vs ++ v
        ∷ []) es) m

    value_if_stays : (at : Place) (e : Option Expr) → Stays (value_if p at e)
    value_if_stays at None m = is.none m.progress
    value_if_stays at (Some e) m = then_stays (value p at e) (λ v. pure (Some v)) (value_stays at e) (λ v n. is.none n.progress) m

    condition_stays : (at : Place) (e : Expr) → Stays (condition p at e)
    condition_stays at e = then_stays (value p at e) (λ v. or_breaks_x (as_truth v) 10 at) (value_stays at e) (λ v. or_stays (as_truth v) 10 at)

    collection_stays : (at : Place) (e : Expr) → Stays (collection p at e)
    collection_stays at e = then_stays (value p at e) (λ v. or_breaks_x (as_elements v) 11 at) (value_stays at e) (λ v. or_stays (as_elements v) 11 at)

    holder_stays : (at : Place) (target : Target) → Stays (holder p at target)
    holder_stays at (Local n) m = is.none m.progress
    holder_stays at (Shell name t) m = is.none m.progress
    holder_stays at (Attr e a) m = value_stays at e m

    holder_if_stays : (at : Place) (target : Option Target) → Stays (holder_if p at target)
    holder_if_stays at None m = is.none m.progress
    holder_if_stays at (Some target) m = holder_stays at target m

    new_stays : (at : Place) (class : ℕ) (name : Option Expr) (target : Option Target) → ForSome target (TargetIsOf model) → Stays (new p at class name target)
    new_stays at class name target t =
        then_stays (holder_if p at target) (λ object. value_if p at name >>= rest object) (holder_if_stays at target) (λ object.
        then_stays (value_if p at name) (rest object) (value_if_stays at name) (rest_stays object))
      where
        make : Value → ℕ → Option Value → Execution (Unit {0})
        make object o given = changing at (creating.create_new class (class_name p.model class) given) >>= (λ u. put_if at target object (Obj o))

        rest : Value → Option Value → Execution (Unit {0})
        rest object given = check_holder_if at target object >>= (λ u. next_object >>= (λ o. make object o given))

        make_stays : (object : Value) (o : ℕ) (given : Option Value) → Stays (make object o given)
        make_stays object o given =
            then_stays (changing at (creating.create_new class (class_name p.model class) given)) (λ u. put_if at target object (Obj o))
            (changing_stays at (creating.create_new class (class_name p.model class) given) (is.one class (class_name p.model class) given)) (λ u.
            put_if_stays at target object (Obj o) t)

        rest_stays : (object : Value) (given : Option Value) → Stays (rest object given)
        rest_stays object given =
            then_stays (check_holder_if at target object) (λ u. next_object >>= (λ o. make object o given)) (check_if_stays at target object) (λ u.
            then_stays next_object (λ o. make object o given) (λ m. is.none m.progress) (λ o. make_stays object o given))

    two_stay : (at : Place) (first second : Expr) (a : Value → Value → Changing (Unit {0})) → ((v w : Value) → Leaves R (a v w))
        → Stays (value p at first >>= λ v. value p at second >>= λ w. changing at (a v w))
    two_stay at first second a h =
        then_stays (value p at first) _ (value_stays at first) (λ v.
        then_stays (value p at second) _ (value_stays at second) (λ w. changing_stays at (a v w) (h v w)))

    destroy_stays : (at : Place) (es : List Expr) → Stays (destroy p at es)
    destroy_stays at es = then_stays (values p at es) (λ vs. changing at (destroying.destroy_all vs)) (values_stay at [] es)
        (λ vs. changing_stays at (destroying.destroy_all vs) (is.destroyed vs))

    assign_stays : (at : Place) (target : Target) (e : Expr) → TargetIsOf model target → Stays (assign p at target e)
    assign_stays at target e t =
        then_stays (holder p at target) _ (holder_stays at target) (λ object.
        then_stays (value p at e) _ (value_stays at e) (λ v. put_stays at target object v t))

    -- contracts, and the frame of a call
    holds_stays : (at : Place) (number : ℕ) (o : ℕ × told.Outcome) → Stays (holds at number o)
    holds_stays at number (n, Done v) m = by (is_true v)
      where
        by : (b : Bool) → R m.progress ((if b then nothing else refuse (Broken (refusal_at (code_of C number) at) n (judged v))) m).1.progress
        by true = is.none m.progress
        by false = is.none m.progress
    holds_stays at number (n, Exhausted) m = is.none m.progress

    hold_stays : (at : Place) (number : ℕ) (os : List (ℕ × told.Outcome)) (units : ℕ) → Stays (hold at number os units)
    hold_stays at number os units m = each_stays (holds at number) os (holds_stays at number) (record m { steps = m.steps + units })

    posts_stay : (at : Place) (k : Call) (entry : Machine) (given : Value) → Stays (posts_hold p at k entry given)
    posts_stay at k entry given m =
        let d = diagram_of m.progress in
        let pre = picture (diagram_of entry.progress) in
        hold_stays at 2 (posts p d k pre given) (post_units p d k pre given) m

    framed_stays : (at : Place) (k : Call) (act : Execution Value) → Stays act → Stays (framed p at k act)
    framed_stays at k act h m =
        let inner = with_frames (opened k ∷ m.progress.frames) m in
        let ended = act >>= (λ given. posts_hold p at k m given >> pure given) in
        is.framed k m.progress (ended inner).1.progress
        (then_stays act (λ given. posts_hold p at k m given >> pure given) h (λ given.
        then_stays (posts_hold p at k m given) (λ u. pure given) (posts_stay at k m given) (λ u n. is.none n.progress)) inner)

    apart_stays : (vs : List Value) (act : Execution Value) → Stays act → Stays (apart vs act)
    apart_stays vs act h m = h (record m { shell = []; locals = vs })

    stored_if_stays : (at : Place) (t : Option OclType) (v : Value) → Stays (check_stored_if at t v)
    stored_if_stays at None v m = is.none m.progress
    stored_if_stays at (Some t) v m = changing_stays at (refuse_unless_stored v) (is.stored v) m

    call_of_stays : (at : Place) (op : ℕ) (v : Value) (vs : List Value) → Stays (call_of p at op v vs)
    call_of_stays at op v vs =
        then_stays (called_on p at op v) (λ c. each (check_stored at) vs >>= (λ _. pure (record { op = c.1; receiver = c.0; args = vs })))
        (λ m. or_stays (chosen p.model m.progress.state op v) 5 at m) (λ c.
        then_stays (each (check_stored at) vs) (λ _. pure (record { op = c.1; receiver = c.0; args = vs }))
        (each_stays (check_stored at) vs (λ w. changing_stays at (refuse_unless_stored w) (is.stored w))) (λ u n. is.none n.progress))

    module _ (called : Place → List Stmt → Execution (Unit {0})) (all : (at : Place) (body : List Stmt) → IsBodyOf model body → Stays (called at body)) where
      query_value_stays : (at : Place) (e : Expr) → Stays (query_value p called at e)
      query_value_stays at e = then_stays (called at []) (λ u. value p at e) (all at [] (All-nil (IsStatementOf model))) (λ u. value_stays at e)

      query_stays : (at : Place) (t : Option OclType) (vs : List Value) (e : Expr) → Stays (query p called at t vs e)
      query_stays at t vs e =
          then_stays (apart vs (query_value p called at e)) (λ v. check_stored_if at t v >> pure v) (apart_stays vs (query_value p called at e) (query_value_stays at e))
          (λ v. then_stays (check_stored_if at t v) (λ u. pure v) (stored_if_stays at t v) (λ u n. is.none n.progress))

      statements_value_stays : (at : Place) (n : ℕ) (b : List Stmt) → IsBodyOf model b → Stays (statements_value p called at n b)
      statements_value_stays at n b k = then_stays (called at b) (λ u. local_at n) (all at b k) (λ u m. is.none m.progress)

      statements_stay : (at : Place) (n : ℕ) (vs : List Value) (b : List Stmt) → IsBodyOf model b → Stays (statements p called at n vs b)
      statements_stay at n vs b k = apart_stays vs (statements_value p called at n b) (statements_value_stays at n b k)

      given_stays : (at : Place) (k : Call) (b : OpBody) → ForSome (soil_of b) (IsBodyOf model) → Stays (given_by p called at k b)
      given_stays at k body.None h m = is.none m.progress
      given_stays at k (body.Query e) h m =
          framed_stays at k (query p called at (op_result p.model k.op) (bound_before k) e) (query_stays at (op_result p.model k.op) (bound_before k) e) m
      given_stays at k (body.Soil b) h m =
          framed_stays at k (statements p called at (length k.args + 1) (bound_before k ++ result_start (op_result p.model k.op)) b)
          (statements_stay at (length k.args + 1) (bound_before k ++ result_start (op_result p.model k.op)) b (h b refl)) m

      call_stays : All (λ b. ForSome (soil_of b) (IsBodyOf model)) p.bodies → (at : Place) (receiver : Expr) (op : ℕ) (args : List Expr) (target : Option Target)
          → ForSome target (TargetIsOf model) → Stays (call p called at receiver op args target)
      call_stays bodies at receiver op args target t =
          then_stays (holder_if p at target) _ (holder_if_stays at target) (λ object.
          then_stays (value p at receiver) _ (value_stays at receiver) (λ v.
          then_stays (values p at args) _ (values_stay at [] args) (λ vs.
          then_stays (check_holder_if at target object) _ (check_if_stays at target object) (λ u.
          then_stays (call_of p at op v vs) _ (call_of_stays at op v vs) (λ k.
          then_stays (pres_hold p at k) _ (λ m. hold_stays at 1 (pres p (diagram_of m.progress) k) (pre_units p (diagram_of m.progress) k) m) (λ w.
          then_stays (given_by p called at k (body_of p k)) (λ given. put_if at target object given)
          (given_stays at k (body_of p k) (soil_there (IsBodyOf model) p.bodies k.op bodies))
          (λ given. put_if_stays at target object given t)))))))

    module _ (inside : Place → List Stmt → Execution (Unit {0})) (all : (at : Place) (body : List Stmt) → IsBodyOf model body → Stays (inside at body)) where
      turn_stays : (at : Place) (body : List Stmt) → IsBodyOf model body → (v : Value) → Stays (turn p inside at body v)
      turn_stays at body k v = then_stays (count at) (λ u. scoped (push v >> inside at body)) (count_stays at)
          (λ u. scoped_stays (push v >> inside at body) (then_stays (push v) (λ u. inside at body) (push_stays v) (λ u. all at body k)))

      branch_stays : (at : Place) (test : Expr) (one other : List Stmt) → IsBodyOf model one → IsBodyOf model other → Stays (branch p inside at test one other)
      branch_stays at test one other k l = then_stays (condition p at test) (λ b. inside at (if b then one else other)) (condition_stays at test) by
        where
          by : (b : Bool) → Stays (inside at (if b then one else other))
          by true = all at one k
          by false = all at other l

      for_stays : (at : Place) (e : Expr) (body : List Stmt) → IsBodyOf model body → Stays (for_each p inside at e body)
      for_stays at e body k = then_stays (collection p at e) _ (collection_stays at e) (λ vs. each_stays (turn p inside at body) vs (turn_stays at body k))

      round_stays : (at : Place) (test : Expr) (body : List Stmt) → IsBodyOf model body → Stays (round p inside at test body)
      round_stays at test body k = then_stays (condition p at test) (λ holds. if holds then again p inside at body else pure false) (condition_stays at test) by
        where
          by : (b : Bool) → Stays (if b then again p inside at body else pure false)
          by true m = then_stays (inside at body >> count at) (λ u. pure true) (then_stays (inside at body) (λ u. count at) (all at body k) (λ u. count_stays at))
              (λ u m. is.none m.progress) m
          by false m = is.none m.progress

      more_stays : (at : Place) (test : Expr) (body : List Stmt) → IsBodyOf model body → (n : ℕ) → Stays (rounds p inside at test body n) → Stays (rounds p inside at test body (suc n))
      more_stays at test body k n h = then_stays (round p inside at test body) (λ more. if more then rounds p inside at test body n else nothing) (round_stays at test body k) by
        where
          by : (b : Bool) → Stays (if b then rounds p inside at test body n else nothing)
          by true m = h m
          by false m = is.none m.progress

      rounds_stay : (at : Place) (test : Expr) (body : List Stmt) → IsBodyOf model body → (n : ℕ) → Stays (rounds p inside at test body n)
      rounds_stay at test body k zero m = is.none m.progress
      rounds_stay at test body k (suc n) m = more_stays at test body k n (rounds_stay at test body k n) m

    module _ (inside : Place → List Stmt → Execution (Unit {0})) (all : (at : Place) (body : List Stmt) → IsBodyOf model body → Stays (inside at body))
        (called : Place → List Stmt → Execution (Unit {0})) (every : (at : Place) (body : List Stmt) → IsBodyOf model body → Stays (called at body))
        (bodies : All (λ b. ForSome (soil_of b) (IsBodyOf model)) p.bodies) where
      act_stays : (at : Place) (a : Layer) → ((n : ℕ) → ActIsOf model (IsStatementTo model n) a) → Stays (act p inside called at a)
      unfolding act
      act_stays at (Act-F.New class name target) h m = new_stays at class name target (h 0).2 m
      act_stays at (Act-F.Create names class) h m = changing_stays at (creating.create_all class names) (is.created class names) m
      act_stays at (Act-F.Destroy es) h m = destroy_stays at es m
      act_stays at (Act-F.Insert assoc first second) h m = two_stay at first second (joining.insert assoc) (is.inserted assoc) m
      act_stays at (Act-F.Delete assoc first second) h m = two_stay at first second (joining.delete assoc) (is.deleted assoc) m
      act_stays at (Act-F.Assign target e) h m = assign_stays at target e (h 0).0 m
      act_stays at (Act-F.Call receiver op args target) h m = call_stays called every bodies at receiver op args target (h 0).3 m
      act_stays at (Act-F.If test one other) h m = branch_stays inside all at test one other (all_of model one (λ n. (h n).1)) (all_of model other (λ n. (h n).2)) m
      act_stays at (Act-F.For e body) h m = for_stays inside all at e body (all_of model body (λ n. (h n).1)) m
      act_stays at (Act-F.While test body) h m = rounds_stay inside all at test body (all_of model body (λ n. (h n).1)) (suc m.left) m
      act_stays at (Act-F.Declare n) h m = each_stays push (replicate n Null) push_stays m

      statement_stays : (told outer : Option Place) (s : Stmt) → IsStatementOf model s → Stays (statement p inside called told outer s)
      statement_stays told outer s k =
          let at = unwrap_or told (out-Stmt s).place in
          then_stays (count (unwrap_or outer at)) (λ u. act p inside called at (out-Act (out-Stmt s).act)) (count_stays (unwrap_or outer at))
          (λ u. act_stays at (out-Act (out-Stmt s).act) (λ n. k.holds (suc n)))

      block_stays : (told outer : Option Place) (body : List Stmt) → IsBodyOf model body → Stays (block p inside called told outer body)
      block_stays told outer body k = each_of (IsStatementOf model) (statement p inside called told outer) (statement_stays told outer) body k

    module _ (bodies : All (λ b. ForSome (soil_of b) (IsBodyOf model)) p.bodies) where
      within_stays : (n : ℕ) (told : Option Place) (at : Place) (body : List Stmt) → IsBodyOf model body → Stays (within p n told at body)
      unfolding within
      within_stays zero told at body k m = is.none m.progress
      within_stays (suc n) told at body k m =
          scoped_stays (block_within p n told (Some at) body)
          (block_stays (within p n told) (within_stays n told) (λ at. within p n (Some at) at) (λ at. within_stays n (Some at) at) bodies told (Some at) body k) m

      -- the outermost block, and the bodies of operations that are called
      exec_stays : (n : ℕ) (body : List Stmt) → IsBodyOf model body → Stays (block_within p n None None body)
      exec_stays n body k =
          block_stays (within p n None) (within_stays n None) (λ at. within p n (Some at) at) (λ at. within_stays n (Some at) at) bodies None None body k

      called_stays : (n : ℕ) (at : Place) (body : List Stmt) → IsBodyOf model body → Stays (within p n (Some at) at body)
      called_stays n at body k = within_stays n (Some at) at body k

-- what adds changes, and keeps the types of variables
only_adds : (m : ObjectModel) → IsLeft m Adds
only_adds m = record {
  none = adds_none;
  both = adds_both;
  stored = stored_adds;
  held = holder_adds;
  slot = slot_adds;
  variable = λ name t v h. variable_adds name t v;
  created = all_add;
  one = new_adds;
  inserted = insert_adds;
  deleted = delete_adds;
  destroyed = destroyed_add;
  framed = framed_adds;
}

module _ (p : ProgramParts) (bodies : HasBodies p) where
  pub exec_adds : (body : List Stmt) → IsBodyOf p.model body → (m : Machine) → Adds m.progress (outermost p body m).1.progress
  exec_adds = exec_stays p.model Adds (only_adds p.model) p bodies 63

  pub query_adds : (n : ℕ) (at : Place) (e : Expr) (m : Machine) → Adds m.progress (query_value p (λ at. within p n (Some at) at) at e m).1.progress
  query_adds n = query_value_stays p.model Adds (only_adds p.model) p (λ at. within p n (Some at) at) (called_stays p.model Adds (only_adds p.model) p bodies n)

  pub statements_add : (n : ℕ) (at : Place) (k : ℕ) (b : List Stmt) → IsBodyOf p.model b → (m : Machine)
      → Adds m.progress (statements_value p (λ at. within p n (Some at) at) at k b m).1.progress
  statements_add n = statements_value_stays p.model Adds (only_adds p.model) p (λ at. within p n (Some at) at)
      (called_stays p.model Adds (only_adds p.model) p bodies n)

  pub exec_keeps : (body : List Stmt) → IsBodyOf p.model body → (m : Machine) → KeepsTypes p.model m.progress (outermost p body m).1.progress
  exec_keeps = exec_stays p.model (KeepsTypes p.model) (record {
    none = λ q h. h;
    both = λ q r s f g h. g (f h);
    stored = stored_keeps p.model;
    held = holder_keeps p.model;
    slot = slot_keeps p.model;
    variable = variable_keeps p.model;
    created = all_keep p.model;
    one = new_keeps p.model;
    inserted = insert_keeps p.model;
    deleted = delete_keeps p.model;
    destroyed = destroyed_keep p.model;
    framed = λ k q r h. h;
  }) p bodies 63
