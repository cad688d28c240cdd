-- What executions do depends neither on the units that were spent before, nor on the frames of open calls where those are not seen: one induction
-- for both. The units that they spend come on top.
use Rattle.std.proofs.Common.{◌≡◌, ℕ, ◌+◌, ◌-◌, ◌≤◌, zero, suc, Bool, true, false, if◌then◌else◌, List, [], ◌∷◌, ◌++◌, length, Option, Some, None, Ok, Err, refl, sym, ap, ◌∙◌, arith}
use Rattle.std.specs.Prelude.{nat_eq, replicate, unwrap_or}
use Rattle.use_text.specs.declared.code.Code.{Code}
use Rattle.use_text.specs.declared.code.Family.TheVariants.{C}
use Rattle.use_text.specs.declared.place.Place.{Place}
use Rattle.use_text.specs.Codes.{code_of}
use Rattle.use_text.specs.Refusals.{refusal_at}
use Rattle.soil_exec.specs.declared.fault.ExecFault.{ExecFault}
use Rattle.soil_exec.specs.declared.fault.ExecFault.TheVariants.{Broken}
use Rattle.class_model.specs.Parts.{class_name, op_result}
use Rattle.class_model.specs.declared.types.OclType.{OclType}
use Rattle.ocl_values.specs.declared.value.Value.{Value}
use Rattle.ocl_values.specs.declared.value.Value.TheVariants.{Null, Obj}
use Rattle.ocl_core.specs.declared.expression.Expr.{Expr}
use Rattle.ocl_core.specs.declared.program.OpBody.{OpBody}
use Rattle.ocl_core.specs.declared.program.OpBody.TheVariants as body
use Rattle.ocl_core.specs.declared.program.ProgramParts.{ProgramParts}
use Rattle.ocl_core.specs.declared.statement.Act.{out-Act}
use Rattle.ocl_core.specs.declared.statement.Act.TheOpen.{Act-F}
use Rattle.ocl_core.specs.declared.statement.Stmt.{Stmt, out-Stmt}
use Rattle.ocl_core.specs.declared.statement.Target.{Target}
use Rattle.ocl_core.specs.declared.statement.Target.TheVariants.{Local, Shell, Attr}
use Rattle.object_state.specs.Looks.{look}
use Rattle.entry_states.specs.declared.frame.Call.{Call}
use Rattle.entry_states.specs.declared.frame.Frame.{Frame}
use Rattle.entry_states.specs.Frames.{left, opened}
use Rattle.contract_frames.specs.Holding.{is_true, judged}
use Rattle.contract_frames.specs.Judging.{bound_before, picture, post_units, posts, pre_units, pres}
use Rattle.ocl_eval.specs.declared.outcome.Outcome as told
use Rattle.ocl_eval.specs.declared.outcome.Outcome.TheVariants.{Done, Exhausted}
use Rattle.ocl_eval.specs.Evaluation.{eval, max_units}
use Rattle.ocl_eval.specs.Evaluations as evaluations
use Rattle.ocl_eval.proofs.Spending.{leaves_at_most}
use Rattle.soil_changes.specs.Acts.{Outcome, ◌>>=◌, ◌>>◌, each, nothing, pure, refuse, then_act}
use Rattle.soil_changes.specs.Creating as creating
use Rattle.soil_changes.specs.Joining as joining
use Rattle.soil_changes.specs.Destroying as destroying
use Rattle.soil_changes.specs.Progress.{Changing, Progress, diagram_of}
use Rattle.soil_changes.specs.Storing.{holder_of, refuse_unless_stored, set_slot, set_variable}
use Rattle.soil_exec.specs.Calls.{body_of, call, call_of, called_on, check_stored, check_stored_if, chosen, framed, given_by, hold, holds, local_at, posts_hold, pres_hold, query, query_value, result_start, statements, statements_value, then_posts}
use Rattle.soil_exec.specs.Exec.{outermost}
use Rattle.soil_exec.specs.Machine.{Execution, Machine, apart, bound_again, breaks_b, breaks_x, changing, count, environment, frame_left, in_frame, leave, or_breaks_x, placed, push, scoped, with_frames}
use Rattle.soil_exec.specs.Statements.{Layer, act, again, block, new, next_object, round, rounds, statement, turn, within}
use Rattle.soil_exec.specs.Targets.{check_holder_if, holder, holder_if, put, put_if, set_local}
use Rattle.soil_exec.proofs.Rounds.{block_within}
use Rattle.soil_exec.specs.Values.{as_elements, as_truth, collection, condition, scene, value, value_if, valued, values, values_behind}

-- how much of the frames is seen: all of them, or none
module _ (view : List Frame → List Frame) where
  abbrev pub viewed : Progress → Progress
  viewed p = record p { frames = view p.frames }

  abbrev pub all_viewed : {A : Type 0} → Outcome Progress Code A → Outcome Progress Code A
  all_viewed o = (o.0, viewed o.1)

  -- an act sees no more
  abbrev pub SeesNoMore : {A : Type 0} → Changing A → Type 0
  SeesNoMore act = (p : Progress) → all_viewed (act (viewed p)) ≡ all_viewed (act p)

  -- calls are entered and left the same way in what is seen, and no act sees more
  pub record IsView : Type 0 where
    pub twice : (fs : List Frame) → view (view fs) ≡ view fs
    pub enters : (k : Call) (fs : List Frame) → view (opened k ∷ view fs) ≡ view (opened k ∷ fs)
    pub leaves : (fs : List Frame) → view (left (view fs)) ≡ view (left fs)
    pub stored : (v : Value) → SeesNoMore (refuse_unless_stored v)
    pub held : (v : Value) (a : ℕ) → SeesNoMore (holder_of v a)
    pub slot : (target : Value) (a : ℕ) (v : Value) → SeesNoMore (set_slot target a v)
    pub variable : (name : List ℕ) (t : OclType) (v : Value) → SeesNoMore (set_variable name t v)
    pub created : (class : ℕ) (names : List (List ℕ)) → SeesNoMore (creating.create_all class names)
    pub one : (class : ℕ) (word : List ℕ) (given : Option Value) → SeesNoMore (creating.create_new class word given)
    pub inserted : (a : ℕ) (v w : Value) → SeesNoMore (joining.insert a v w)
    pub deleted : (a : ℕ) (v w : Value) → SeesNoMore (joining.delete a v w)
    pub destroyed : (vs : List Value) → SeesNoMore (destroying.destroy_all vs)

-- with so many more units
abbrev pub later : ℕ → Machine → Machine
later k m = record m { steps = k + m.steps }

module _ (view : List Frame → List Frame) (is : IsView view) where
  -- with the frames as they are seen
  abbrev pub seen : Machine → Machine
  seen m = with_frames (view m.progress.frames) m

  abbrev pub all_seen : {A : Type 0} → Outcome Machine ExecFault A → Outcome Machine ExecFault A
  all_seen o = (o.0, seen o.1)

  -- and with more units
  abbrev pub moved : ℕ → Machine → Machine
  moved k m = seen (later k m)

  abbrev pub all_moved : {A : Type 0} → ℕ → Outcome Machine ExecFault A → Outcome Machine ExecFault A
  all_moved k o = (o.0, moved k o.1)

  abbrev pub Uniform : {A : Type 0} → Execution A → Type 0
  Uniform act = (k : ℕ) (m : Machine) → all_seen (act (moved k m)) ≡ all_moved k (act m)

  -- frames that are not seen do not matter
  pub as_seen : {A : Type 0} (act : Execution A) → Uniform act → (m : Machine) → all_seen (act (seen m)) ≡ all_seen (act m)
  as_seen {A = A} act h m = ap (λ (n : ℕ). all_seen (act (seen (record m { steps = n })))) (none m.steps) ∙ h 0 m ∙ sym (by (act m))
    where
      none : (n : ℕ) → n ≡ 0 + n
      none n = omega arith

      by : (o : Outcome Machine ExecFault A) → all_seen o ≡ all_moved 0 o
      by o = ap (λ (n : ℕ). (o.0, seen (record o.1 { steps = n }))) (none o.1.steps)

  still : {A : Type 0} (o : Outcome Machine ExecFault A) → all_seen (all_seen o) ≡ all_seen o
  still o = ap (λ (fs : List Frame). (o.0, with_frames fs o.1)) (is.twice o.1.progress.frames)

  pub plain : {A : Type 0} (act : Execution A) → ((k : ℕ) (m : Machine) → act (moved k m) ≡ all_moved k (act m)) → Uniform act
  plain {A = A} act h k m = ap (λ (o : Outcome Machine ExecFault A). all_seen o) (h k m) ∙ still ((act m).0, later k (act m).1)

  -- one after another
  goes_on : {A B : Type 0} (next : A → Execution B) → ((a : A) → Uniform (next a)) → (k : ℕ) (o : Outcome Machine ExecFault A)
      → all_seen (then_act (all_moved k o) next) ≡ all_moved k (then_act o next)
  goes_on next h k (Ok a, x) = h a k x
  goes_on next h k (Err e, x) = still (Err e, later k x)

  sees_on : {A B : Type 0} (next : A → Execution B) → ((a : A) → Uniform (next a)) → (o : Outcome Machine ExecFault A)
      → all_seen (then_act (all_seen o) next) ≡ all_seen (then_act o next)
  sees_on next h (Ok a, x) = as_seen (next a) (h a) x
  sees_on next h (Err e, x) = still (Err e, x)

  pub then_uniform : {A B : Type 0} (act : Execution A) (next : A → Execution B) → Uniform act → ((a : A) → Uniform (next a)) → Uniform (act >>= next)
  then_uniform {A = A} act next f h k m =
      sym (sees_on next h (act (moved k m))) ∙ ap (λ (o : Outcome Machine ExecFault A). all_seen (then_act o next)) (f k m) ∙ goes_on next h k (act m)

  both_uniform : {A B : Type 0} (act : Execution A) (other : Execution B) → Uniform act → Uniform other → Uniform (act >> other)
  both_uniform act other f h = then_uniform act (λ a. other) f (λ a. h)

  each_uniform : {A : Type 0} (f : A → Execution (Unit {0})) → ((a : A) → Uniform (f a)) → (xs : List A) → Uniform (each f xs)
  each_uniform f h [] = plain nothing (λ k m. refl)
  each_uniform f h (x ∷ xs) = both_uniform (f x) (each f xs) (h x) (each_uniform f h xs)

  if_uniform : {A : Type 0} (b : Bool) (one other : Execution A) → Uniform one → Uniform other → Uniform (if b then one else other)
  if_uniform true one other f g = f
  if_uniform false one other f g = g

  pub changing_uniform : {A : Type 0} (at : Place) (act : Changing A) → SeesNoMore view act → Uniform (changing at act)
  changing_uniform {A = A} at act h k m =
      here (act (viewed view m.progress)) ∙ ap (placed at (later k m)) (h m.progress) ∙ sym (there (act m.progress))
    where
      there : (o : Outcome Progress Code A) → all_moved k (placed at m o) ≡ placed at (later k m) (all_viewed view o)
      there (Ok a, p) = refl
      there (Err e, p) = refl

      here : (o : Outcome Progress Code A) → all_seen (placed at (moved k m) o) ≡ placed at (later k m) (all_viewed view o)
      here (Ok a, p) = refl
      here (Err e, p) = refl

  -- where what an act gives is let go
  emptied : {A : Type 0} (o : Outcome Progress Code A) → all_viewed view (then_act o (λ x. nothing)) ≡ then_act (all_viewed view o) (λ x. nothing)
  emptied (Ok a, p) = refl
  emptied (Err e, p) = refl

  or_uniform : {A : Type 0} (o : Option A) (n : ℕ) (at : Place) → Uniform (or_breaks_x o n at)
  or_uniform (Some a) n at = plain (pure a) (λ k m. refl)
  or_uniform {A = A} None n at = plain {A = A} (breaks_x n at) (λ k m. refl)

  count_uniform : (at : Place) → Uniform (count at)
  count_uniform at = plain (count at) (λ k m. by k m (nat_eq m.left 0))
    where
      by : (k : ℕ) (m : Machine) (b : Bool)
          → ◌≡◌ {A = Outcome Machine ExecFault (Unit {0})} (if b then breaks_b 2 at (moved k m) else (Ok tt, record (moved k m) { left = m.left - 1 }))
          (all_moved k (if b then breaks_b 2 at m else (Ok tt, record m { left = m.left - 1 })))
      by k m true = refl
      by k m false = refl

  scoped_uniform : (act : Execution (Unit {0})) → Uniform act → Uniform (scoped act)
  scoped_uniform act h k m = both_uniform act (leave (length m.locals)) h (plain (leave (length m.locals)) (λ k m. refl)) k m

  sum : (k n fuel : ℕ) → fuel ≤ max_units → k + n + max_units - fuel ≡ k + (n + max_units - fuel)
  sum k n fuel l = omega arith

  module _ (p : ProgramParts) where
    pub value_uniform : (at : Place) (e : Expr) → Uniform (value p at e)
    value_uniform at e = plain (value p at e) (λ k m.
        by k m (eval (scene p m) (environment m) e)
        (leaves_at_most p (look m.progress.layout m.progress.state) (look m.progress.layout m.progress.state) (environment m) e))
      where
        by : (k : ℕ) (m : Machine) (o : evaluations.Outcome Value) → o.1.fuel ≤ max_units → valued at (moved k m) o ≡ all_moved k (valued at m o)
        by k m (Some v, meter) l = ap (λ n. (Ok v, record (moved k m) { steps = n })) (sum k m.steps meter.fuel l)
        by k m (None, meter) l = ap (λ n. ((valued at m (None, meter)).0, record (moved k m) { steps = n })) (sum k m.steps meter.fuel l)

    pub values_uniform : (at : Place) (vs : List Value) (es : List Expr) → Uniform (values_behind p at vs es)
    values_uniform at vs [] = plain (pure vs) (λ k m. refl)
    values_uniform at vs (e ∷ es) =
        then_uniform (value p at e) (λ v. values_behind p at (vs ++ v ∷ []) es) (value_uniform at e) (λ v. values_uniform at (vs ++ v ∷ []) es)

    if_there : (at : Place) (o : Option Expr) → Uniform (value_if p at o)
    if_there at None = plain (pure None) (λ k m. refl)
    if_there at (Some e) = then_uniform (value p at e) (λ v. pure (Some v)) (value_uniform at e) (λ v. plain (pure (Some v)) (λ k m. refl))

    condition_uniform : (at : Place) (e : Expr) → Uniform (condition p at e)
    condition_uniform at e = then_uniform (value p at e) (λ v. or_breaks_x (as_truth v) 10 at) (value_uniform at e) (λ v. or_uniform (as_truth v) 10 at)

    collection_uniform : (at : Place) (e : Expr) → Uniform (collection p at e)
    collection_uniform at e = then_uniform (value p at e) (λ v. or_breaks_x (as_elements v) 11 at) (value_uniform at e) (λ v. or_uniform (as_elements v) 11 at)

    holder_uniform : (at : Place) (t : Target) → Uniform (holder p at t)
    holder_uniform at (Attr e a) = value_uniform at e
    holder_uniform at (Local n) = plain (pure Null) (λ k m. refl)
    holder_uniform at (Shell name t) = plain (pure Null) (λ k m. refl)

    holder_if_uniform : (at : Place) (t : Option Target) → Uniform (holder_if p at t)
    holder_if_uniform at None = plain (pure Null) (λ k m. refl)
    holder_if_uniform at (Some t) = holder_uniform at t

    check_uniform : (at : Place) (t : Option Target) (v : Value) → Uniform (check_holder_if at t v)
    check_uniform at None v = plain nothing (λ k m. refl)
    check_uniform at (Some (Attr e a)) v = changing_uniform at (holder_of v a >> nothing) (λ q.
        emptied (holder_of v a (viewed view q)) ∙ ap (λ (o : Outcome Progress Code ℕ). then_act o (λ x. nothing)) (is.held v a q) ∙ sym (emptied (holder_of v a q)))
    check_uniform at (Some (Local n)) v = plain nothing (λ k m. refl)
    check_uniform at (Some (Shell name t)) v = plain nothing (λ k m. refl)

    put_uniform : (at : Place) (t : Target) (o v : Value) → Uniform (put at t o v)
    put_uniform at (Local n) o v =
        both_uniform (changing at (refuse_unless_stored v)) (set_local n v)
        (changing_uniform at (refuse_unless_stored v) (is.stored v)) (plain (set_local n v) (λ k m. refl))
    put_uniform at (Shell name t) o v = changing_uniform at (set_variable name t v) (is.variable name t v)
    put_uniform at (Attr e a) o v = changing_uniform at (set_slot o a v) (is.slot o a v)

    put_if_uniform : (at : Place) (t : Option Target) (o v : Value) → Uniform (put_if at t o v)
    put_if_uniform at None o v = plain nothing (λ k m. refl)
    put_if_uniform at (Some t) o v = put_uniform at t o v

    new_uniform : (at : Place) (class : ℕ) (name : Option Expr) (target : Option Target) → Uniform (new p at class name target)
    new_uniform at class name target =
        then_uniform (holder_if p at target) (λ object. value_if p at name >>= (λ given. check_holder_if at target object >>= (λ _. next_object >>= (λ o.
        changing at (creating.create_new class (class_name p.model class) given) >>= (λ _. put_if at target object (Obj o))))))
        (holder_if_uniform at target) (λ object.
        then_uniform (value_if p at name) (λ given. check_holder_if at target object >>= (λ _. next_object >>= (λ o.
        changing at (creating.create_new class (class_name p.model class) given) >>= (λ _. put_if at target object (Obj o)))))
        (if_there at name) (λ given.
        then_uniform (check_holder_if at target object) (λ _. next_object >>= (λ o.
        changing at (creating.create_new class (class_name p.model class) given) >>= (λ _. put_if at target object (Obj o))))
        (check_uniform at target object) (λ u.
        then_uniform next_object (λ o.
        changing at (creating.create_new class (class_name p.model class) given) >>= (λ _. put_if at target object (Obj o)))
        (plain next_object (λ k m. refl)) (λ o.
        then_uniform (changing at (creating.create_new class (class_name p.model class) given)) (λ _. put_if at target object (Obj o))
        (changing_uniform at (creating.create_new class (class_name p.model class) given) (is.one class (class_name p.model class) given))
        (λ u. put_if_uniform at target object (Obj o))))))

    -- contracts, and the frame of a call
    holds_uniform : (at : Place) (number : ℕ) (o : ℕ × told.Outcome) → Uniform (holds at number o)
    holds_uniform at number (n, Done v) =
        if_uniform (is_true v) nothing (refuse broken) (plain nothing (λ k m. refl)) (plain (refuse broken) (λ k m. refl))
      where
        broken : ExecFault
        broken = Broken (refusal_at (code_of C number) at) n (judged v)
    holds_uniform at number (n, Exhausted) = plain {A = Unit {0}} (breaks_b 1 at) (λ k m. refl)

    hold_uniform : (at : Place) (number : ℕ) (os : List (ℕ × told.Outcome)) (units : ℕ) → Uniform (hold at number os units)
    hold_uniform at number os units k m =
        ap (λ n. all_seen (each (holds at number) os (record (moved k m) { steps = n }))) (more k m.steps units)
        ∙ each_uniform (holds at number) (holds_uniform at number) os k (record m { steps = m.steps + units })
      where
        more : (k n units : ℕ) → k + n + units ≡ k + (n + units)
        more k n units = omega arith

    posts_uniform : (at : Place) (c : Call) (entry : Machine) (given : Value) → Uniform (posts_hold p at c entry given)
    posts_uniform at c entry given k m =
        let d = diagram_of m.progress in
        let pre = picture (diagram_of entry.progress) in
        hold_uniform at 2 (posts p d c pre given) (post_units p d c pre given) k m

    -- what is seen behind the frame of a call
    left_seen : {A : Type 0} (o : Outcome Machine ExecFault A) → all_seen (frame_left (all_seen o)) ≡ all_seen (frame_left o)
    left_seen o = ap (λ (fs : List Frame). (o.0, with_frames fs o.1)) (is.leaves o.1.progress.frames)

    frame_uniform : {A : Type 0} (c : Call) (act : Execution A) → Uniform act → Uniform (in_frame c act)
    frame_uniform {A = A} c act h k m =
        sym (left_seen (act outer)) ∙ ap (λ (o : Outcome Machine ExecFault A). all_seen (frame_left o)) same ∙ left_seen ((act inner).0, later k (act inner).1)
      where
        outer : Machine
        outer = with_frames (opened c ∷ view m.progress.frames) (later k m)

        inner : Machine
        inner = with_frames (opened c ∷ m.progress.frames) m

        same : all_seen (act outer) ≡ all_moved k (act inner)
        same = sym (as_seen act h outer) ∙ ap (λ (fs : List Frame). all_seen (act (with_frames fs (later k m)))) (is.enters c m.progress.frames) ∙ h k inner

    framed_uniform : (at : Place) (c : Call) (act : Execution Value) → Uniform act → Uniform (framed p at c act)
    framed_uniform at c act h k m =
        frame_uniform c (act >>= then_posts p at c m) (then_uniform act (then_posts p at c m) h
        (λ given. then_uniform (posts_hold p at c m given) (λ u. pure given) (posts_uniform at c m given) (λ u. plain (pure given) (λ k m. refl)))) k m

    apart_uniform : (vs : List Value) (act : Execution Value) → Uniform act → Uniform (apart vs act)
    apart_uniform vs act h k m = ap (bound_again m) (h k (record m { shell = []; locals = vs }))

    stored_uniform : (at : Place) (t : Option OclType) (v : Value) → Uniform (check_stored_if at t v)
    stored_uniform at None v = plain nothing (λ k m. refl)
    stored_uniform at (Some t) v = changing_uniform at (refuse_unless_stored v) (is.stored v)

    pub call_of_uniform : (at : Place) (op : ℕ) (v : Value) (vs : List Value) → Uniform (call_of p at op v vs)
    call_of_uniform at op v vs =
        then_uniform (called_on p at op v) (λ c. each (check_stored at) vs >>= (λ _. pure (record { op = c.1; receiver = c.0; args = vs })))
        (λ k m. or_uniform (chosen p.model m.progress.state op v) 5 at k m) (λ c.
        then_uniform (each (check_stored at) vs) (λ _. pure (record { op = c.1; receiver = c.0; args = vs }))
        (each_uniform (check_stored at) (λ w. changing_uniform at (refuse_unless_stored w) (is.stored w)) vs) (λ u. plain (pure _) (λ k m. refl)))

    module _ (called : Place → List Stmt → Execution (Unit {0})) (h : (at : Place) (body : List Stmt) → Uniform (called at body)) where
      query_uniform : (at : Place) (t : Option OclType) (vs : List Value) (e : Expr) → Uniform (query p called at t vs e)
      query_uniform at t vs e =
          then_uniform (apart vs (query_value p called at e)) (λ v. check_stored_if at t v >> pure v)
          (apart_uniform vs (query_value p called at e) (both_uniform (called at []) (value p at e) (h at []) (value_uniform at e)))
          (λ v. both_uniform (check_stored_if at t v) (pure v) (stored_uniform at t v) (plain (pure v) (λ k m. refl)))

      statements_uniform : (at : Place) (n : ℕ) (vs : List Value) (b : List Stmt) → Uniform (statements p called at n vs b)
      statements_uniform at n vs b = apart_uniform vs (statements_value p called at n b)
          (both_uniform (called at b) (local_at n) (h at b) (plain (local_at n) (λ k m. refl)))

      given_uniform : (at : Place) (c : Call) (b : OpBody) → Uniform (given_by p called at c b)
      given_uniform at c body.None = plain {A = Value} (breaks_x 9 at) (λ k m. refl)
      given_uniform at c (body.Query e) =
          framed_uniform at c (query p called at (op_result p.model c.op) (bound_before c) e) (query_uniform at (op_result p.model c.op) (bound_before c) e)
      given_uniform at c (body.Soil b) =
          framed_uniform at c (statements p called at (length c.args + 1) (bound_before c ++ result_start (op_result p.model c.op)) b)
          (statements_uniform at (length c.args + 1) (bound_before c ++ result_start (op_result p.model c.op)) b)

      call_uniform : (at : Place) (receiver : Expr) (op : ℕ) (args : List Expr) (target : Option Target) → Uniform (call p called at receiver op args target)
      call_uniform at receiver op args target =
          then_uniform (holder_if p at target) _ (holder_if_uniform at target) (λ object.
          then_uniform (value p at receiver) _ (value_uniform at receiver) (λ v.
          then_uniform (values p at args) _ (values_uniform at [] args) (λ vs.
          then_uniform (check_holder_if at target object) _ (check_uniform at target object) (λ u.
          then_uniform (call_of p at op v vs) _ (call_of_uniform at op v vs) (λ c.
          then_uniform (pres_hold p at c) _ (λ k m. hold_uniform at 1 (pres p (diagram_of m.progress) c) (pre_units p (diagram_of m.progress) c) k m) (λ w.
          then_uniform (given_by p called at c (body_of p c)) (λ given. put_if at target object given) (given_uniform at c (body_of p c))
          (λ given. put_if_uniform at target object given)))))))

    module _ (inside : Place → List Stmt → Execution (Unit {0})) (h : (at : Place) (body : List Stmt) → Uniform (inside at body)) where
      turn_uniform : (at : Place) (body : List Stmt) (v : Value) → Uniform (turn p inside at body v)
      turn_uniform at body v =
          both_uniform (count at) (scoped (push v >> inside at body)) (count_uniform at)
          (scoped_uniform (push v >> inside at body) (both_uniform (push v) (inside at body) (plain (push v) (λ k m. refl)) (h at body)))

      again_uniform : (at : Place) (body : List Stmt) → Uniform (again p inside at body)
      again_uniform at body =
          both_uniform (inside at body >> count at) (pure true) (both_uniform (inside at body) (count at) (h at body) (count_uniform at))
          (plain (pure true) (λ k m. refl))

      round_uniform : (at : Place) (test : Expr) (body : List Stmt) → Uniform (round p inside at test body)
      round_uniform at test body =
          then_uniform (condition p at test) (λ holds. if holds then again p inside at body else pure false) (condition_uniform at test)
          (λ holds. if_uniform holds (again p inside at body) (pure false) (again_uniform at body) (plain (pure false) (λ k m. refl)))

      rounds_uniform : (at : Place) (test : Expr) (body : List Stmt) (n : ℕ) → Uniform (rounds p inside at test body n)
      rounds_uniform at test body zero = plain {A = Unit {0}} (breaks_b 2 at) (λ k m. refl)
      rounds_uniform at test body (suc n) =
          then_uniform (round p inside at test body) (λ more. if more then rounds p inside at test body n else nothing) (round_uniform at test body)
          (λ more. if_uniform more (rounds p inside at test body n) nothing (rounds_uniform at test body n) (plain nothing (λ k m. refl)))

    module _ (inside : Place → List Stmt → Execution (Unit {0})) (h : (at : Place) (body : List Stmt) → Uniform (inside at body))
        (called : Place → List Stmt → Execution (Unit {0})) (g : (at : Place) (body : List Stmt) → Uniform (called at body)) where
      act_uniform : (at : Place) (a : Layer) → Uniform (act p inside called at a)
      unfolding act
      act_uniform at (Act-F.New class name target) = new_uniform at class name target
      act_uniform at (Act-F.Create names class) = changing_uniform at (creating.create_all class names) (is.created class names)
      act_uniform at (Act-F.Destroy es) =
          then_uniform (values p at es) (λ vs. changing at (destroying.destroy_all vs)) (values_uniform at [] es)
          (λ vs. changing_uniform at (destroying.destroy_all vs) (is.destroyed vs))
      act_uniform at (Act-F.Insert assoc first second) =
          then_uniform (value p at first) (λ v. value p at second >>= (λ w. changing at (joining.insert assoc v w))) (value_uniform at first)
          (λ v. then_uniform (value p at second) (λ w. changing at (joining.insert assoc v w)) (value_uniform at second)
          (λ w. changing_uniform at (joining.insert assoc v w) (is.inserted assoc v w)))
      act_uniform at (Act-F.Delete assoc first second) =
          then_uniform (value p at first) (λ v. value p at second >>= (λ w. changing at (joining.delete assoc v w))) (value_uniform at first)
          (λ v. then_uniform (value p at second) (λ w. changing at (joining.delete assoc v w)) (value_uniform at second)
          (λ w. changing_uniform at (joining.delete assoc v w) (is.deleted assoc v w)))
      act_uniform at (Act-F.Assign target e) =
          then_uniform (holder p at target) (λ object. value p at e >>= (λ v. put at target object v)) (holder_uniform at target)
          (λ object. then_uniform (value p at e) (λ v. put at target object v) (value_uniform at e) (λ v. put_uniform at target object v))
      act_uniform at (Act-F.Call receiver op args target) = call_uniform called g at receiver op args target
      act_uniform at (Act-F.If test one other) =
          then_uniform (condition p at test) (λ holds. inside at (if holds then one else other)) (condition_uniform at test)
          (λ holds. h at (if holds then one else other))
      act_uniform at (Act-F.For e body) =
          then_uniform (collection p at e) (λ vs. each (turn p inside at body) vs) (collection_uniform at e)
          (λ vs. each_uniform (turn p inside at body) (turn_uniform inside h at body) vs)
      act_uniform at (Act-F.While test body) = λ k m. rounds_uniform inside h at test body (suc m.left) k m
      act_uniform at (Act-F.Declare n) = each_uniform push (λ v. plain (push v) (λ k m. refl)) (replicate n Null)

      block_uniform : (told outer : Option Place) (body : List Stmt) → Uniform (block p inside called told outer body)
      block_uniform told outer body =
          each_uniform (statement p inside called told outer)
          (λ s. let at = unwrap_or told (out-Stmt s).place in
          both_uniform (count (unwrap_or outer at)) (act p inside called at (out-Act (out-Stmt s).act)) (count_uniform (unwrap_or outer at))
          (act_uniform at (out-Act (out-Stmt s).act))) body

    within_uniform : (n : ℕ) (told : Option Place) (at : Place) (body : List Stmt) → Uniform (within p n told at body)
    unfolding within
    within_uniform zero told at body = plain {A = Unit {0}} (breaks_b 3 at) (λ k m. refl)
    within_uniform (suc n) told at body =
        scoped_uniform (block_within p n told (Some at) body)
        (block_uniform (within p n told) (within_uniform n told) (λ at. within p n (Some at) at) (λ at. within_uniform n (Some at) at) told (Some at) body)

    -- the whole list of statements
    pub outermost_uniform : (body : List Stmt) → Uniform (outermost p body)
    outermost_uniform = block_uniform (within p 63 None) (within_uniform 63 None) (λ at. within p 63 (Some at) at) (λ at. within_uniform 63 (Some at) at) None None
