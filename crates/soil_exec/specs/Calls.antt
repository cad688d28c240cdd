-- Calls of operations (SOIL; OCL 2.3.1, 7.3.4): their contracts, and a body that is carried out in a frame of its own.
use Rattle.std.specs.Prelude.{ℕ, ◌+◌, if◌then◌else◌, List, [], ◌∷◌, ◌++◌, length, Option, Some, None, Ok, slice_get, unwrap_or}
use Rattle.std.specs.Option.{option_and_then}
use Rattle.use_text.specs.declared.code.Family.TheVariants.{C}
use Rattle.use_text.specs.declared.place.Place.{Place}
use Rattle.use_text.specs.Codes.{code_of}
use Rattle.use_text.specs.Refusals.{refusal_at}
use Rattle.class_model.specs.declared.object_model.ObjectModel.{ObjectModel}
use Rattle.class_model.specs.declared.types.OclType.{OclType}
use Rattle.class_model.specs.Features.{dispatch}
use Rattle.class_model.specs.Inheritance.{is_a}
use Rattle.class_model.specs.Parts.{op_class, op_result}
use Rattle.ocl_values.specs.declared.value.Value.{Value}
use Rattle.ocl_values.specs.declared.value.Value.TheVariants.{Null}
use Rattle.ocl_core.specs.declared.expression.Expr.{Expr}
use Rattle.ocl_core.specs.declared.program.OpBody.{OpBody}
use Rattle.ocl_core.specs.declared.program.OpBody.TheVariants as body
use Rattle.ocl_core.specs.declared.program.ProgramParts.{ProgramParts}
use Rattle.ocl_core.specs.declared.statement.Stmt.{Stmt}
use Rattle.ocl_core.specs.declared.statement.Target.{Target}
use Rattle.object_state.specs.declared.objects.Object.{Object}
use Rattle.object_state.specs.State.{State, object}
use Rattle.ocl_eval.specs.declared.outcome.Outcome.{Outcome}
use Rattle.ocl_eval.specs.declared.outcome.Outcome.TheVariants.{Done, Exhausted}
use Rattle.entry_states.specs.declared.frame.Call.{Call}
use Rattle.contract_frames.specs.Judging.{bound_before, picture, post_units, posts, pre_units, pres}
use Rattle.contract_frames.specs.Holding.{is_true, judged}
use Rattle.soil_changes.specs.Acts.{◌>>=◌, ◌>>◌, each, nothing, pure, refuse}
use Rattle.soil_changes.specs.Progress.{diagram_of}
use Rattle.soil_changes.specs.Storing.{as_object, refuse_unless_stored}
use Rattle.soil_exec.specs.declared.fault.ExecFault.TheVariants.{Broken}
use Rattle.soil_exec.specs.Machine.{Execution, Machine, apart, breaks_b, breaks_x, changing, in_frame, or_breaks_x}
use Rattle.soil_exec.specs.Targets.{check_holder_if, holder_if, put_if}
use Rattle.soil_exec.specs.Values.{value, values}

-- X12 where a value may not be stored
abbrev pub check_stored : Place → Value → Execution (Unit {0})
check_stored at v = changing at (refuse_unless_stored v)

-- the same of what an operation gives that has a result
abbrev pub check_stored_if : Place → Option OclType → Value → Execution (Unit {0})
check_stored_if at None v = nothing
check_stored_if at (Some t) v = check_stored at v

-- a contract is true, or why not is told: B1 where its budget is spent, else C1 of a precondition and C2 of a postcondition
abbrev pub holds : Place → ℕ → ℕ × Outcome → Execution (Unit {0})
holds at number (n, Done v) = if is_true v then nothing else refuse (Broken (refusal_at (code_of C number) at) n (judged v))
holds at number (n, Exhausted) = breaks_b 1 at

-- contracts are all true; all of them are evaluated, and the first that is not true is told
abbrev pub hold : Place → ℕ → List (ℕ × Outcome) → ℕ → Execution (Unit {0})
hold at number os units m = each (holds at number) os (record m { steps = m.steps + units })

-- what `result` holds before a body, and after it
abbrev pub result_start : Option OclType → List Value
result_start None = []
result_start (Some t) = Null ∷ []

abbrev pub local_at : ℕ → Execution Value
local_at n m = (Ok (unwrap_or (slice_get m.locals n) Null), m)

module _ (m : ObjectModel) where
  -- the live object that a value is, of a class that has the operation, with the operation that is chosen for its class
  abbrev pub chosen_for : ℕ → ℕ → Object → Option (ℕ × ℕ)
  chosen_for op o x = if is_a m x.class (op_class m op) then Some (o, dispatch m x.class op) else None

  abbrev pub chosen : State → ℕ → Value → Option (ℕ × ℕ)
  chosen s op v = option_and_then (λ o. option_and_then (chosen_for op o) (object s o)) (as_object v)

module _ (p : ProgramParts) where
  -- the call: X5 of the receiver, X12 of the arguments
  abbrev pub called_on : Place → ℕ → Value → Execution (ℕ × ℕ)
  called_on at op v m = or_breaks_x (chosen p.model m.progress.state op v) 5 at m

  abbrev pub call_of : Place → ℕ → Value → List Value → Execution Call
  call_of at op v vs = do
    c ← called_on at op v
    _ ← each (check_stored at) vs
    pure (record { op = c.1; receiver = c.0; args = vs })

  -- what a command calls that enters a call: its receiver and its arguments are evaluated first
  abbrev pub entering : Place → Expr → ℕ → List Expr → Execution Call
  entering at receiver op args = do
    v ← value p at receiver
    vs ← values p at args
    call_of at op v vs

  -- what a command gives that leaves a call: null, or the value of an expression, X12 where that may not be stored
  abbrev pub giving : Place → Option Expr → Execution Value
  giving at None = pure Null
  giving at (Some e) = do
    v ← value p at e
    _ ← check_stored at v
    pure v

  -- its preconditions in the present state, and its postconditions over that and the state at entry
  abbrev pub pres_hold : Place → Call → Execution (Unit {0})
  pres_hold at k m = let d = diagram_of m.progress in hold at 1 (pres p d k) (pre_units p d k) m

  abbrev pub posts_hold : Place → Call → Machine → Value → Execution (Unit {0})
  posts_hold at k entry given m =
      let d = diagram_of m.progress in
      let pre = picture (diagram_of entry.progress) in
      hold at 2 (posts p d k pre given) (post_units p d k pre given) m

  abbrev pub then_posts : Place → Call → Machine → Value → Execution Value
  then_posts at k entry given = posts_hold at k entry given >> pure given

  -- a body in the frame of its call, and the postconditions there
  abbrev pub framed : Place → Call → Execution Value → Execution Value
  framed at k act m = in_frame k (act >>= then_posts at k m) m

  abbrev pub body_of : Call → OpBody
  body_of k = unwrap_or (slice_get p.bodies k.op) body.None

  -- what carries a called body out, one level deeper
  module _ (called : Place → List Stmt → Execution (Unit {0})) where
    -- the value of a query, which is one level deeper as a body of statements is
    abbrev pub query_value : Place → Expr → Execution Value
    query_value at e = called at [] >> value p at e

    -- with what is bound for it: X12 where the operation has a result
    abbrev pub query : Place → Option OclType → List Value → Expr → Execution Value
    query at type bound e = apart bound (query_value at e) >>= (λ v. check_stored_if at type v >> pure v)

    -- what statements leave as `result`, at a place of what is bound for them
    abbrev pub statements_value : Place → ℕ → List Stmt → Execution Value
    statements_value at n b = called at b >> local_at n

    abbrev pub statements : Place → ℕ → List Value → List Stmt → Execution Value
    statements at n bound b = apart bound (statements_value at n b)

    -- X9: there is no body
    abbrev pub given_by : Place → Call → OpBody → Execution Value
    given_by at k body.None = breaks_x 9 at
    given_by at k (body.Query e) = framed at k (query at (op_result p.model k.op) (bound_before k) e)
    given_by at k (body.Soil b) = framed at k (statements at (length k.args + 1) (bound_before k ++ result_start (op_result p.model k.op)) b)

    -- all expressions come first, the target's object before the others; X5 of that, the call, its preconditions, its body and postconditions; and
    -- then what it gave is stored
    abbrev pub call : Place → Expr → ℕ → List Expr → Option Target → Execution (Unit {0})
    call at receiver op args target = do
      object ← holder_if p at target
      v ← value p at receiver
      vs ← values p at args
      _ ← check_holder_if at target object
      k ← call_of at op v vs
      _ ← pres_hold at k
      given ← given_by at k (body_of k)
      put_if at target object given
