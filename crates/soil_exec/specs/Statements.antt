-- Statements (SOIL): one definition for each form. All expressions of a statement are evaluated before its changes, from left to right.
use Rattle.std.specs.Prelude.{ℕ, zero, suc, Bool, true, false, if◌then◌else◌, List, Option, Some, Ok, replicate, unwrap_or}
use Rattle.use_text.specs.declared.place.Place.{Place}
use Rattle.class_model.specs.Parts.{class_name}
use Rattle.ocl_values.specs.declared.value.Value.{Value}
use Rattle.ocl_values.specs.declared.value.Value.TheVariants.{Null, Obj}
use Rattle.ocl_core.specs.declared.expression.Expr.{Expr}
use Rattle.ocl_core.specs.declared.program.ProgramParts.{ProgramParts}
use Rattle.ocl_core.specs.declared.statement.Act.{Act, out-Act}
use Rattle.ocl_core.specs.declared.statement.Act.TheOpen.{Act-F}
use Rattle.ocl_core.specs.declared.statement.Stmt.{Stmt, out-Stmt}
use Rattle.ocl_core.specs.declared.statement.Target.{Target}
use Rattle.soil_changes.specs.Acts.{◌>>=◌, ◌>>◌, each, nothing, pure}
use Rattle.soil_changes.specs.Creating as creating
use Rattle.soil_changes.specs.Joining as joining
use Rattle.soil_changes.specs.Destroying as destroying
use Rattle.soil_exec.specs.Calls.{call}
use Rattle.soil_exec.specs.Machine.{Execution, breaks_b, changing, count, push, scoped}
use Rattle.soil_exec.specs.Targets.{check_holder_if, holder, holder_if, put, put_if}
use Rattle.soil_exec.specs.Values.{collection, condition, value, value_if, values}

abbrev pub Layer : Type 0
Layer = Act-F Act Stmt

-- the number that the next object gets
abbrev pub next_object : Execution ℕ
next_object m = (Ok m.progress.state.next_object, m)

-- variables that hold null
abbrev pub declare : ℕ → Execution (Unit {0})
declare n = each push (replicate n Null)

module _ (p : ProgramParts) where
  abbrev pub new : Place → ℕ → Option Expr → Option Target → Execution (Unit {0})
  new at class name target = do
    object ← holder_if p at target
    given ← value_if p at name
    _ ← check_holder_if at target object
    o ← next_object
    _ ← changing at (creating.create_new class (class_name p.model class) given)
    put_if at target object (Obj o)

  abbrev pub create : Place → List (List ℕ) → ℕ → Execution (Unit {0})
  create at names class = changing at (creating.create_all class names)

  abbrev pub destroy : Place → List Expr → Execution (Unit {0})
  destroy at es = do
    vs ← values p at es
    changing at (destroying.destroy_all vs)

  abbrev pub insert : Place → ℕ → Expr → Expr → Execution (Unit {0})
  insert at assoc first second = do
    v ← value p at first
    w ← value p at second
    changing at (joining.insert assoc v w)

  abbrev pub delete : Place → ℕ → Expr → Expr → Execution (Unit {0})
  delete at assoc first second = do
    v ← value p at first
    w ← value p at second
    changing at (joining.delete assoc v w)

  abbrev pub assign : Place → Target → Expr → Execution (Unit {0})
  assign at target e = do
    object ← holder p at target
    v ← value p at e
    put at target object v

  -- by what carries a block out one level deeper
  module _ (inside : Place → List Stmt → Execution (Unit {0})) where
    abbrev pub branch : Place → Expr → List Stmt → List Stmt → Execution (Unit {0})
    branch at test one other = do
      holds ← condition p at test
      inside at (if holds then one else other)

    -- each turn counts one
    abbrev pub turn : Place → List Stmt → Value → Execution (Unit {0})
    turn at body v = count at >> scoped (push v >> inside at body)

    abbrev pub for_each : Place → Expr → List Stmt → Execution (Unit {0})
    for_each at e body = do
      vs ← collection p at e
      each (turn at body) vs

    -- the body of a `while`, and it goes on; each further test counts one
    abbrev pub again : Place → List Stmt → Execution Bool
    again at body = inside at body >> count at >> pure true

    -- one round, and whether it goes on
    abbrev pub round : Place → Expr → List Stmt → Execution Bool
    round at test body = do
      holds ← condition p at test
      if holds then again at body else pure false

    -- at most so many rounds
    abbrev pub rounds : Place → Expr → List Stmt → ℕ → Execution (Unit {0})
    rounds at test body zero = breaks_b 2 at
    rounds at test body (suc n) = do
      more ← round at test body
      if more then rounds at test body n else nothing

    -- there are no more rounds than statements may still begin, and one

    abbrev pub while_true : Place → Expr → List Stmt → Execution (Unit {0})
    while_true at test body m = rounds at test body (suc m.left) m

    -- and what carries out the body of an operation that is called
    module _ (called : Place → List Stmt → Execution (Unit {0})) where
      unfoldable pub act : Place → Layer → Execution (Unit {0})
      act at (Act-F.New class name target) = new at class name target
      act at (Act-F.Create names class) = create at names class
      act at (Act-F.Destroy es) = destroy at es
      act at (Act-F.Insert assoc first second) = insert at assoc first second
      act at (Act-F.Delete assoc first second) = delete at assoc first second
      act at (Act-F.Assign target e) = assign at target e
      act at (Act-F.Call receiver op args target) = call p called at receiver op args target
      act at (Act-F.If test one other) = branch at test one other
      act at (Act-F.For e body) = for_each at e body
      act at (Act-F.While test body) = while_true at test body
      act at (Act-F.Declare n) = declare n

      -- all that is told of the statements of a called operation is told of the call
      module _ (told : Option Place) where
        abbrev place_of : Stmt → Place
        place_of s = unwrap_or told (out-Stmt s).place

        -- a statement counts one when it begins: B2 stands at the statement around it, if there is one
        abbrev pub statement : Option Place → Stmt → Execution (Unit {0})
        statement outer s = count (unwrap_or outer (place_of s)) >> act (place_of s) (out-Act (out-Stmt s).act)

        abbrev pub block : Option Place → List Stmt → Execution (Unit {0})
        block outer body = each (statement outer) body

  -- a block in the statement at a place, where so many levels may still be entered: B3 where there is none
  unfoldable pub within : ℕ → Option Place → Place → List Stmt → Execution (Unit {0})
  within zero told at body = breaks_b 3 at
  within (suc n) told at body = scoped (block (within n told) (λ at. within n (Some at) at) told (Some at) body)
