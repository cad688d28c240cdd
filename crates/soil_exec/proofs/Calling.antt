-- The parts of a call of an operation, from its end.
use Rattle.std.proofs.Common.{ℕ, List, Option}
use Rattle.use_text.specs.declared.place.Place.{Place}
use Rattle.ocl_values.specs.declared.value.Value.{Value}
use Rattle.ocl_core.specs.declared.expression.Expr.{Expr}
use Rattle.ocl_core.specs.declared.program.ProgramParts.{ProgramParts}
use Rattle.ocl_core.specs.declared.statement.Stmt.{Stmt}
use Rattle.ocl_core.specs.declared.statement.Target.{Target}
use Rattle.entry_states.specs.declared.frame.Call.{Call}
use Rattle.soil_changes.specs.Acts.{◌>>=◌, ◌>>◌}
use Rattle.soil_exec.specs.Calls.{body_of, call_of, given_by, pres_hold}
use Rattle.soil_exec.specs.Machine.{Execution}
use Rattle.soil_exec.specs.Targets.{check_holder_if, put_if}
use Rattle.soil_exec.specs.Values.{value, values}

module _ (p : ProgramParts) (called : Place → List Stmt → Execution (Unit {0})) (at : Place) (receiver : Expr) (op : ℕ) (args : List Expr)
    (target : Option Target) (object : Value) where
  abbrev pub with_value : Value → Execution (Unit {0})
  with_value given = put_if at target object given

  abbrev pub with_pres : Call → Execution (Unit {0})
  with_pres k = given_by p called at k (body_of p k) >>= with_value

  abbrev pub with_call : Call → Execution (Unit {0})
  with_call k = pres_hold p at k >> with_pres k

  abbrev pub with_holder : Value → List Value → Execution (Unit {0})
  with_holder v vs = call_of p at op v vs >>= with_call

  abbrev pub with_args : Value → List Value → Execution (Unit {0})
  with_args v vs = check_holder_if at target object >> with_holder v vs

  abbrev pub with_receiver : Value → Execution (Unit {0})
  with_receiver v = values p at args >>= with_args v

  abbrev pub with_object : Execution (Unit {0})
  with_object = value p at receiver >>= with_receiver
