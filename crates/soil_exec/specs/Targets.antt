-- Where values are stored: in local variables, in variables of the shell, in attributes of objects.
use Rattle.std.specs.Prelude.{ℕ, ◌-◌, nat_lt, if◌then◌else◌, List, [], ◌∷◌, ◌++◌, length, slice_set, Option, Some, None, Ok}
use Rattle.use_text.specs.declared.place.Place.{Place}
use Rattle.ocl_values.specs.declared.value.Value.{Value}
use Rattle.ocl_values.specs.declared.value.Value.TheVariants.{Null}
use Rattle.ocl_core.specs.declared.program.ProgramParts.{ProgramParts}
use Rattle.ocl_core.specs.declared.statement.Target.{Target}
use Rattle.ocl_core.specs.declared.statement.Target.TheVariants.{Local, Shell, Attr}
use Rattle.soil_changes.specs.Acts.{◌>>◌, nothing, pure}
use Rattle.soil_changes.specs.Storing.{holder_of, refuse_unless_stored, set_slot, set_variable}
use Rattle.soil_exec.specs.Machine.{Execution, changing}
use Rattle.soil_exec.specs.Values.{value}

-- an entry of the environment behind the names of the shell; past the last one there is a new variable
abbrev pub with_local : List Value → ℕ → Value → List Value
with_local locals n v = if nat_lt n (length locals) then slice_set locals n v else locals ++ v ∷ []

abbrev pub set_local : ℕ → Value → Execution (Unit {0})
set_local n v m = (Ok tt, record m { locals = with_local m.locals (n - length m.shell) v })

-- the object whose attribute is meant is evaluated first; other targets have none
abbrev pub holder : ProgramParts → Place → Target → Execution Value
holder p at (Attr e a) = value p at e
holder p at target = pure Null

-- X5: it is no live object with the attribute
abbrev pub check_attr : Place → ℕ → Value → Execution (Unit {0})
check_attr at a object = changing at (holder_of object a >> nothing)

abbrev pub check_holder : Place → Target → Value → Execution (Unit {0})
check_holder at (Attr e a) object = check_attr at a object
check_holder at target object = nothing

-- a value is stored in a local variable: X12
abbrev pub put_local : Place → ℕ → Value → Execution (Unit {0})
put_local at n v = changing at (refuse_unless_stored v) >> set_local n v

-- a value is stored: X5 of the object, X12 of the value, and then the change
abbrev pub put : Place → Target → Value → Value → Execution (Unit {0})
put at (Local n) object v = put_local at n v
put at (Shell name t) object v = changing at (set_variable name t v)
put at (Attr e a) object v = changing at (set_slot object a v)

-- the same where there may be no target
abbrev pub holder_if : ProgramParts → Place → Option Target → Execution Value
holder_if p at None = pure Null
holder_if p at (Some target) = holder p at target

abbrev pub check_holder_if : Place → Option Target → Value → Execution (Unit {0})
check_holder_if at None object = nothing
check_holder_if at (Some target) object = check_holder at target object

abbrev pub put_if : Place → Option Target → Value → Value → Execution (Unit {0})
put_if at None object v = nothing
put_if at (Some target) object v = put at target object v
