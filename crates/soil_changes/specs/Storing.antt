-- Values that are stored, in attributes of objects and in variables.
use Rattle.std.specs.Prelude.{ℕ, Bool, false, not, ◌&&◌, nat_eq, if◌then◌else◌, List, Option, Some, None}
use Rattle.std.specs.List.{list_all}
use Rattle.std.specs.Option.{is_some, option_and_then, option_map_or}
use Rattle.std.specs.Ordering.{is_eq}
use Rattle.class_model.specs.declared.types.OclType.{OclType}
use Rattle.ocl_values.specs.declared.value.Value.{Value}
use Rattle.ocl_values.specs.declared.value.Value.TheVariants.{Obj}
use Rattle.ocl_values.specs.Logic.{is_invalid}
use Rattle.ocl_values.specs.Order.{value_cmp}
use Rattle.object_references.specs.References.{is_object, references}
use Rattle.object_state.specs.declared.change.Change.TheVariants.{Bind, SetSlot}
use Rattle.object_state.specs.declared.layout.Layout.{Layout}
use Rattle.object_state.specs.declared.objects.Variable.{Variable}
use Rattle.object_state.specs.Looks.{value_of}
use Rattle.object_state.specs.State.{State, object, object_named, variable}
use Rattle.soil_changes.specs.Acts.{◌>>=◌, ◌>>◌, nothing, or_refuse, refuse_if}
use Rattle.soil_changes.specs.Progress.{Changing, Progress, make, x_code}

-- a value is neither invalid nor holds an object that is not live, at any depth
abbrev pub is_live : State → ℕ → Bool
is_live s o = is_some (object s o)

abbrev pub may_be_stored : State → Value → Bool
may_be_stored s v = not (is_invalid v) && list_all (is_live s) (references v)

-- X12
abbrev pub refuse_unless_stored : Value → Changing (Unit {0})
refuse_unless_stored v p = refuse_if (not (may_be_stored p.state v)) (x_code 12) p

-- the object that a value is
abbrev pub as_object : Value → Option ℕ
as_object (Obj o) = Some o
as_object _ = None

-- the live object with an attribute that a value is
abbrev pub holder : Layout → State → Value → ℕ → Option ℕ
holder l s v a = option_and_then (λ o. if is_some (value_of l s o a) then Some o else None) (as_object v)

-- X5: a value is no live object, or has not the attribute
abbrev pub holder_of : Value → ℕ → Changing ℕ
holder_of v a p = or_refuse (holder p.layout p.state v a) (x_code 5) p

-- an attribute gets another value; an equal one is no change
abbrev pub replace_slot : ℕ → ℕ → Value → Value → Changing (Unit {0})
replace_slot o a new old = if is_eq (value_cmp old new) then nothing else make (SetSlot o a old new)

abbrev pub put_slot : ℕ → ℕ → Value → Changing (Unit {0})
put_slot o a new p = (or_refuse (value_of p.layout p.state o a) (x_code 5) >>= replace_slot o a new) p

-- a value is stored in an attribute of what a value is: X5, X12, and then the change
abbrev pub set_slot : Value → ℕ → Value → Changing (Unit {0})
set_slot target a v = holder_of target a >>= (λ o. refuse_unless_stored v >> put_slot o a v)

-- a variable gets a value and a type, also an equal one
abbrev pub bind : List ℕ → OclType → Value → Changing (Unit {0})
bind name t v p = make (Bind name (variable p.state name) (record { of_type = t; value = v })) p

-- the name is that of the object that the value is
abbrev pub names_itself : State → List ℕ → Value → Bool
names_itself s name v = option_map_or (λ o. is_object o v) (object_named s name) false

-- a value is stored in a variable: X12, and then the change; the name of the object that the value is stays that
abbrev pub set_variable : List ℕ → OclType → Value → Changing (Unit {0})
set_variable name t v = refuse_unless_stored v >> (λ p. (if names_itself p.state name v then nothing else bind name t v) p)
