-- An object goes, in four steps: its links; the attributes that refer to it; the variables that do; and the object itself.
use Rattle.std.specs.Prelude.{ℕ, List, Option, Some, None}
use Rattle.std.specs.Option.{option_and_then}
use Rattle.ocl_values.specs.declared.value.Value.{Value}
use Rattle.object_references.specs.References.{without_object}
use Rattle.object_referrers.specs.Referring.{links_of, slots_referring_to, variables_referring_to}
use Rattle.object_state.specs.declared.change.Change.TheVariants.{Bind, Remove, SetSlot}
use Rattle.object_state.specs.declared.change.ObjectChange.{ObjectChange}
use Rattle.object_state.specs.declared.objects.Object.{Object}
use Rattle.object_state.specs.declared.objects.Variable.{Variable}
use Rattle.object_state.specs.Looks.{value_of}
use Rattle.object_state.specs.State.{State, object, variable}
use Rattle.soil_changes.specs.Acts.{◌>>=◌, ◌>>◌, each, nothing, or_refuse}
use Rattle.soil_changes.specs.Joining.{unlink}
use Rattle.soil_changes.specs.Progress.{Changing, Progress, make, x_code}
use Rattle.soil_changes.specs.Storing.{as_object}

-- the links of an object go, by association and stamp
abbrev pub unlink_entry : (ℕ × ℕ) × (ℕ × ℕ) → Changing (Unit {0})
unlink_entry e = unlink e.0.0 e.1.0 e.1.1 e.0.1

abbrev pub unlink_all : ℕ → Changing (Unit {0})
unlink_all o p = each unlink_entry (links_of p.state o) p

-- in the attributes whose values refer to it, by object and attribute, it is taken out
abbrev pub clear_value : ℕ → ℕ × ℕ → Option Value → Changing (Unit {0})
clear_value o place None = nothing
clear_value o place (Some v) = make (SetSlot place.0 place.1 v (without_object o v))

abbrev pub clear_slot : ℕ → ℕ × ℕ → Changing (Unit {0})
clear_slot o place p = clear_value o place (value_of p.layout p.state place.0 place.1) p

abbrev pub clear_slots : ℕ → Changing (Unit {0})
clear_slots o p = each (clear_slot o) (slots_referring_to p.layout p.state o) p

-- and in the variables whose values refer to it, by name
abbrev pub cleared : ℕ → Variable → Variable
cleared o v = record v { value = without_object o v.value }

abbrev pub clear_bound : ℕ → List ℕ → Option Variable → Changing (Unit {0})
clear_bound o name None = nothing
clear_bound o name (Some v) = make (Bind name (Some v) (cleared o v))

abbrev pub clear_variable : ℕ → List ℕ → Changing (Unit {0})
clear_variable o name p = clear_bound o name (variable p.state name) p

abbrev pub clear_variables : ℕ → Changing (Unit {0})
clear_variables o p = each (clear_variable o) (variables_referring_to p.state o) p

-- the object goes; the counter stays
abbrev pub removal : State → ℕ → Object → ObjectChange
removal s o x = record { object = o; name = x.name; class = x.class; slots = x.slots; before = s.next_object; after = s.next_object }

abbrev pub remove : ℕ → Changing (Unit {0})
remove o p = (or_refuse (object p.state o) (x_code 5) >>= (λ x. make (Remove (removal p.state o x)))) p

abbrev pub destroy_object : ℕ → Changing (Unit {0})
destroy_object o = unlink_all o >> clear_slots o >> clear_variables o >> remove o

-- X5: a value is no live object
abbrev pub live_object : Value → Changing ℕ
live_object v p = or_refuse (option_and_then (λ o. option_and_then (λ x. Some o) (object p.state o)) (as_object v)) (x_code 5) p

abbrev pub destroy : Value → Changing (Unit {0})
destroy v = live_object v >>= destroy_object

-- objects go one after another, each tested in its turn
abbrev pub destroy_all : List Value → Changing (Unit {0})
destroy_all values = each destroy values
