-- Sizes of what a state holds.
use Rattle.std.specs.Prelude.{ℕ, ◌+◌, Option, length}
use Rattle.std.specs.List.{sum_by}
use Rattle.std.specs.Map.{values_of}
use Rattle.std.specs.Option.{option_map_or}
use Rattle.ocl_values.specs.Shape.{size_of, sizes_of}
use Rattle.object_state.specs.declared.change.Change.{Change}
use Rattle.object_state.specs.declared.change.Change.TheVariants.{Create, Remove, SetSlot, Link, Unlink, Bind, Unbind}
use Rattle.object_state.specs.declared.objects.Object.{Object}
use Rattle.object_state.specs.declared.objects.Variable.{Variable}
use Rattle.object_state.specs.State.{State}

-- an object weighs 1 and the sizes of its values, a variable 1 and the size of its value
abbrev pub object_weight : Object → ℕ
object_weight x = 1 + sizes_of x.slots

abbrev pub variable_weight : Variable → ℕ
variable_weight v = 1 + size_of v.value

-- a state weighs what its objects and variables do, and 1 for each link
abbrev pub weight : State → ℕ
weight s = sum_by object_weight (values_of s.objects) + sum_by variable_weight (values_of s.variables) + length s.links

-- what a change brings into a state, and what it takes out
abbrev pub gained : Change → ℕ
gained (Create d) = 1 + sizes_of d.slots
gained (SetSlot o a old new) = size_of new
gained (Link d) = 1
gained (Bind name old new) = variable_weight new
gained c = 0

abbrev pub lost : Change → ℕ
lost (Remove d) = 1 + sizes_of d.slots
lost (SetSlot o a old new) = size_of old
lost (Unlink d) = 1
lost (Bind name old new) = option_map_or variable_weight old 0
lost (Unbind name old) = variable_weight old
lost c = 0

-- a change weighs 1 and the sizes of the values that it carries
abbrev pub change_weight : Change → ℕ
change_weight (Create d) = 1 + sizes_of d.slots
change_weight (Remove d) = 1 + sizes_of d.slots
change_weight (SetSlot o a old new) = 1 + size_of old + size_of new
change_weight (Link d) = 1
change_weight (Unlink d) = 1
change_weight (Bind name old new) = 1 + option_map_or (λ v. size_of v.value) old 0 + size_of new.value
change_weight (Unbind name old) = 1 + size_of old.value
