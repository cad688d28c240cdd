-- Keys of an index of the places that refer to objects: the object, then the place.
use Rattle.std.specs.Prelude.{◌≡◌, ℕ, true, false, List, [], map, Option, Some, None}
use Rattle.std.specs.declared.cmp.Ordering.{Ordering}
use Rattle.std.specs.List.{flat_map, zip}
use Rattle.std.specs.Ordering.{nat_cmp, ordering_then}
use Rattle.use_orders.specs.Canon.{has, without}
use Rattle.ocl_values.specs.declared.value.Value.{Value}
use Rattle.object_references.specs.References.{references}
use Rattle.object_state.specs.declared.change.Change.{Change}
use Rattle.object_state.specs.declared.change.Change.TheVariants.{Create, Remove, SetSlot, Bind, Unbind}
use Rattle.object_state.specs.declared.layout.Layout.{Layout}
use Rattle.object_state.specs.declared.objects.Variable.{Variable}
use Rattle.object_state.specs.Layouts.{attrs}
use Rattle.object_state.specs.State.{link_cmp, text_cmp}

-- keys go by the object that is referred to, and then by the place
abbrev pub slot_key_cmp : ℕ × (ℕ × ℕ) → ℕ × (ℕ × ℕ) → Ordering
slot_key_cmp a b = ordering_then (nat_cmp a.0 b.0) (link_cmp a.1 b.1)

abbrev pub variable_key_cmp : ℕ × List ℕ → ℕ × List ℕ → Ordering
variable_key_cmp a b = ordering_then (nat_cmp a.0 b.0) (text_cmp a.1 b.1)

-- for each object that the value of a slot refers to
abbrev pub slot_keys : ℕ → ℕ → Value → List (ℕ × (ℕ × ℕ))
slot_keys x a v = map (λ o. (o, (x, a))) (references v)

abbrev pub slots_keys : ℕ → List ℕ → List Value → List (ℕ × (ℕ × ℕ))
slots_keys x attrs values = flat_map (λ p. slot_keys x p.0 p.1) (zip attrs values)

-- for each object that the value of a variable refers to
abbrev pub variable_keys : List ℕ → Value → List (ℕ × List ℕ)
variable_keys name v = map (λ o. (o, name)) (references v)

-- those of a variable, if it is there
abbrev pub held_keys : List ℕ → Option Variable → List (ℕ × List ℕ)
held_keys name None = []
held_keys name (Some v) = variable_keys name v.value

-- what a change brings, and what it leaves behind
abbrev pub slots_brought : Layout → Change → List (ℕ × (ℕ × ℕ))
slots_brought l (Create d) = slots_keys d.object (attrs l d.class) d.slots
slots_brought l (SetSlot x a old new) = slot_keys x a new
slots_brought l c = []

abbrev pub slots_left : Layout → Change → List (ℕ × (ℕ × ℕ))
slots_left l (Remove d) = slots_keys d.object (attrs l d.class) d.slots
slots_left l (SetSlot x a old new) = without slot_key_cmp (slot_keys x a old) (slot_keys x a new)
slots_left l c = []

abbrev pub variables_brought : Change → List (ℕ × List ℕ)
variables_brought (Bind name old new) = variable_keys name new.value
variables_brought c = []

abbrev pub variables_left : Change → List (ℕ × List ℕ)
variables_left (Bind name old new) = without variable_key_cmp (held_keys name old) (variable_keys name new.value)
variables_left (Unbind name old) = variable_keys name old.value
variables_left c = []

module _ {K : Type 0} (cmp : K → K → Ordering) where
  -- an index tells what another tells
  abbrev pub TellsMore : List K → List K → Type 0
  TellsMore old new = (q : K) → has cmp old q ≡ true → has cmp new q ≡ true

  -- an index tells what another tells, but for what is gone
  abbrev pub Forgets : List K → List K → List K → Type 0
  Forgets gone old new = (q : K) → has cmp gone q ≡ false → has cmp old q ≡ true → has cmp new q ≡ true
