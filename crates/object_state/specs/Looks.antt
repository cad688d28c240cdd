-- What an evaluation can see of a state, cell by cell.
use Rattle.std.specs.Prelude.{ℕ, Bool, false, ◌&&◌, nat_eq, if◌then◌else◌, List, map, filter, Option, Some, None}
use Rattle.std.specs.List.{All}
use Rattle.std.specs.Option.{option_and_then, option_map_or}
use Rattle.ocl_values.specs.declared.value.Value.{Value}
use Rattle.ocl_values.specs.declared.value.Value.TheVariants.{Obj}
use Rattle.ocl_values.specs.Shape.{IsWellMade}
use Rattle.class_model.specs.declared.numbers.End.{End}
use Rattle.class_model.specs.declared.numbers.End.TheVariants.{First, Second}
use Rattle.class_model.specs.Ends.{opposite}
use Rattle.object_state.specs.declared.cell.Cell.{Cell}
use Rattle.object_state.specs.declared.cell.Cell.TheVariants.{Kind, Slot, Nav, Extent}
use Rattle.object_state.specs.declared.cell.Look.{Look}
use Rattle.object_state.specs.declared.cell.Look.TheVariants as L
use Rattle.object_state.specs.declared.layout.Layout.{Layout}
use Rattle.object_state.specs.Layouts.{is_a, may_stand, slot}
use Rattle.object_state.specs.State.{State, object}

-- the object that a link has at an end
abbrev pub end_of : ℕ × ℕ → End → ℕ
end_of pair First = pair.0
end_of pair Second = pair.1

-- whether a live object may stand at an end of an association
abbrev pub stands : Layout → State → ℕ → End → ℕ → Bool
stands l s a e o = option_map_or (λ x. may_stand l a e x.class) (object s o) false

-- whether a link of an association has an object at an end
abbrev pub has_at : ℕ → End → ℕ → (ℕ × ℕ) × (ℕ × ℕ) → Bool
has_at a e o entry = nat_eq entry.0.0 a && nat_eq (end_of entry.1 e) o

-- the objects that links of an association join at an end to an object, by stamps
abbrev pub joined : State → ℕ → End → ℕ → List ℕ
joined s a e o = map (λ entry. end_of entry.1 e) (filter (has_at a (opposite e) o) s.links)

-- the live objects of a class and its descendants, by number
abbrev pub extent : Layout → State → ℕ → List ℕ
extent l s c = map (λ e. e.0) (filter (λ e. is_a l e.1.class c) s.objects)

-- what is listed: the numbers of the live objects, and the pairs that an association links, by stamps
abbrev pub object_numbers : State → List ℕ
object_numbers s = map (λ e. e.0) s.objects

abbrev pub linked_pairs : State → ℕ → List (ℕ × ℕ)
linked_pairs s a = map (λ e. e.1) (filter (λ e. nat_eq e.0.0 a) s.links)

-- looks from what is seen
abbrev pub class_look : Option ℕ → Look
class_look None = L.Absent
class_look (Some c) = L.Class c

abbrev pub value_look : Option Value → Look
value_look None = L.Absent
value_look (Some v) = L.Value v

abbrev pub items_look : Option (List Value) → Look
items_look None = L.Absent
items_look (Some vs) = L.Items vs

-- the look at each cell
abbrev pub class_of : State → ℕ → Option ℕ
class_of s o = option_and_then (λ x. Some x.class) (object s o)

abbrev pub value_of : Layout → State → ℕ → ℕ → Option Value
value_of l s o a = option_and_then (λ x. slot l x a) (object s o)

abbrev pub items_at : Layout → State → ℕ → End → ℕ → Option (List Value)
items_at l s a e o = if stands l s a (opposite e) o then Some (map Obj (joined s a e o)) else None

abbrev pub look : Layout → State → Cell → Look
look l s (Kind o) = class_look (class_of s o)
look l s (Slot o a) = value_look (value_of l s o a)
look l s (Nav a e o) = items_look (items_at l s a e o)
look l s (Extent c) = L.Items (map Obj (extent l s c))

-- what is seen is well made
abbrev pub IsWellMadeLook : Look → Type 0
IsWellMadeLook L.Absent = Unit {0}
IsWellMadeLook (L.Class c) = Unit {0}
IsWellMadeLook (L.Value v) = IsWellMade v
IsWellMadeLook (L.Items vs) = All IsWellMade vs
