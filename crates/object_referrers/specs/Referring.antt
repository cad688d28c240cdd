-- What is to be undone of a state before an object can go: its links, and the slots and variables whose values refer to it.
use Rattle.std.specs.Prelude.{ℕ, Bool, false, ◌||◌, nat_eq, List, map, filter}
use Rattle.std.specs.List.{flat_map}
use Rattle.std.specs.Option.{option_map_or}
use Rattle.use_orders.specs.Canon.{set_of}
use Rattle.object_references.specs.References.{refers_to}
use Rattle.object_state.specs.declared.layout.Layout.{Layout}
use Rattle.object_state.specs.declared.objects.Object.{Object}
use Rattle.object_state.specs.declared.objects.Variable.{Variable}
use Rattle.object_state.specs.Layouts.{attrs, slot}
use Rattle.object_state.specs.State.{State, link_cmp, object, variable}

-- the links of an object, by association and stamp
abbrev pub links_of : State → ℕ → List ((ℕ × ℕ) × (ℕ × ℕ))
links_of s o = filter (λ e. nat_eq e.1.0 o || nat_eq e.1.1 o) s.links

-- the value of a slot refers to an object
abbrev pub slot_refers_to : Layout → Object → ℕ → ℕ → Bool
slot_refers_to l x o a = option_map_or (λ v. refers_to v o) (slot l x a) false

-- the slot of a place, and the variable of a name, refer to an object
abbrev pub place_refers_to : Layout → State → ℕ → ℕ × ℕ → Bool
place_refers_to l s o p = option_map_or (λ x. slot_refers_to l x o p.1) (object s p.0) false

abbrev pub name_refers_to : State → ℕ → List ℕ → Bool
name_refers_to s o name = option_map_or (λ (v : Variable). refers_to v.value o) (variable s name) false

-- the slots whose values refer to an object, by object and attribute
abbrev pub slots_referring_to : Layout → State → ℕ → List (ℕ × ℕ)
slots_referring_to l s o = set_of link_cmp (flat_map (λ e. map (λ a. (e.0, a)) (filter (slot_refers_to l e.1 o) (attrs l e.1.class))) s.objects)

-- the names of the variables whose values refer to an object, in their order
abbrev pub variables_referring_to : State → ℕ → List (List ℕ)
variables_referring_to s o = map (λ e. e.0) (filter (λ e. refers_to e.1.value o) s.variables)
