-- What a change makes of a state, and the change that takes it back.
use Rattle.std.specs.Prelude.{ℕ, List, Option, Some, None, slice_set}
use Rattle.std.specs.BTreeMap.{insert_entry, is_at}
use Rattle.std.specs.Map.{remove_entry, set_value}
use Rattle.std.specs.Option.{option_map_or}
use Rattle.std.specs.Ordering.{nat_cmp}
use Rattle.ocl_values.specs.declared.value.Value.{Value}
use Rattle.object_state.specs.declared.change.Change.{Change}
use Rattle.object_state.specs.declared.change.Change.TheVariants.{Create, Remove, SetSlot, Link, Unlink, Bind, Unbind}
use Rattle.object_state.specs.declared.change.LinkChange.{LinkChange}
use Rattle.object_state.specs.declared.change.ObjectChange.{ObjectChange}
use Rattle.object_state.specs.declared.layout.Layout.{Layout}
use Rattle.object_state.specs.declared.objects.Object.{Object}
use Rattle.object_state.specs.declared.objects.Variable.{Variable}
use Rattle.object_state.specs.Layouts.{place}
use Rattle.object_state.specs.State.{State, object, link_cmp, text_cmp}

-- the object that comes or goes
abbrev pub object_of : ObjectChange → Object
object_of d = record { name = d.name; class = d.class; slots = d.slots }

-- an object with another value of an attribute
abbrev pub with_slot : Layout → Object → ℕ → Value → Object
with_slot l x a v = option_map_or (λ i. record { name = x.name; class = x.class; slots = slice_set x.slots i v }) (place l x.class a) x

-- a state with another object at a number
abbrev pub with_object : State → ℕ → Object → State
with_object s o x = record s { objects = set_value (is_at (nat_cmp o)) s.objects x }

-- the state after a change; the counter becomes the one after
abbrev pub apply : Layout → State → Change → State
apply l s (Create d) = record s { objects = insert_entry nat_cmp s.objects d.object (object_of d); next_object = d.after }
apply l s (Remove d) = record s { objects = remove_entry (is_at (nat_cmp d.object)) s.objects; next_object = d.after }
apply l s (SetSlot o a old new) = option_map_or (λ x. with_object s o (with_slot l x a new)) (object s o) s
apply l s (Link d) = record s { links = insert_entry link_cmp s.links (d.assoc, d.stamp) (d.first, d.second); next_stamp = d.after }
apply l s (Unlink d) = record s { links = remove_entry (is_at (link_cmp (d.assoc, d.stamp))) s.links; next_stamp = d.after }
apply l s (Bind name old new) = record s { variables = insert_entry text_cmp s.variables name new }
apply l s (Unbind name old) = record s { variables = remove_entry (is_at (text_cmp name)) s.variables }

-- the same, back: before and after change places
abbrev pub object_back : ObjectChange → ObjectChange
object_back d = record { object = d.object; name = d.name; class = d.class; slots = d.slots; before = d.after; after = d.before }

abbrev pub link_back : LinkChange → LinkChange
link_back d = record { assoc = d.assoc; first = d.first; second = d.second; stamp = d.stamp; before = d.after; after = d.before }

-- a binding without an old variable and an unbinding take each other back
abbrev pub unbinding : List ℕ → Variable → Option Variable → Change
unbinding name new None = Unbind name new
unbinding name new (Some old) = Bind name (Some new) old

-- the change that takes a change back
abbrev pub inverse : Change → Change
inverse (Create d) = Remove (object_back d)
inverse (Remove d) = Create (object_back d)
inverse (SetSlot o a old new) = SetSlot o a new old
inverse (Link d) = Unlink (link_back d)
inverse (Unlink d) = Link (link_back d)
inverse (Bind name old new) = unbinding name new old
inverse (Unbind name old) = Bind name None old
