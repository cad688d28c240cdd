-- Changes as a state stands: they take the next number or stamp, and carry the values that are there.
use Rattle.std.specs.Prelude.{ℕ, ◌+◌, min, Bool, true, ◌&&◌, List, map}
use Rattle.std.specs.Option.{option_map_or}
use Rattle.ocl_values.specs.declared.value.Value.TheVariants.{Null}
use Rattle.class_model.specs.declared.numbers.End.{End}
use Rattle.class_model.specs.declared.numbers.End.TheVariants.{First, Second}
use Rattle.object_state.specs.declared.change.LinkChange.{LinkChange}
use Rattle.object_state.specs.declared.change.ObjectChange.{ObjectChange}
use Rattle.object_state.specs.declared.layout.Layout.{Layout}
use Rattle.object_state.specs.Layouts.{attrs, may_stand}
use Rattle.object_state.specs.State.{State, object}
use Rattle.object_state.specs.Valid.{last_number}

-- the counter after a number was given; it stands still at its last value
abbrev pub next : ℕ → ℕ
next n = min (n + 1) last_number

-- an object of nulls at the next number
abbrev pub creation : Layout → State → List ℕ → ℕ → ObjectChange
creation l s name class =
    record { object = s.next_object; name = name; class = class; slots = map (λ a. Null) (attrs l class); before = s.next_object; after = next s.next_object }

-- a link at the next stamp
abbrev pub linking : State → ℕ → ℕ → ℕ → LinkChange
linking s a first second = record { assoc = a; first = first; second = second; stamp = s.next_stamp; before = s.next_stamp; after = next s.next_stamp }

-- whether an object may stand at an end of an association, or is not live
abbrev pub may_be_at : Layout → State → ℕ → End → ℕ → Bool
may_be_at l s a e o = option_map_or (λ x. may_stand l a e x.class) (object s o) true

abbrev pub may_be_linked : Layout → State → ℕ → ℕ → ℕ → Bool
may_be_linked l s a first second = may_be_at l s a First first && may_be_at l s a Second second
