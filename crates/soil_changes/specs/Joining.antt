-- Links that come and go by the objects that they join.
use Rattle.std.specs.Prelude.{ℕ, ◌&&◌, if◌then◌else◌, Option, Some, None}
use Rattle.std.specs.Option.{is_some, option_and_then}
use Rattle.class_model.specs.declared.numbers.End.{End}
use Rattle.class_model.specs.declared.numbers.End.TheVariants.{First, Second}
use Rattle.ocl_values.specs.declared.value.Value.{Value}
use Rattle.object_state.specs.declared.change.Change.TheVariants.{Link, Unlink}
use Rattle.object_state.specs.declared.change.LinkChange.{LinkChange}
use Rattle.object_state.specs.declared.layout.Layout.{Layout}
use Rattle.object_state.specs.Looks.{stands}
use Rattle.object_state.specs.Proposals.{linking}
use Rattle.object_state.specs.State.{State, stamp_of}
use Rattle.soil_changes.specs.Acts.{◌>>=◌, or_refuse}
use Rattle.soil_changes.specs.Progress.{Changing, Progress, make, x_code}
use Rattle.soil_changes.specs.Storing.{as_object}

-- the live object of the class at an end that a value is
abbrev pub at_end : Layout → State → ℕ → End → Value → Option ℕ
at_end l s a e v = option_and_then (λ o. if stands l s a e o then Some o else None) (as_object v)

-- X5: a value is no such object
abbrev pub end_of : ℕ → End → Value → Changing ℕ
end_of a e v p = or_refuse (at_end p.layout p.state a e v) (x_code 5) p

-- a link at the next stamp
abbrev pub link : ℕ → ℕ → ℕ → Changing (Unit {0})
link a first second p = make (Link (linking p.state a first second)) p

abbrev pub insert : ℕ → Value → Value → Changing (Unit {0})
insert a first second = end_of a First first >>= (λ o. end_of a Second second >>= link a o)

-- a link goes; the counter stays
abbrev pub unlinking : State → ℕ → ℕ → ℕ → ℕ → LinkChange
unlinking s a first second stamp = record { assoc = a; first = first; second = second; stamp = stamp; before = s.next_stamp; after = s.next_stamp }

abbrev pub unlink : ℕ → ℕ → ℕ → ℕ → Changing (Unit {0})
unlink a first second stamp p = make (Unlink (unlinking p.state a first second stamp)) p

-- X4: there is no such link
abbrev pub unlink_pair : ℕ → ℕ → ℕ → Changing (Unit {0})
unlink_pair a first second p = (or_refuse (stamp_of p.state a first second) (x_code 4) >>= unlink a first second) p

abbrev pub delete : ℕ → Value → Value → Changing (Unit {0})
delete a first second = end_of a First first >>= (λ o. end_of a Second second >>= unlink_pair a o)
