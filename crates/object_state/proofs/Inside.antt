-- The state that a plain store holds.
use Rattle.object_state.specs.declared.plain.PlainStore.TheInside.{Inside}
use Rattle.object_state.specs.State.{State}

abbrev pub state_in : Inside → State
state_in a = record { objects = a.objects; links = a.links; variables = a.variables; next_object = a.next_object; next_stamp = a.next_stamp }
