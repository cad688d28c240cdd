-- The state that a store with indexes holds.
use Rattle.std.specs.Prelude.{◌≡◌}
use Rattle.object_state.specs.State.{Diagram, State}
use Rattle.object_state.specs.Valid.{IsValid}
use Rattle.object_state.specs.Weights.{weight}
use Rattle.object_store.specs.declared.store.Store.TheInside.{Inside}

abbrev pub state_in : Inside → State
state_in s = record {
  objects = s.objects.objects;
  links = s.links;
  variables = s.variables;
  next_object = s.next_object;
  next_stamp = s.next_stamp;
}

abbrev pub diagram : Inside → Diagram
diagram s = record { layout = s.objects.layout; state = state_in s }

-- a state that is valid, with its weight
pub record IsKept (s : Inside) : Type 0 where
  pub valid : IsValid s.objects.layout (state_in s)
  pub weight : s.weight ≡ weight (state_in s)
