-- What an index of the places that refer to objects must tell.
use Rattle.std.specs.Prelude.{◌≡◌, ℕ, true, List, Some}
use Rattle.use_orders.specs.Canon.{has}
use Rattle.object_references.specs.References.{refers_to}
use Rattle.object_state.specs.declared.objects.Object.{Object}
use Rattle.object_state.specs.declared.objects.Variable.{Variable}
use Rattle.object_state.specs.State.{Diagram, object, variable}
use Rattle.object_referrers.specs.Places.{slot_key_cmp, variable_key_cmp}
use Rattle.object_referrers.specs.Referring.{slot_refers_to}
use Rattle.object_referrers.specs.declared.store.ReferrerStore.TheInside.{Inside}

-- each slot and each variable whose value refers to an object is told of it; more may be told
pub record TellsAll (d : Diagram) (places : List (ℕ × (ℕ × ℕ))) (names : List (ℕ × List ℕ)) : Type 0 where
  pub slots : (o x a : ℕ) (y : Object) → object d.state x ≡ Some y → slot_refers_to d.layout y o a ≡ true → has slot_key_cmp places (o, (x, a)) ≡ true
  pub variables : (o : ℕ) (name : List ℕ) (v : Variable) → variable d.state name ≡ Some v → refers_to v.value o ≡ true
      → has variable_key_cmp names (o, name) ≡ true

abbrev pub AreKept : Inside → Type 0
AreKept s = TellsAll s.store s.referrers.slots.keys s.referrers.variables.keys
