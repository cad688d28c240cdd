use Rattle.std.specs.Map.{keys_of}
use Rattle.std.proofs.Common.{◌≡◌, ℕ, true, false, nat_eq, take}
use Rattle.std.specs.List.{list_any}
use Rattle.std.specs.List.Sorted.{IsStrictlySortedBy}
use Rattle.object_state.specs.State.{link_cmp}
use Rattle.object_store.specs.Indexes.{has_pair, is_one}
use Rattle.object_store.proofs.extents.put_some.Given as goal

abbrev pub invariant-classes : goal.invariant-classes
invariant-classes l = record {
  ordered : IsStrictlySortedBy link_cmp (keys_of l.extents);
  others : (c o : ℕ) → is_one l.classes l.object c o ≡ false → has_pair (keys_of l.extents) c o ≡ has_pair (keys_of l.initial.extents) c o;
  there : (c : ℕ) → list_any (nat_eq c) (take l.class-index l.classes) ≡ true → has_pair (keys_of l.extents) c l.object ≡ true;
}
