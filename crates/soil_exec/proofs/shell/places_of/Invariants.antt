use Rattle.std.proofs.Common.{◌≡◌, ℕ, ◌≤◌, List, drop, length}
use Rattle.std.specs.BTreeMap.{is_at}
use Rattle.std.specs.Cmp.Lexicographic.{pointwise}
use Rattle.std.specs.List.{position}
use Rattle.std.specs.Map.{lookup}
use Rattle.std.specs.Prelude.{nat_eq}
use Rattle.object_state.specs.State.{text_cmp}
use Rattle.soil_exec.proofs.Places.{shifted}
use Rattle.soil_exec.proofs.shell.places_of.Given as goal

abbrev pub invariant-names : goal.invariant-names
invariant-names l = record {
  found : (t : List ℕ) → lookup (is_at (text_cmp t)) l.places.entries ≡ shifted l.place (position (pointwise nat_eq t) (drop l.place l.names));
  within : l.place ≤ length l.names;
}

abbrev pub decreases-names : goal.decreases-names
decreases-names l = l.place
