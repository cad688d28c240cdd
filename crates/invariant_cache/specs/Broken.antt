-- The multiplicities that a state breaks (OCL 2.3.1, A.1.1.5), counted from scratch in the list of its links.
use Rattle.std.specs.Prelude.{ℕ, pos, if◌then◌else◌, List, ◌++◌, length, map, Option, Some, None}
use Rattle.std.specs.List.{filter_map, flat_map, range_with_len}
use Rattle.std.specs.Option.{option_map}
use Rattle.class_model.specs.declared.numbers.End.{End}
use Rattle.class_model.specs.declared.numbers.End.TheVariants.{First, Second}
use Rattle.class_model.specs.declared.object_model.ObjectModel.{ObjectModel}
use Rattle.class_model.specs.Ends.{opposite}
use Rattle.class_model.specs.Multiplicities.{allows}
use Rattle.class_model.specs.Parts.{end_class, multiplicity}
use Rattle.object_state.specs.Layouts.{layout_of}
use Rattle.object_state.specs.Looks.{extent, joined}
use Rattle.object_state.specs.State.{State}
use Rattle.invariant_cache.specs.declared.structure.Violation.{Violation}

-- an association, the end of it that is reached, and the object from which it is reached
abbrev pub Navigation : Type 0
Navigation = ℕ × (End × ℕ)

-- so many objects, where they are not allowed
abbrev pub unless_allowed : ObjectModel → Navigation → ℕ → Option ℕ
unless_allowed m n count = if allows (multiplicity m n.0 n.1.0) (pos count) then None else Some count

-- what is told of a count that is not allowed
abbrev pub violation_at : Navigation → ℕ → Violation
violation_at n count = record { assoc = n.0; end = n.1.0; object = n.1.1; count = count }

module _ (m : ObjectModel) (s : State) where
  -- to an end, from each live object of the class at the opposite end, or of a descendant
  abbrev pub navigations_to : ℕ → End → List Navigation
  navigations_to a e = map (λ o. (a, (e, o))) (extent (layout_of m) s (end_class m a (opposite e)))

  -- all of them, by association, end and object
  abbrev pub navigations : List Navigation
  navigations = flat_map (λ a. navigations_to a First ++ navigations_to a Second) (range_with_len 0 (length m.assocs))

  -- how many objects links join there, if so many are not allowed
  abbrev pub broken_at : Navigation → Option (Navigation × ℕ)
  broken_at n = option_map (λ count. (n, count)) (unless_allowed m n (length (joined s n.0 n.1.0 n.1.1)))

  abbrev pub broken : List Violation
  broken = map (λ e. violation_at e.0 e.1) (filter_map broken_at navigations)
