-- What is kept of the multiplicities of a state: how many objects each navigation gives, and those of these counts that are not allowed.
use Rattle.std.specs.Prelude.{◌≡◌, ℕ, Bool, ◌&&◌, nat_eq, List, length, Option}
use Rattle.std.specs.declared.cmp.Ordering.{Ordering}
use Rattle.std.specs.BTreeMap.{is_at}
use Rattle.std.specs.Map.{lookup}
use Rattle.std.specs.Option.{option_and_then, option_map}
use Rattle.std.specs.Ordering.{nat_cmp, ordering_then}
use Rattle.class_model.specs.contracts.numbers.EndOrd.TheImpl.{ghosts as end_ghosts}
use Rattle.class_model.specs.contracts.numbers.EndPartialEq.TheImpl.{ghosts as end_equal}
use Rattle.class_model.specs.declared.object_model.ObjectModel.{ObjectModel}
use Rattle.object_state.specs.Layouts.{layout_of}
use Rattle.object_state.specs.Looks.{items_at}
use Rattle.object_state.specs.State.{State}
use Rattle.object_state.specs.Valid.{IsValid}
use Rattle.invariant_cache.specs.Broken.{Navigation, unless_allowed}

-- navigations go by association, end and object
abbrev pub navigation_cmp : Navigation → Navigation → Ordering
navigation_cmp a b = ordering_then (nat_cmp a.0 b.0) (ordering_then (end_ghosts.cmp a.1.0 b.1.0) (nat_cmp a.1.1 b.1.1))

-- the same association, end and object
abbrev pub same_navigation : Navigation → Navigation → Bool
same_navigation a b = nat_eq a.0 b.0 && (end_equal.eq a.1.0 b.1.0 && nat_eq a.1.1 b.1.1)

-- what is kept at a navigation, in a list that is in order and in one that is not
abbrev pub found : List (Navigation × ℕ) → Navigation → Option ℕ
found entries n = lookup (is_at (navigation_cmp n)) entries

abbrev pub counted : List (Navigation × ℕ) → Navigation → Option ℕ
counted entries n = lookup (same_navigation n) entries

pub record Counts : Type 0 where
  -- of all navigations, in no order
  pub counts : List (Navigation × ℕ)
  -- of those whose count is not allowed, in order
  pub broken : List (Navigation × ℕ)

-- in a state: how many objects are seen there, where the object is live and may have links there
abbrev pub count_in : ObjectModel → State → Navigation → Option ℕ
count_in m s n = option_map (λ vs. length vs) (items_at (layout_of m) s n.0 n.1.0 n.1.1)

-- the counts that are not allowed are listed
abbrev pub IsSplit : ObjectModel → Counts → Type 0
IsSplit m k = (n : Navigation) → found k.broken n ≡ option_and_then (unless_allowed m n) (counted k.counts n)

-- the counts are those of a state
pub record StandsFor (m : ObjectModel) (k : Counts) (s : State) : Type 0 where
  pub valid : IsValid (layout_of m) s
  pub counts : (n : Navigation) → counted k.counts n ≡ count_in m s n
  pub broken : IsSplit m k
