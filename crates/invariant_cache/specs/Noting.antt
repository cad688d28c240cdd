-- What becomes of the count of each navigation where a change is told.
use Rattle.std.specs.Prelude.{◌≡◌, ℕ, ◌+◌, ◌-◌, ◌^◌, min, nat_eq, nat_lt, Bool, ◌&&◌, if◌then◌else◌, length, Option, Some, None}
use Rattle.std.specs.BTreeMap.{is_at}
use Rattle.std.specs.Option.{option_map}
use Rattle.class_model.specs.declared.numbers.End.TheVariants.{First, Second}
use Rattle.class_model.specs.declared.object_model.ObjectModel.{ObjectModel}
use Rattle.class_model.specs.Ends.{opposite}
use Rattle.class_model.specs.Inheritance.{is_a}
use Rattle.class_model.specs.Parts.{end_class}
use Rattle.object_state.specs.declared.change.Change.{Change}
use Rattle.object_state.specs.declared.change.Change.TheVariants.{Create, Remove, SetSlot, Link, Unlink, Bind, Unbind}
use Rattle.object_state.specs.declared.change.LinkChange.{LinkChange}
use Rattle.object_state.specs.Looks.{has_at}
use Rattle.invariant_cache.specs.Broken.{Navigation}
use Rattle.invariant_cache.specs.Counts.{Counts, IsSplit, counted, navigation_cmp}

-- a new count of a navigation, by the old one
abbrev pub Recount : Type 0
Recount = Navigation → Option ℕ → Option ℕ

-- each count is replaced so
pub record Recounts (m : ObjectModel) (f : Recount) (old new : Counts) : Type 0 where
  pub counts : (n : Navigation) → counted new.counts n ≡ f n (counted old.counts n)
  pub broken : IsSplit m old → IsSplit m new

-- at one navigation alone
abbrev pub at : Navigation → (Option ℕ → Option ℕ) → Recount
at k f n count = if is_at (navigation_cmp n) k then f count else count

-- one more and one less; a state has far fewer links than the largest count
abbrev pub one_more : Option ℕ → Option ℕ
one_more count = option_map (λ n. min (n + 1) (2 ^ 32 - 1)) count

abbrev pub one_less : Option ℕ → Option ℕ
one_less count = option_map (λ n. n - 1) count

-- a link is reached from both of its objects
abbrev pub to_first : LinkChange → Navigation
to_first d = (d.assoc, (First, d.second))

abbrev pub to_second : LinkChange → Navigation
to_second d = (d.assoc, (Second, d.first))

-- whether a navigation reaches it
abbrev pub reaches : Navigation → LinkChange → Bool
reaches n d = has_at n.0 (opposite n.1.0) n.1.1 ((d.assoc, d.stamp), (d.first, d.second))

abbrev pub linked : LinkChange → (Option ℕ → Option ℕ) → Recount
linked d f n count = if reaches n d then f count else count

-- whether a navigation may start at objects of a class
abbrev pub may_start : ObjectModel → ℕ → Navigation → Bool
may_start m c n = is_a m c (end_class m n.0 (opposite n.1.0))

-- of those that start at an object of a class, in the associations below a number
abbrev pub started : ObjectModel → ℕ → ℕ → Option ℕ → ℕ → Recount
started m c o new below n count = if nat_lt n.0 below && (nat_eq n.1.1 o && may_start m c n) then new else count

-- by a change
abbrev pub recount : ObjectModel → Change → Recount
recount m (Create d) = started m d.class d.object (Some 0) (length m.assocs)
recount m (Remove d) = started m d.class d.object None (length m.assocs)
recount m (Link d) = linked d one_more
recount m (Unlink d) = linked d one_less
recount m (SetSlot o a old new) = λ n count. count
recount m (Bind name old new) = λ n count. count
recount m (Unbind name old) = λ n count. count
