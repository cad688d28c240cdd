-- What indexes must agree with, by look-ups.
use Rattle.std.specs.Prelude.{◌≡◌, ◌↔◌, ◌<◌, ◌^◌, ℕ, Bool, false, ◌&&◌, if◌then◌else◌, nat_eq, List, Option, Some, map, filter}
use Rattle.std.specs.BTreeMap.{is_at}
use Rattle.std.specs.HashMap.{HashMap, get}
use Rattle.std.specs.Cmp.Lexicographic.{pointwise}
use Rattle.std.specs.List.{find, list_any}
use Rattle.std.specs.List.Sorted.{IsStrictlySortedBy}
use Rattle.std.specs.Map.{keys_of, lookup}
use Rattle.std.specs.Option.{option_map, option_map_or}
use Rattle.std.specs.Ordering.{nat_cmp}
use Rattle.class_model.specs.declared.numbers.End.{End}
use Rattle.class_model.specs.declared.numbers.End.TheVariants.{First, Second}
use Rattle.class_model.specs.Ends.{opposite}
use Rattle.object_state.specs.declared.layout.Layout.{Layout}
use Rattle.object_state.specs.declared.objects.Object.{Object}
use Rattle.object_state.specs.Layouts.{is_a}
use Rattle.object_state.specs.Looks.{end_of, has_at}
use Rattle.object_state.specs.State.{link_cmp}

-- the same association and the same objects
abbrev pub same_pair : ℕ × (ℕ × ℕ) → ℕ × (ℕ × ℕ) → Bool
same_pair a b = nat_eq a.0 b.0 && (nat_eq a.1.0 b.1.0 && nat_eq a.1.1 b.1.1)

-- the stamp at a pair
abbrev pub stamp_at : {S : Type 0} → HashMap (ℕ × (ℕ × ℕ)) ℕ S → ℕ × (ℕ × ℕ) → Option ℕ
stamp_at m k = get same_pair m k

-- the association and the pair of a link
abbrev pub by_pair : (ℕ × ℕ) × (ℕ × ℕ) → ℕ × (ℕ × ℕ)
by_pair e = (e.0.0, e.1)

-- rows by associations and objects, with another row of one of them
abbrev pub with_row : (ℕ × ℕ → List (ℕ × ℕ)) → ℕ × ℕ → List (ℕ × ℕ) → ℕ × ℕ → List (ℕ × ℕ)
with_row rows k row q = if is_at (link_cmp k) q then row else rows q

-- each row is in the order of stamps
abbrev pub RowsAreOrdered : (ℕ × ℕ → List (ℕ × ℕ)) → Type 0
RowsAreOrdered rows = (k : ℕ × ℕ) → IsStrictlySortedBy nat_cmp (keys_of (rows k))

-- a link stands in the row of its object at an end, with the object at the opposite end, and no other does
abbrev pub RowsAreTied : End → List ((ℕ × ℕ) × (ℕ × ℕ)) → (ℕ × ℕ → List (ℕ × ℕ)) → Type 0
RowsAreTied end links rows = (e : (ℕ × ℕ) × (ℕ × ℕ)) → (lookup (is_at (nat_cmp e.0.1)) (rows (e.0.0, end_of e.1 end)) ≡ Some (end_of e.1 (opposite end)))
    ↔ (lookup (is_at (link_cmp e.0)) links ≡ Some e.1)

-- links, with the stamps of pairs and the rows of both ends
pub record LinksAreTied (links : List ((ℕ × ℕ) × (ℕ × ℕ))) (stamps : ℕ × (ℕ × ℕ) → Option ℕ) (seconds firsts : ℕ × ℕ → List (ℕ × ℕ)) : Type 0 where
  pub ordered : IsStrictlySortedBy link_cmp (keys_of links)
  pub seconds_ordered : RowsAreOrdered seconds
  pub firsts_ordered : RowsAreOrdered firsts
  pub stamps_tied : (e : (ℕ × ℕ) × (ℕ × ℕ)) → (stamps (by_pair e) ≡ Some e.0.1) ↔ (lookup (is_at (link_cmp e.0)) links ≡ Some e.1)
  pub seconds_tied : RowsAreTied First links seconds
  pub firsts_tied : RowsAreTied Second links firsts

-- the pair with an object at an end, and another at the opposite one
abbrev pub pair_at : End → ℕ → ℕ → ℕ × ℕ
pair_at First o p = (o, p)
pair_at Second o p = (p, o)

-- the stamp of a pair that an association links, and the objects at an end of an object
abbrev pub stamp_in : List ((ℕ × ℕ) × (ℕ × ℕ)) → ℕ → ℕ → ℕ → Option ℕ
stamp_in links a first second = option_map (λ e. e.0.1) (find (λ e. nat_eq e.0.0 a && nat_eq e.1.0 first && nat_eq e.1.1 second) links)

abbrev pub joined_in : List ((ℕ × ℕ) × (ℕ × ℕ)) → ℕ → End → ℕ → List ℕ
joined_in links a e o = map (λ entry. end_of entry.1 e) (filter (has_at a (opposite e) o) links)

abbrev pub pairs_in : List ((ℕ × ℕ) × (ℕ × ℕ)) → ℕ → List (ℕ × ℕ)
pairs_in links a = map (λ e. e.1) (filter (λ e. nat_eq e.0.0 a) links)

-- the objects of a layout
pub record Objects : Type 0 where
  pub layout : Layout
  pub objects : List (ℕ × Object)

abbrev pub object_in : List (ℕ × Object) → ℕ → Option Object
object_in objects o = lookup (is_at (nat_cmp o)) objects

-- whether there is an object, of a class
abbrev pub has_class : Layout → Option Object → ℕ → Bool
has_class l x c = option_map_or (λ x. is_a l x.class c) x false

-- the pairs of a class and an object
abbrev pub has_pair : List (ℕ × ℕ) → ℕ → ℕ → Bool
has_pair pairs c o = list_any (is_at (link_cmp (c, o))) pairs

-- a pair is there now, or it is not, and the others are as they were
abbrev pub Marks : Bool → ℕ × ℕ → List (ℕ × ℕ) → List (ℕ × ℕ) → Type 0
Marks mark k old new = (q : ℕ × ℕ) → list_any (is_at (link_cmp q)) new ≡ (if is_at (link_cmp k) q then mark else list_any (is_at (link_cmp q)) old)

-- whether a pair is of an object and one of some classes
abbrev pub is_one : List ℕ → ℕ → ℕ → ℕ → Bool
is_one classes object c o = nat_eq o object && list_any (nat_eq c) classes

-- objects, with the numbers of names, and the objects of each class
pub record ObjectsAreTied (l : Layout) (objects : List (ℕ × Object)) (numbers : List ℕ → Option ℕ) (extents : List (ℕ × ℕ)) : Type 0 where
  pub ordered : IsStrictlySortedBy nat_cmp (keys_of objects)
  pub extents_ordered : IsStrictlySortedBy link_cmp extents
  pub small : (o : ℕ) (x : Object) → object_in objects o ≡ Some x → o < 2 ^ 32
  pub names_tied : (name : List ℕ) (o : ℕ) → (numbers name ≡ Some o) ↔ (option_map (λ x. x.name) (object_in objects o) ≡ Some name)
  pub extents_tied : (c o : ℕ) → has_pair extents c o ≡ has_class l (object_in objects o) c

-- the number of the object of a name, and the objects of a class and its descendants
abbrev pub named_in : List (ℕ × Object) → List ℕ → Option ℕ
named_in objects name = option_map (λ e. e.0) (find (λ e. pointwise nat_eq e.1.name name) objects)

abbrev pub extent_in : Layout → List (ℕ × Object) → ℕ → List ℕ
extent_in l objects c = map (λ e. e.0) (filter (λ e. is_a l e.1.class c) objects)
