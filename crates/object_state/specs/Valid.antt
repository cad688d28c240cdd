-- When a state is one of its model.
use Rattle.std.specs.Prelude.{◌≡◌, ℕ, ◌≤◌, ◌<◌, true, false, List, length, Some, None}
use Rattle.std.specs.BTreeMap.{is_at}
use Rattle.std.specs.List.{All}
use Rattle.std.specs.List.Sorted.{IsStrictlySortedBy}
use Rattle.std.specs.Map.{keys_of, lookup}
use Rattle.std.specs.Ordering.{nat_cmp}
use Rattle.ocl_values.specs.Shape.{IsWellMade}
use Rattle.class_model.specs.declared.numbers.End.TheVariants.{First, Second}
use Rattle.object_state.specs.declared.layout.Layout.{Layout}
use Rattle.object_state.specs.declared.objects.Object.{Object}
use Rattle.object_state.specs.declared.objects.Variable.{Variable}
use Rattle.object_state.specs.Layouts.{attrs, is_abstract}
use Rattle.object_state.specs.Looks.{stands}
use Rattle.object_state.specs.State.{State, object, link, variable, link_cmp, text_cmp}
use Rattle.object_state.specs.Weights.{weight}

-- the most objects and links of a state, and the most that it may weigh
abbrev pub max_objects : ℕ
max_objects = 10000

abbrev pub max_links : ℕ
max_links = 50000

abbrev pub max_weight : ℕ
max_weight = 1000000

-- the last value of both counters
abbrev pub last_number : ℕ
last_number = 4294967295

-- an object is of a class of the model that is not abstract, with one well-made value for each attribute
pub record IsInstance (l : Layout) (x : Object) : Type 0 where
  pub known : x.class < length l.classes
  pub concrete : is_abstract l x.class ≡ false
  pub whole : length x.slots ≡ length (attrs l x.class)
  pub values : All IsWellMade x.slots

-- objects: in the order of their numbers, within the limits, instances with different names, and numbers below the counter
pub record ObjectsAreValid (l : Layout) (objects : List (ℕ × Object)) (next : ℕ) : Type 0 where
  pub ordered : IsStrictlySortedBy nat_cmp (keys_of objects)
  pub fit : length objects ≤ max_objects
  pub counter : next ≤ last_number
  pub instances : (o : ℕ) (x : Object) → lookup (is_at (nat_cmp o)) objects ≡ Some x → IsInstance l x
  pub names : (o p : ℕ) (x y : Object) → lookup (is_at (nat_cmp o)) objects ≡ Some x → lookup (is_at (nat_cmp p)) objects ≡ Some y → x.name ≡ y.name → o ≡ p
  pub below : (o : ℕ) (x : Object) → lookup (is_at (nat_cmp o)) objects ≡ Some x → o < next

-- links: in the order of their associations and stamps, within the limits; in an association no pair is linked twice, no two links have one
-- stamp, and stamps are below the counter
pub record LinksAreValid (links : List ((ℕ × ℕ) × (ℕ × ℕ))) (next : ℕ) : Type 0 where
  pub ordered : IsStrictlySortedBy link_cmp (keys_of links)
  pub fit : length links ≤ max_links
  pub counter : next ≤ last_number
  pub once : (k m : ℕ × ℕ) (pair : ℕ × ℕ) → lookup (is_at (link_cmp k)) links ≡ Some pair → lookup (is_at (link_cmp m)) links ≡ Some pair → k.0 ≡ m.0
      → k.1 ≡ m.1
  pub stamps : (k m : ℕ × ℕ) (p q : ℕ × ℕ) → lookup (is_at (link_cmp k)) links ≡ Some p → lookup (is_at (link_cmp m)) links ≡ Some q → k.1 ≡ m.1 → k.0 ≡ m.0
  pub below : (k : ℕ × ℕ) (pair : ℕ × ℕ) → lookup (is_at (link_cmp k)) links ≡ Some pair → k.1 < next

-- variables: in the order of their names, with well-made values
pub record VariablesAreValid (variables : List (List ℕ × Variable)) : Type 0 where
  pub ordered : IsStrictlySortedBy text_cmp (keys_of variables)
  pub values : (name : List ℕ) (v : Variable) → lookup (is_at (text_cmp name)) variables ≡ Some v → IsWellMade v.value

-- a link joins live objects of the classes at its ends
pub record Joins (l : Layout) (s : State) (a : ℕ) (pair : ℕ × ℕ) : Type 0 where
  pub first : stands l s a First pair.0 ≡ true
  pub second : stands l s a Second pair.1 ≡ true

-- a state: no object has the name of a variable, links join live objects, and it weighs no more than it may
pub record IsValid (l : Layout) (s : State) : Type 0 where
  pub objects : ObjectsAreValid l s.objects s.next_object
  pub links : LinksAreValid s.links s.next_stamp
  pub variables : VariablesAreValid s.variables
  pub apart : (o : ℕ) (x : Object) → object s o ≡ Some x → variable s x.name ≡ None
  pub joins : (k : ℕ × ℕ) (pair : ℕ × ℕ) → link s k ≡ Some pair → Joins l s k.0 pair
  pub light : weight s ≤ max_weight
