-- Object diagrams: the live objects, the links and the variables, each list in the order of its keys, and two counters.
use Rattle.std.specs.Prelude.{ℕ, ◌&&◌, nat_eq, List, [], Option}
use Rattle.std.specs.declared.cmp.Ordering.{Ordering}
use Rattle.std.specs.BTreeMap.{is_at}
use Rattle.std.specs.Cmp.Lexicographic.{pointwise, slice_cmp}
use Rattle.std.specs.List.{find}
use Rattle.std.specs.Map.{lookup}
use Rattle.std.specs.Option.{option_map}
use Rattle.std.specs.Ordering.{nat_cmp, ordering_then}
use Rattle.object_state.specs.declared.layout.Layout.{Layout}
use Rattle.object_state.specs.declared.objects.Object.{Object}
use Rattle.object_state.specs.declared.objects.Variable.{Variable}

pub record State : Type 0 where
  -- objects by number
  pub objects : List (ℕ × Object)
  -- by association and stamp, the two objects that a link joins
  pub links : List ((ℕ × ℕ) × (ℕ × ℕ))
  -- variables by name
  pub variables : List (List ℕ × Variable)
  -- the number of the next object, and the stamp of the next link
  pub next_object : ℕ
  pub next_stamp : ℕ

-- a state, with what it needs of its model
pub record Diagram : Type 0 where
  pub layout : Layout
  pub state : State

-- links go by association and then by stamp, names by their bytes
abbrev pub link_cmp : ℕ × ℕ → ℕ × ℕ → Ordering
link_cmp a b = ordering_then (nat_cmp a.0 b.0) (nat_cmp a.1 b.1)

abbrev pub text_cmp : List ℕ → List ℕ → Ordering
text_cmp = slice_cmp nat_cmp

-- the object of a number, the ends of a link, the variable of a name
abbrev pub object : State → ℕ → Option Object
object s o = lookup (is_at (nat_cmp o)) s.objects

abbrev pub link : State → ℕ × ℕ → Option (ℕ × ℕ)
link s k = lookup (is_at (link_cmp k)) s.links

abbrev pub variable : State → List ℕ → Option Variable
variable s name = lookup (is_at (text_cmp name)) s.variables

-- the object of a name
abbrev pub object_named : State → List ℕ → Option ℕ
object_named s name = option_map (λ e. e.0) (find (λ e. pointwise nat_eq e.1.name name) s.objects)

-- the stamp of the link of two objects in an association
abbrev pub stamp_of : State → ℕ → ℕ → ℕ → Option ℕ
stamp_of s a first second = option_map (λ e. e.0.1) (find (λ e. nat_eq e.0.0 a && nat_eq e.1.0 first && nat_eq e.1.1 second) s.links)

-- no object, link or variable
abbrev pub empty : State
empty = record { objects = []; links = []; variables = []; next_object = 1; next_stamp = 1 }
