-- Why a change does not fit a state, and what its old parts must agree with.
use Rattle.std.specs.Prelude.{◌≡◌, ◌≢◌, ℕ, ◌+◌, ◌<◌, ◌≤◌, Bool, true, false, not, ◌&&◌, ◌||◌, nat_eq, nat_le, nat_lt, if◌then◌else◌, List, [], ◌∷◌, length, Option, Some, None}
use Rattle.std.specs.List.{All}
use Rattle.std.specs.Option.{is_some}
use Rattle.ocl_values.specs.declared.value.Value.{Value}
use Rattle.ocl_values.specs.Shape.{IsWellMade}
use Rattle.class_model.specs.declared.numbers.End.TheVariants.{First, Second}
use Rattle.object_state.specs.declared.change.Change.{Change}
use Rattle.object_state.specs.declared.change.Change.TheVariants.{Create, Remove, SetSlot, Link, Unlink, Bind, Unbind}
use Rattle.object_state.specs.declared.change.LinkChange.{LinkChange}
use Rattle.object_state.specs.declared.change.ObjectChange.{ObjectChange}
use Rattle.object_state.specs.declared.store_fault.StoreFault.{StoreFault}
use Rattle.object_state.specs.declared.store_fault.StoreFault.TheVariants.{X1, X2, X3, X4, X5, X6, X7, X8, X15}
use Rattle.object_state.specs.declared.layout.Layout.{Layout}
use Rattle.object_state.specs.declared.objects.Object.{Object}
use Rattle.object_state.specs.declared.objects.Variable.{Variable}
use Rattle.object_state.specs.Changes.{object_of}
use Rattle.object_state.specs.Layouts.{attrs, is_abstract, may_stand, slot}
use Rattle.object_state.specs.State.{State, object, object_named, link, variable, stamp_of}
use Rattle.object_state.specs.Valid.{last_number, max_objects, max_links, max_weight}
use Rattle.object_state.specs.Weights.{gained, lost, weight}

-- X1: the name that a change gives is taken, by an object, or from an object by a variable
abbrev pub takes_name : State → Change → Bool
takes_name s (Create d) = is_some (object_named s d.name) || is_some (variable s d.name)
takes_name s (Bind name old new) = is_some (object_named s name)
takes_name s c = false

-- X2: an object of an abstract class is created
abbrev pub creates_abstract : Layout → Change → Bool
creates_abstract l (Create d) = is_abstract l d.class
creates_abstract l c = false

-- X3 and X4: the pair is linked already; it is not
abbrev pub is_linked : State → LinkChange → Bool
is_linked s d = is_some (stamp_of s d.assoc d.first d.second)

abbrev pub links_again : State → Change → Bool
links_again s (Link d) = is_linked s d
links_again s c = false

abbrev pub lacks_link : State → Change → Bool
lacks_link s (Unlink d) = not (is_linked s d)
lacks_link s c = false

-- X5: an object of the change is not live
abbrev pub is_gone : State → ℕ → Bool
is_gone s o = not (is_some (object s o))

abbrev pub lacks_object : State → Change → Bool
lacks_object s (Remove d) = is_gone s d.object
lacks_object s (SetSlot o a old new) = is_gone s o
lacks_object s (Link d) = is_gone s d.first || is_gone s d.second
lacks_object s (Unlink d) = is_gone s d.first || is_gone s d.second
lacks_object s c = false

-- X6 and X7: there are as many objects, as many links as may be
abbrev pub fills_objects : State → Change → Bool
fills_objects s (Create d) = nat_le max_objects (length s.objects)
fills_objects s c = false

abbrev pub fills_links : State → Change → Bool
fills_links s (Link d) = nat_le max_links (length s.links)
fills_links s c = false

-- X15: the number of the object, or the stamp of the link, is the last one
abbrev pub spends_counter : Change → Bool
spends_counter (Create d) = nat_eq d.object last_number
spends_counter (Link d) = nat_eq d.stamp last_number
spends_counter c = false

-- X8: the state grows past what it may weigh
abbrev pub grows_too_large : State → Change → Bool
grows_too_large s c = nat_lt (lost c) (gained c) && nat_lt (max_weight + lost c) (weight s + gained c)

-- the first fault that there is
abbrev pub first_fault : List (Bool × StoreFault) → Option StoreFault
first_fault [] = None
first_fault (test ∷ tests) = if test.0 then Some test.1 else first_fault tests

abbrev pub fault : Layout → State → Change → Option StoreFault
fault l s c = first_fault ((takes_name s c, X1) ∷ (creates_abstract l c, X2) ∷ (links_again s c, X3) ∷ (lacks_link s c, X4)
    ∷ (lacks_object s c, X5) ∷ (fills_objects s c, X6) ∷ (fills_links s c, X7) ∷ (spends_counter c, X15) ∷ (grows_too_large s c, X8) ∷ [])

-- what is created has a class of the model and a well-made value for each attribute; the counter is the state's, and where it is not spent
-- the number is free, and numbers stay below the counter
pub record CreationAgrees (l : Layout) (s : State) (d : ObjectChange) : Type 0 where
  pub known : d.class < length l.classes
  pub whole : length d.slots ≡ length (attrs l d.class)
  pub values : All IsWellMade d.slots
  pub before : d.before ≡ s.next_object
  pub after : d.after ≤ last_number
  pub free : d.object ≢ last_number → object s d.object ≡ None
  pub number : d.object ≢ last_number → d.object < d.after
  pub others : d.object ≢ last_number → (o : ℕ) (x : Object) → object s o ≡ Some x → o < d.after

-- what is removed is as the state has it, where it is live, and has no link; the numbers of the others are below the counter
pub record RemovalAgrees (l : Layout) (s : State) (d : ObjectChange) : Type 0 where
  pub known : d.class < length l.classes
  pub values : All IsWellMade d.slots
  pub before : d.before ≡ s.next_object
  pub after : d.after ≤ last_number
  pub same : (x : Object) → object s d.object ≡ Some x → x ≡ object_of d
  pub unlinked : (k : ℕ × ℕ) (pair : ℕ × ℕ) → link s k ≡ Some pair → (pair.0 ≢ d.object) × (pair.1 ≢ d.object)
  pub others : (o : ℕ) (x : Object) → object s o ≡ Some x → o ≢ d.object → o < d.after

-- a live object has the attribute, with the old value
pub record SettingAgrees (l : Layout) (s : State) (o a : ℕ) (old new : Value) : Type 0 where
  pub values : IsWellMade old × IsWellMade new
  pub same : (x : Object) → object s o ≡ Some x → slot l x a ≡ Some old

-- live objects are of the classes at the ends
pub record EndsAgree (l : Layout) (s : State) (d : LinkChange) : Type 0 where
  pub known : d.assoc < length l.assocs
  pub first : (x : Object) → object s d.first ≡ Some x → may_stand l d.assoc First x.class ≡ true
  pub second : (x : Object) → object s d.second ≡ Some x → may_stand l d.assoc Second x.class ≡ true
  pub before : d.before ≡ s.next_stamp
  pub after : d.after ≤ last_number

-- of a new link, the stamp is free where it is not the last one, and stamps stay below the counter
pub record LinkingAgrees (l : Layout) (s : State) (d : LinkChange) : Type 0 where
  pub ends : EndsAgree l s d
  pub free : d.stamp ≢ last_number → (k : ℕ × ℕ) (pair : ℕ × ℕ) → link s k ≡ Some pair → k.1 ≢ d.stamp
  pub stamp : d.stamp ≢ last_number → d.stamp < d.after
  pub others : d.stamp ≢ last_number → (k : ℕ × ℕ) (pair : ℕ × ℕ) → link s k ≡ Some pair → k.1 < d.after

-- a link that goes has the stamp that the state has; the stamps of the others are below the counter
pub record UnlinkingAgrees (l : Layout) (s : State) (d : LinkChange) : Type 0 where
  pub ends : EndsAgree l s d
  pub same : (k : ℕ × ℕ) → link s k ≡ Some (d.first, d.second) → k.0 ≡ d.assoc → k.1 ≡ d.stamp
  pub others : (k : ℕ × ℕ) (pair : ℕ × ℕ) → link s k ≡ Some pair → k.1 ≢ d.stamp → k.1 < d.after

-- the variable is as the state has it, also where there is none
pub record BindingAgrees (s : State) (name : List ℕ) (old : Option Variable) (new : Variable) : Type 0 where
  pub value : IsWellMade new.value
  pub same : variable s name ≡ old

-- the old parts of a change agree with a state
abbrev pub OldPartsAgree : Layout → State → Change → Type 0
OldPartsAgree l s (Create d) = CreationAgrees l s d
OldPartsAgree l s (Remove d) = RemovalAgrees l s d
OldPartsAgree l s (SetSlot o a old new) = SettingAgrees l s o a old new
OldPartsAgree l s (Link d) = LinkingAgrees l s d
OldPartsAgree l s (Unlink d) = UnlinkingAgrees l s d
OldPartsAgree l s (Bind name old new) = BindingAgrees s name old new
OldPartsAgree l s (Unbind name old) = variable s name ≡ Some old

-- a change fits a state: its old parts agree, and there is no fault
pub record Fits (l : Layout) (s : State) (c : Change) : Type 0 where
  pub agrees : OldPartsAgree l s c
  pub faultless : fault l s c ≡ None
