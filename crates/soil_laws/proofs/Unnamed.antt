-- The types of what the definitions of statements take and give, where another crate cannot name them.
use Rattle.ocl_rules.specs.Typings.{Typing}
use Rattle.soil_types.specs.Aims.{attribute_read}
use Rattle.soil_types.specs.Assignments.{act_of, right_side, wanted_type}
use Rattle.soil_types.specs.ObjectForms.{ends_of, new_object}

module _ {A B : Type 0} where
  abbrev TakenBy : (A → B) → Type 0
  TakenBy f = A

  abbrev GivenBy : (A → B) → Type 0
  GivenBy f = B

module _ {A B C D : Type 0} where
  abbrev TypedBy : (A → B → C → Typing D) → Type 0
  TypedBy f = D

module _ {A B C D E : Type 0} where
  abbrev TypedByFour : (A → B → C → D → Typing E) → Type 0
  TypedByFour f = E

-- what an assignment names, where it stores, where the value is from, and the value with its type
abbrev pub Aim : Type 0
Aim = GivenBy attribute_read

abbrev pub Storage : Type 0
Storage = TakenBy wanted_type

abbrev pub Source : Type 0
Source = TakenBy act_of

abbrev pub Assigned : Type 0
Assigned = TypedBy right_side

-- a new object, and two objects that are linked
abbrev pub NewObject : Type 0
NewObject = TypedBy new_object

abbrev pub Ends : Type 0
Ends = TypedByFour ends_of
