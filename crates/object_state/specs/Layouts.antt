-- What a state needs of its model: of each class whether it is abstract, its attributes and ancestors; of each association the classes at its ends.
use Rattle.std.specs.Prelude.{ℕ, Bool, false, nat_eq, List, [], map, Option, slice_get}
use Rattle.std.specs.List.{enumerate_from, list_any, position}
use Rattle.std.specs.Option.{option_and_then, option_map_or}
use Rattle.ocl_values.specs.declared.value.Value.{Value}
use Rattle.class_model.specs.declared.numbers.End.{End}
use Rattle.class_model.specs.declared.numbers.End.TheVariants.{First, Second}
use Rattle.class_model.specs.declared.object_model.Association.{Association}
use Rattle.class_model.specs.declared.object_model.ObjectModel.{ObjectModel}
use Rattle.class_model.specs.Features as model
use Rattle.class_model.specs.Inheritance as model_classes
use Rattle.object_state.specs.declared.layout.AssocLayout.{AssocLayout}
use Rattle.object_state.specs.declared.layout.ClassLayout.{ClassLayout}
use Rattle.object_state.specs.declared.layout.Layout.{Layout}
use Rattle.object_state.specs.declared.objects.Object.{Object}

-- the layout of a model
abbrev pub class_layout : ObjectModel → ℕ → Bool → ClassLayout
class_layout m c is_abstract = record { is_abstract = is_abstract; attrs = model.attrs m c; ancestors = model_classes.ancestors m c }

abbrev pub class_layouts : ObjectModel → List ClassLayout
class_layouts m = map (λ c. class_layout m c.0 c.1.is_abstract) (enumerate_from 0 m.classes)

abbrev pub assoc_layout : Association → AssocLayout
assoc_layout a = record { first = a.first.class; second = a.second.class }

abbrev pub assoc_layouts : List Association → List AssocLayout
assoc_layouts assocs = map assoc_layout assocs

abbrev pub layout_of : ObjectModel → Layout
layout_of m = record { classes = class_layouts m; assocs = assoc_layouts m.assocs }

abbrev pub is_abstract : Layout → ℕ → Bool
is_abstract l c = option_map_or (λ x. x.is_abstract) (slice_get l.classes c) false

-- the attributes of a class, in the order in which its objects keep their values
abbrev pub attrs : Layout → ℕ → List ℕ
attrs l c = option_map_or (λ x. x.attrs) (slice_get l.classes c) []

-- a class and its ancestors
abbrev pub ancestors : Layout → ℕ → List ℕ
ancestors l c = option_map_or (λ x. x.ancestors) (slice_get l.classes c) []

abbrev pub is_a : Layout → ℕ → ℕ → Bool
is_a l c d = list_any (nat_eq d) (ancestors l c)

-- the class at an end
abbrev pub class_at : AssocLayout → End → ℕ
class_at a First = a.first
class_at a Second = a.second

-- whether objects of a class may stand at an end of an association
abbrev pub may_stand : Layout → ℕ → End → ℕ → Bool
may_stand l a e c = option_map_or (λ x. is_a l c (class_at x e)) (slice_get l.assocs a) false

-- where an object of a class keeps an attribute
abbrev pub place : Layout → ℕ → ℕ → Option ℕ
place l c a = position (nat_eq a) (attrs l c)

-- the value of an attribute
abbrev pub slot : Layout → Object → ℕ → Option Value
slot l x a = option_and_then (slice_get x.slots) (place l x.class a)
