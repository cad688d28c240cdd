-- Conformance of types, and the type that two types have in common.
use Rattle.std.specs.Prelude.{◌≡◌, ℕ, Bool, true, false, ◌&&◌, nat_eq, if◌then◌else◌, IsTrue, List, filter, find, Option, Some, None}
use Rattle.std.specs.List.{list_all}
use Rattle.std.specs.Option.{option_map_or}
use Rattle.ocl_values.specs.declared.value.Kind.{Kind}
use Rattle.ocl_values.specs.contracts.value.KindPartialEq.TheImpl.{ghosts as kind_ghosts}
use Rattle.class_model.specs.declared.object_model.ObjectModel.{ObjectModel}
use Rattle.class_model.specs.declared.types.OclType.{OclType, more_of-OclType}
use Rattle.class_model.specs.declared.types.OclType.TheVariants as T
use Rattle.class_model.specs.Inheritance.{ancestors, is_a}

-- when values of one type are values of another
pub data Conforms (m : ObjectModel) : OclType → OclType → Type 0 where
  itself : (t : OclType) → Conforms m t t
  to_any : (t : OclType) → Conforms m t T.Any
  from_void : (t : OclType) → Conforms m T.Void t
  to_ancestor : (c d : ℕ) → IsTrue (is_a m c d) → Conforms m (T.Class c) (T.Class d)
  by_elements : (kind : Kind) (a b : OclType) → Conforms m a b → Conforms m (T.Coll kind a) (T.Coll kind b)

-- the same, computed
abbrev pub conforms : ObjectModel → OclType → OclType → Bool
conforms m a T.Any = true
conforms m T.Void b = true
conforms m T.Bool T.Bool = true
conforms m T.Int T.Int = true
conforms m T.Str T.Str = true
conforms m (T.Enum e) (T.Enum f) = nat_eq e f
conforms m (T.Class c) (T.Class d) = is_a m c d
conforms m (T.Coll' k s (more_of-OclType a r)) (T.Coll' l t (more_of-OclType b q)) = kind_ghosts.eq k l && conforms m a b
conforms m a b = false

-- the common ancestors of two classes
abbrev pub common_ancestors : ObjectModel → ℕ → ℕ → List ℕ
common_ancestors m c d = filter (is_a m d) (ancestors m c)

-- the one of some classes that inherits from all others
abbrev pub lowest : ObjectModel → List ℕ → Option ℕ
lowest m classes = find (λ c. list_all (is_a m c) classes) classes

-- the one of two types to which the other conforms, else a third
abbrev pub wider : ObjectModel → OclType → OclType → OclType → OclType
wider m a b other = if conforms m a b then b else (if conforms m b a then a else other)

-- the join of two types: the one to which the other conforms; else of two classes their only least common ancestor; else of two
-- collections of one kind that kind of the join of their elements; else OclAny
abbrev pub join : ObjectModel → OclType → OclType → OclType
join m (T.Class c) (T.Class d) = wider m (T.Class c) (T.Class d) (option_map_or T.Class (lowest m (common_ancestors m c d)) T.Any)
join m (T.Coll' k s (more_of-OclType a r)) (T.Coll' l t (more_of-OclType b q)) =
    wider m (T.Coll k a) (T.Coll l b) (if kind_ghosts.eq k l then T.Coll k (join m a b) else T.Any)
join m a b = wider m a b T.Any

-- the least type to which two types conform: they conform to it, and it conforms to each to which they do
pub record IsLeast (m : ObjectModel) (a b least : OclType) : Type 0 where
  pub first : conforms m a least ≡ true
  pub second : conforms m b least ≡ true
  pub below : (t : OclType) → conforms m a t ≡ true → conforms m b t ≡ true → conforms m least t ≡ true
