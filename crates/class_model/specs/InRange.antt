-- Which numbers the parts of a model may hold, and how many parts there may be.
use Rattle.std.specs.Prelude.{ℕ, ⊤, ◌<◌, ◌≤◌, ◌^◌, length, All}
use Rattle.std.specs.Option.{ForSome}
use Rattle.class_model.specs.declared.object_model.ObjectModel.{ObjectModel}
use Rattle.class_model.specs.declared.types.OclType.{OclType, more_of-OclType}
use Rattle.class_model.specs.declared.types.OclType.TheVariants as T
use Rattle.class_model.specs.Inheritance.{IsAcyclic}

-- a type of a model with so many classes and enumerations
abbrev pub IsTypeAmong : ℕ → ℕ → OclType → Type 0
IsTypeAmong classes enums T.Any = ⊤
IsTypeAmong classes enums T.Void = ⊤
IsTypeAmong classes enums T.Bool = ⊤
IsTypeAmong classes enums T.Int = ⊤
IsTypeAmong classes enums T.Str = ⊤
IsTypeAmong classes enums (T.Enum e) = e < enums
IsTypeAmong classes enums (T.Class c) = c < classes
IsTypeAmong classes enums (T.Coll' kind shape (more_of-OclType element rest)) = IsTypeAmong classes enums element

-- a type of a model
abbrev pub IsTypeOf : ObjectModel → OclType → Type 0
IsTypeOf m t = IsTypeAmong (length m.classes) (length m.enums) t

-- how much there may be
pub record IsSmall (m : ObjectModel) : Type 0 where
  pub classes : length m.classes ≤ 200
  pub enums : length m.enums ≤ 200
  pub literals : All (λ e. length e.literals ≤ 1000) m.enums
  pub attrs : length m.attrs < 2 ^ 32
  pub derived : length m.derived < 2 ^ 32
  pub ops : length m.ops < 2 ^ 32
  pub assocs : length m.assocs ≤ 200

-- parents have smaller numbers, and each class and enumeration that a part names is there
pub record IsInRange (m : ObjectModel) : Type 0 where
  pub small : IsSmall m
  pub acyclic : IsAcyclic m
  pub attr_classes : All (λ a. a.class < length m.classes) m.attrs
  pub attr_types : All (λ a. IsTypeOf m a.of_type) m.attrs
  pub derived_classes : All (λ a. a.class < length m.classes) m.derived
  pub derived_types : All (λ a. IsTypeOf m a.of_type) m.derived
  pub op_classes : All (λ o. o.class < length m.classes) m.ops
  pub param_types : All (λ o. All (λ p. IsTypeOf m p.of_type) o.params) m.ops
  pub result_types : All (λ o. ForSome o.result_type (IsTypeOf m)) m.ops
  pub first_ends : All (λ a. a.first.class < length m.classes) m.assocs
  pub second_ends : All (λ a. a.second.class < length m.classes) m.assocs
