-- What the things of a model are, each by its number; past the last number there is no name, and what else is asked is empty too.
use Rattle.std.specs.Prelude.{ℕ, Bool, false, List, [], length, Option, Some, None, slice_get, unwrap_or}
use Rattle.std.specs.Option.{option_and_then, option_map_or}
use Rattle.class_decls.specs.declared.decls.BodyKind.{BodyKind}
use Rattle.class_decls.specs.declared.decls.BodyKind.TheVariants.{Bare}
use Rattle.class_model.specs.Ends.{end_of}
use Rattle.class_model.specs.Features.{class_at}
use Rattle.class_model.specs.declared.multiplicity.Multiplicity.{Multiplicity}
use Rattle.class_model.specs.declared.numbers.End.{End}
use Rattle.class_model.specs.declared.object_model.Attribute.{Attribute}
use Rattle.class_model.specs.declared.object_model.ObjectModel.{ObjectModel}
use Rattle.class_model.specs.declared.object_model.Parameter.{Parameter}
use Rattle.class_model.specs.declared.types.OclType.{OclType}
use Rattle.class_model.specs.declared.types.OclType.TheVariants.{Any}

-- classes
abbrev pub class_name : ObjectModel → ℕ → List ℕ
class_name m c = option_map_or (λ d. d.name) (slice_get m.classes c) []

abbrev pub is_abstract : ObjectModel → ℕ → Bool
is_abstract m c = option_map_or (λ d. d.is_abstract) (slice_get m.classes c) false

abbrev pub parents : ObjectModel → ℕ → List ℕ
parents m c = option_map_or (λ d. d.parents) (slice_get m.classes c) []

-- attributes, stored or derived
abbrev pub name_of : List Attribute → ℕ → List ℕ
name_of attrs a = option_map_or (λ d. d.name) (slice_get attrs a) []

abbrev pub type_of : List Attribute → ℕ → OclType
type_of attrs a = option_map_or (λ d. d.of_type) (slice_get attrs a) Any

abbrev pub class_of : List Attribute → ℕ → ℕ
class_of attrs a = option_map_or (λ d. d.class) (slice_get attrs a) 0

abbrev pub attr_name : ObjectModel → ℕ → List ℕ
attr_name m a = name_of m.attrs a

abbrev pub attr_type : ObjectModel → ℕ → OclType
attr_type m a = type_of m.attrs a

abbrev pub attr_class : ObjectModel → ℕ → ℕ
attr_class m a = class_of m.attrs a

abbrev pub der_name : ObjectModel → ℕ → List ℕ
der_name m a = name_of m.derived a

abbrev pub der_type : ObjectModel → ℕ → OclType
der_type m a = type_of m.derived a

abbrev pub der_class : ObjectModel → ℕ → ℕ
der_class m a = class_of m.derived a

-- declarations of operations
abbrev pub op_name : ObjectModel → ℕ → List ℕ
op_name m o = option_map_or (λ d. d.name) (slice_get m.ops o) []

abbrev pub op_params : ObjectModel → ℕ → List Parameter
op_params m o = option_map_or (λ d. d.params) (slice_get m.ops o) []

abbrev pub op_result : ObjectModel → ℕ → Option OclType
op_result m o = option_and_then (λ d. d.result_type) (slice_get m.ops o)

abbrev pub op_class : ObjectModel → ℕ → ℕ
op_class m o = class_at m.ops o

abbrev pub op_body_kind : ObjectModel → ℕ → BodyKind
op_body_kind m o = option_map_or (λ d. d.body) (slice_get m.ops o) Bare

-- associations and their ends
abbrev pub assoc_name : ObjectModel → ℕ → List ℕ
assoc_name m a = option_map_or (λ d. d.name) (slice_get m.assocs a) []

abbrev pub role_name : ObjectModel → ℕ → End → List ℕ
role_name m a e = option_map_or (λ d. (end_of d e).role) (slice_get m.assocs a) []

abbrev pub end_class : ObjectModel → ℕ → End → ℕ
end_class m a e = option_map_or (λ d. (end_of d e).class) (slice_get m.assocs a) 0

abbrev pub is_ordered : ObjectModel → ℕ → End → Bool
is_ordered m a e = option_map_or (λ d. (end_of d e).is_ordered) (slice_get m.assocs a) false

abbrev pub multiplicity : ObjectModel → ℕ → End → Multiplicity
multiplicity m a e = option_map_or (λ d. (end_of d e).multiplicity) (slice_get m.assocs a) (record { spans = []; spec = [] })

-- enumerations and their literals
abbrev pub enum_name : ObjectModel → ℕ → List ℕ
enum_name m e = option_map_or (λ d. d.name) (slice_get m.enums e) []

abbrev pub literals : ObjectModel → ℕ → List (List ℕ)
literals m e = option_map_or (λ d. d.literals) (slice_get m.enums e) []

abbrev pub literal_count : ObjectModel → ℕ → ℕ
literal_count m e = length (literals m e)

abbrev pub literal_name : ObjectModel → ℕ → ℕ → List ℕ
literal_name m e l = unwrap_or (slice_get (literals m e) l) []
