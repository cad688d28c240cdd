-- What `info class` writes.
use Rattle.std.specs.Prelude.{ℕ, if◌then◌else◌, List, [], ◌∷◌, ◌++◌, codes, length, map, Option}
use Rattle.std.specs.List.{flat_map, join_with_byte}
use Rattle.std.specs.Option.{option_map_or}
use Rattle.class_model.specs.Features.{attrs, ops}
use Rattle.class_model.specs.Parts.{attr_name, attr_type, class_name, is_abstract, op_name, op_params, op_result, parents}
use Rattle.class_model.specs.declared.object_model.ObjectModel.{ObjectModel}
use Rattle.class_model.specs.declared.object_model.Parameter.{Parameter}
use Rattle.class_model.specs.declared.types.OclType.{OclType}
use Rattle.object_state.specs.Layouts.{layout_of}
use Rattle.object_state.specs.Looks.{extent}
use Rattle.object_state.specs.State.{State}
use Rattle.use_info.specs.Counts.{count_line}
use Rattle.use_info.specs.TypeTexts.{type_text}

-- ` < A,B`: commas (44) part the parents
abbrev pub parents_text : ObjectModel → List ℕ → List ℕ
parents_text m [] = []
parents_text m (p ∷ ps) = codes " < " ++ join_with_byte 44 (map (class_name m) (p ∷ ps))

-- `class C < A,B`, `abstract class C`
abbrev pub class_line : ObjectModel → ℕ → List ℕ
class_line m c = (if is_abstract m c then codes "abstract " else []) ++ codes "class " ++ class_name m c ++ parents_text m (parents m c) ++ codes "\n"

-- `attribute N : T`
abbrev pub attribute_line : ObjectModel → ℕ → List ℕ
attribute_line m a = codes "attribute " ++ attr_name m a ++ codes " : " ++ type_text m (attr_type m a) ++ codes "\n"

-- `P : T, Q : U`
abbrev pub parameter_text : ObjectModel → Parameter → List ℕ
parameter_text m p = p.name ++ codes " : " ++ type_text m p.of_type

abbrev pub parameters_text : ObjectModel → List Parameter → List ℕ
parameters_text m [] = []
parameters_text m (p ∷ ps) = parameter_text m p ++ flat_map (λ q. codes ", " ++ parameter_text m q) ps

abbrev pub result_text : ObjectModel → Option OclType → List ℕ
result_text m t = option_map_or (λ r. codes " : " ++ type_text m r) t []

-- `operation N(P : T, Q : U) : R`
abbrev pub operation_line : ObjectModel → ℕ → List ℕ
operation_line m o = codes "operation " ++ op_name m o ++ codes "(" ++ parameters_text m (op_params m o) ++ codes ")" ++ result_text m (op_result m o) ++ codes "\n"

-- the instances are those of the descendants too
abbrev pub class_info : ObjectModel → State → ℕ → List ℕ
class_info m s c =
    class_line m c ++ flat_map (attribute_line m) (attrs m c) ++ flat_map (operation_line m) (ops m c)
    ++ count_line (codes "instances") (length (extent (layout_of m) s c))
