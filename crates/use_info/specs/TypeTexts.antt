-- The texts of types.
use Rattle.std.specs.Prelude.{ℕ, List, ◌++◌, codes}
use Rattle.ocl_values.specs.Printing.{kind_name}
use Rattle.class_model.specs.Parts as parts
use Rattle.class_model.specs.declared.object_model.ObjectModel.{ObjectModel}
use Rattle.class_model.specs.declared.types.OclType.{OclType, more_of-OclType}
use Rattle.class_model.specs.declared.types.OclType.TheVariants as T

-- names; what is no class and no enumeration has none
abbrev pub class_text : ObjectModel → ℕ → List ℕ
class_text m c = parts.class_name m c

abbrev pub enum_text : ObjectModel → ℕ → List ℕ
enum_text m e = parts.enum_name m e

abbrev pub type_text : ObjectModel → OclType → List ℕ
type_text m T.Any = codes "OclAny"
type_text m T.Void = codes "OclVoid"
type_text m T.Bool = codes "Boolean"
type_text m T.Int = codes "Integer"
type_text m T.Str = codes "String"
type_text m (T.Enum e) = enum_text m e
type_text m (T.Class c) = class_text m c
type_text m (T.Coll' kind shape (more_of-OclType t rest)) = kind_name kind ++ codes "(" ++ type_text m t ++ codes ")"
