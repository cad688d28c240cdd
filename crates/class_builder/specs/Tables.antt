-- What a table of names says of the types that declarations write.
use Rattle.std.specs.HashMap.{HashMap, get_by_text}
use Rattle.std.specs.declared.string.String.{String}
use Rattle.class_decls.specs.declared.decls.TypeDecl.{TypeDecl}
use Rattle.class_model.specs.declared.types.OclType.{OclType}
use Rattle.class_builder.specs.Models.{type_by}

abbrev pub type_in : {A S : Type 0} → HashMap (String A) OclType S → TypeDecl → OclType
type_in names t = type_by (λ text. get_by_text names text) t
