-- The object model that declarations give.
use Rattle.std.specs.Prelude.{ℕ, Bool, not, List, [], ◌∷◌, ◌++◌, map, filter, codes, Option, slice_get, unwrap_or}
use Rattle.std.specs.List.{enumerate_from, filter_map, join_with_byte, position_from}
use Rattle.std.specs.Map.{lookup}
use Rattle.std.specs.Option.{option_map}
use Rattle.ocl_values.specs.declared.value.Kind.{Kind}
use Rattle.class_decls.specs.declared.decls.AssocDecl.{AssocDecl}
use Rattle.class_decls.specs.declared.decls.AttrDecl.{AttrDecl}
use Rattle.class_decls.specs.declared.decls.ClassDecl.{ClassDecl}
use Rattle.class_decls.specs.declared.decls.Decls.{Decls}
use Rattle.class_decls.specs.declared.decls.EndDecl.{EndDecl}
use Rattle.class_decls.specs.declared.decls.EnumDecl.{EnumDecl}
use Rattle.class_decls.specs.declared.decls.MultPart.{MultPart}
use Rattle.class_decls.specs.declared.decls.OpDecl.{OpDecl}
use Rattle.class_decls.specs.declared.decls.ParamDecl.{ParamDecl}
use Rattle.class_decls.specs.declared.decls.TypeDecl.{TypeDecl}
use Rattle.class_decls.specs.Names.{numbered}
use Rattle.class_decls.specs.Texts.{same_text}
use Rattle.class_rules.specs.Ancestors.{parent_numbers}
use Rattle.class_rules.specs.Numbering.{numbering, parent_places, row_at}
use Rattle.class_model.specs.declared.multiplicity.Multiplicity.{Multiplicity}
use Rattle.class_model.specs.declared.multiplicity.Span.{Span}
use Rattle.class_model.specs.declared.object_model.Association.{Association}
use Rattle.class_model.specs.declared.object_model.AssociationEnd.{AssociationEnd}
use Rattle.class_model.specs.declared.object_model.Attribute.{Attribute}
use Rattle.class_model.specs.declared.object_model.Class.{Class}
use Rattle.class_model.specs.declared.object_model.Enumeration.{Enumeration}
use Rattle.class_model.specs.declared.object_model.ObjectModel.{ObjectModel}
use Rattle.class_model.specs.declared.object_model.Operation.{Operation}
use Rattle.class_model.specs.declared.object_model.Parameter.{Parameter}
use Rattle.class_model.specs.declared.types.OclType.{OclType}
use Rattle.class_model.specs.declared.types.OclType.TheVariants as T

-- the classes by number
abbrev pub ordered : Decls → List ClassDecl
ordered ds = filter_map (slice_get ds.classes) (numbering (parent_places ds))

-- the names of plain types, and what they stand for
abbrev pub plain_names : List (List ℕ × OclType)
plain_names =
    (codes "Boolean", T.Bool) ∷ (codes "Integer", T.Int) ∷ (codes "String", T.Str) ∷ (codes "OclAny", T.Any) ∷ (codes "OclVoid", T.Void) ∷ []

-- those of enumerations, and of classes that stand in the order of their numbers
abbrev pub enum_names : List EnumDecl → List (List ℕ × OclType)
enum_names enums = map (λ p. (p.1.name.text, T.Enum p.0)) (enumerate_from 0 enums)

abbrev pub class_names : List ClassDecl → List (List ℕ × OclType)
class_names classes = map (λ p. (p.1.name.text, T.Class p.0)) (enumerate_from 0 classes)

-- the names of types
abbrev pub names_in : List EnumDecl → List ClassDecl → List (List ℕ × OclType)
names_in enums classes = plain_names ++ enum_names enums ++ class_names classes

-- what the name of a type stands for
abbrev pub named_in : List EnumDecl → List ClassDecl → List ℕ → Option OclType
named_in enums classes text = lookup (λ name. same_text name text) (names_in enums classes)

-- a type in collections, their kinds from the outside in
abbrev pub nested : List Kind → OclType → OclType
nested [] t = t
nested (kind ∷ kinds) t = T.Coll kind (nested kinds t)

-- the type that a declaration writes, by what names stand for; a name that stands for nothing is OclAny's
abbrev pub type_by : (List ℕ → Option OclType) → TypeDecl → OclType
type_by named t = nested t.kinds (unwrap_or (named t.name.text) T.Any)

abbrev pub type_of : Decls → TypeDecl → OclType
type_of ds t = type_by (named_in ds.enums (ordered ds)) t

-- an enumeration
abbrev pub enumeration : EnumDecl → Enumeration
enumeration e = record { name = e.name.text; literals = map (λ n. n.text) e.literals }

-- a class of a number, given the parents of each class
abbrev pub class_by : List (List ℕ) → ℕ → ClassDecl → Class
class_by parents c d = record { name = d.name.text; is_abstract = d.is_abstract; parents = row_at parents c }

-- an attribute of a class
abbrev pub attribute : (TypeDecl → OclType) → ℕ → AttrDecl → Attribute
attribute typed c a = record { name = a.name.text; of_type = typed a.of_type; class = c }

-- the stored or the derived attributes of a class
abbrev pub stored_in : (TypeDecl → OclType) → ℕ → ClassDecl → List Attribute
stored_in typed c d = map (attribute typed c) (filter (λ a. not a.is_derived) d.attrs)

abbrev pub derived_in : (TypeDecl → OclType) → ℕ → ClassDecl → List Attribute
derived_in typed c d = map (attribute typed c) (filter (λ a. a.is_derived) d.attrs)

-- an operation of a class
abbrev pub parameter : (TypeDecl → OclType) → ParamDecl → Parameter
parameter typed p = record { name = p.name.text; of_type = typed p.of_type }

abbrev pub operation : (TypeDecl → OclType) → ℕ → OpDecl → Operation
operation typed c op = record {
  name = op.name.text;
  params = map (parameter typed) op.params;
  result_type = option_map typed op.result_type;
  class = c;
  body = op.body;
}

abbrev pub operations_in : (TypeDecl → OclType) → ℕ → ClassDecl → List Operation
operations_in typed c d = map (operation typed c) d.ops

-- a multiplicity: its parts, and how they are written, joined by commas
abbrev pub span : MultPart → Span
span p = record { low = p.low; high = p.high }

abbrev pub multiplicity : List MultPart → Multiplicity
multiplicity parts = record { spans = map span parts; spec = join_with_byte 44 (map (λ p. p.text) parts) }

-- the number of the class of a name; 0 for a name that is no class's
abbrev pub class_number : List ClassDecl → List ℕ → ℕ
class_number classes text = unwrap_or (position_from (λ d. same_text d.name.text text) 0 classes) 0

-- an association
abbrev pub end : (List ℕ → ℕ) → EndDecl → AssociationEnd
end number e = record { class = number e.class.text; role = e.role.text; is_ordered = e.is_ordered; multiplicity = multiplicity e.parts }

abbrev pub association : (List ℕ → ℕ) → AssocDecl → Association
association number a = record { name = a.name.text; first = end number a.first; second = end number a.second }

-- the model that classes in the order of their numbers give
abbrev pub model_by : Decls → List ClassDecl → List (List ℕ) → (TypeDecl → OclType) → (List ℕ → ℕ) → ObjectModel
model_by ds classes parents typed number = record {
  name = ds.name.text;
  enums = map enumeration ds.enums;
  classes = map (λ p. class_by parents p.0 p.1) (enumerate_from 0 classes);
  attrs = numbered (stored_in typed) classes;
  derived = numbered (derived_in typed) classes;
  ops = numbered (operations_in typed) classes;
  assocs = map (association number) ds.assocs;
}

-- the model that declarations give: classes by number, enumerations and associations in the order of the text, and what classes declare
-- class by class in the order of their numbers, and within a class in the order of the text
abbrev pub model_of : Decls → ObjectModel
model_of ds = model_by ds (ordered ds) (parent_numbers ds) (type_of ds) (class_number (ordered ds))
