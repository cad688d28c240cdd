-- The names by which a model's declarations speak of its classes and types.
use Rattle.std.specs.Prelude.{ℕ, Bool, not, ◌||◌, List, [], ◌∷◌, ◌++◌, map, filter, Option}
use Rattle.std.specs.List.{flat_map, list_any}
use Rattle.std.specs.Option.{option_to_list}
use Rattle.use_text.specs.declared.place.Place.{Place}
use Rattle.class_decls.specs.declared.decls.AssocDecl.{AssocDecl}
use Rattle.class_decls.specs.declared.decls.ClassDecl.{ClassDecl}
use Rattle.class_decls.specs.declared.decls.Name.{Name}
use Rattle.class_decls.specs.declared.decls.OpDecl.{OpDecl}
use Rattle.class_decls.specs.declared.decls.Decls.{Decls}
use Rattle.class_decls.specs.Texts.{is_plain_type, same_text}
use Rattle.class_decls.specs.Entries.{first_place}
use Rattle.class_decls.specs.Names.{heads}

abbrev pub end_classes : AssocDecl → List Name
end_classes a = a.first.class ∷ a.second.class ∷ []

-- parents, the classes of ends and those of conditions
abbrev pub class_references : Decls → List Name
class_references ds =
    flat_map (λ c. c.parents) ds.classes
    ++ flat_map end_classes ds.assocs
    ++ map (λ c. c.class) ds.conds

-- the names in the types of a head
abbrev pub head_types : OpDecl → List Name
head_types op = map (λ p. p.of_type.name) op.params ++ map (λ t. t.name) (option_to_list op.result_type)

abbrev pub attr_types : ClassDecl → List Name
attr_types c = map (λ a. a.of_type.name) c.attrs

-- the names in the types of attributes, parameters and results
abbrev pub type_references : Decls → List Name
type_references ds = flat_map attr_types ds.classes ++ flat_map head_types (heads ds)

abbrev pub is_class : Decls → List ℕ → Bool
is_class ds text = list_any (λ c. same_text c.name.text text) ds.classes

abbrev pub is_enum : Decls → List ℕ → Bool
is_enum ds text = list_any (λ e. same_text e.name.text text) ds.enums

abbrev pub is_type : Decls → List ℕ → Bool
is_type ds text = is_plain_type text || is_enum ds text || is_class ds text

-- the places of names that are not among some texts
abbrev pub places_outside : (List ℕ → Bool) → List Name → List Place
places_outside known names = map (λ n. n.place) (filter (λ n. not (known n.text)) names)

-- M2: unknown class or type
abbrev pub unknown_type : Decls → Option Place
unknown_type ds = first_place (places_outside (is_class ds) (class_references ds) ++ places_outside (is_type ds) (type_references ds))
