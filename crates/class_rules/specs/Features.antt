-- The attributes, roles and operations that a class has, its inherited ones included.
use Rattle.std.specs.Prelude.{ℕ, Bool, ◌||◌, if◌then◌else◌, List, [], ◌∷◌, ◌++◌, map}
use Rattle.std.specs.List.{flat_map, list_any}
use Rattle.std.specs.Ordering.{nat_cmp}
use Rattle.std.specs.Cmp.Lexicographic.{slice_cmp}
use Rattle.use_orders.specs.Canon.{set_of}
use Rattle.class_decls.specs.declared.decls.AssocDecl.{AssocDecl}
use Rattle.class_decls.specs.declared.decls.ClassDecl.{ClassDecl}
use Rattle.class_decls.specs.Texts.{has_text, repeats, same_text}

-- the names of the attributes that classes declare
abbrev pub attrs_of : List ClassDecl → List (List ℕ)
attrs_of classes = flat_map (λ c. map (λ a. a.name.text) c.attrs) classes

-- the roles at the other ends of an association for what takes part in it as the class of a name
abbrev pub roles_at : AssocDecl → List ℕ → List (List ℕ)
roles_at a name =
    (if same_text a.first.class.text name then a.second.role.text ∷ [] else [])
    ++ (if same_text a.second.class.text name then a.first.role.text ∷ [] else [])

-- the roles at the other ends of all associations for the class of a name
abbrev pub roles_of_class : List AssocDecl → List ℕ → List (List ℕ)
roles_of_class assocs name = flat_map (λ a. roles_at a name) assocs

abbrev pub roles_of : List AssocDecl → List ClassDecl → List (List ℕ)
roles_of assocs classes = flat_map (λ c. roles_of_class assocs c.name.text) classes

-- whether two lists have a text in common
abbrev pub meet : List (List ℕ) → List (List ℕ) → Bool
meet xs ys = list_any (has_text ys) xs

-- whether a role is named as another role or an attribute
abbrev pub has_role_clash : List AssocDecl → List ClassDecl → Bool
has_role_clash assocs classes = repeats (roles_of assocs classes) || meet (roles_of assocs classes) (attrs_of classes)

-- the names of the operations that classes declare, each once
abbrev pub ops_of : List ClassDecl → List (List ℕ)
ops_of classes = set_of (slice_cmp nat_cmp) (flat_map (λ c. map (λ op. op.name.text) c.ops) classes)
