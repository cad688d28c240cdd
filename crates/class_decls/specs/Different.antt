-- Names that are told apart by their texts alone.
use Rattle.std.specs.Prelude.{ℕ, Bool, true, not, ◌&&◌, List, [], ◌∷◌, ◌++◌, map}
use Rattle.std.specs.List.{list_all}
use Rattle.class_decls.specs.declared.decls.Decls.{Decls}
use Rattle.class_decls.specs.declared.decls.OpDecl.{OpDecl}
use Rattle.class_decls.specs.Names.{heads}
use Rattle.class_decls.specs.Texts.{bound_names, has_text, plain_types}

-- whether no two of some texts are the same
abbrev pub all_differ : List (List ℕ) → Bool
all_differ [] = true
all_differ (t ∷ ts) = not (has_text ts t) && all_differ ts

abbrev pub type_texts : Decls → List (List ℕ)
type_texts ds = plain_types ++ map (λ e. e.name.text) ds.enums ++ map (λ c. c.name.text) ds.classes ++ map (λ a. a.name.text) ds.assocs

abbrev pub param_texts : OpDecl → List (List ℕ)
param_texts op = bound_names ++ map (λ p. p.name.text) op.params

-- whether the types, the literals of each enumeration, the parameters of each head, and all conditions have different names
abbrev pub names_differ : Decls → Bool
names_differ ds =
    all_differ (type_texts ds)
    && list_all (λ e. all_differ (map (λ l. l.text) e.literals)) ds.enums
    && list_all (λ op. all_differ (param_texts op)) (heads ds)
    && all_differ (map (λ c. c.name.text) ds.conds)
