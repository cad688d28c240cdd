-- Names that more than one class declares.
use Rattle.std.specs.Prelude.{◌≡◌, ◌<◌, ◌&&◌, ℕ, Bool, true, false, not, if◌then◌else◌, nat_eq, List, [], ◌++◌, fold, length, map, slice_index_or}
use Rattle.std.specs.BTreeMap.{BTreeMap}
use Rattle.std.specs.Cmp.Lexicographic.{slice_cmp}
use Rattle.std.specs.List.{list_all}
use Rattle.std.specs.Option.{option_map_or}
use Rattle.std.specs.Ordering.{nat_cmp}
use Rattle.use_orders.specs.Canon.{all_differ}
use Rattle.class_decls.specs.declared.decls.ClassDecl.{ClassDecl}
use Rattle.class_decls.specs.declared.decls.Decls.{Decls}
use Rattle.class_decls.specs.Texts.{has_text}
use Rattle.class_rules.specs.declared.by_class.ClassRule.{ClassRule}
use Rattle.class_rules.specs.declared.by_class.ClassRule.TheVariants as r
use Rattle.class_rules.specs.declared.sharing.Sharing.{Sharing}
use Rattle.class_rules.specs.declared.sharing.Sharing.TheVariants.{Nothing, Only, Several}
use Rattle.class_rules.specs.Ancestors.{class_numbered, number_at, parent_numbers}
use Rattle.class_rules.specs.Features.{roles_of_class}
use Rattle.class_rules.specs.Groups.{listed}
use Rattle.class_rules.specs.Numbering.{is_among, row_at}

-- the names of a class that a rule compares with those of its ancestors
abbrev pub names_compared : ClassRule → Decls → ClassDecl → List (List ℕ)
names_compared r.AttributeMetTwice ds c = map (λ a. a.name.text) c.attrs
names_compared r.RoleClashes ds c = roles_of_class ds.assocs c.name.text ++ map (λ a. a.name.text) c.attrs
names_compared _ ds c = map (λ op. op.name.text) c.ops

-- those of the class of a number
abbrev pub names_numbered : ClassRule → Decls → ℕ → List (List ℕ)
names_numbered rule ds n = option_map_or (names_compared rule ds) (class_numbered ds n) []

-- under each name, the numbers of the classes that have it
abbrev pub IsByName : ClassRule → Decls → BTreeMap (List ℕ) (List ℕ) → Type 0
IsByName rule ds groups = (t : List ℕ) (n : ℕ) → is_among (listed groups t) n ≡ has_text (names_numbered rule ds n) t

-- whether only the class of a number has some names
abbrev pub are_own : BTreeMap (List ℕ) (List ℕ) → ℕ → List (List ℕ) → Bool
are_own groups n names = list_all (λ t. list_all (nat_eq n) (listed groups t)) names

-- of a class alone, given its names: whether other classes have one of them, or it has one twice
abbrev pub own_sharing : BTreeMap (List ℕ) (List ℕ) → ℕ → List (List ℕ) → Sharing
own_sharing groups n names =
    if all_differ (slice_cmp nat_cmp) names then (if are_own groups n names then Nothing else Only n) else Several

-- of some classes and others together
abbrev pub join : Sharing → Sharing → Sharing
join Nothing b = b
join (Only i) Nothing = Only i
join (Only i) (Only j) = if nat_eq i j then Only i else Several
join (Only i) Several = Several
join Several b = Several

abbrev pub sharing_at : List Sharing → ℕ → Sharing
sharing_at all n = slice_index_or all n Several

-- of a class and its ancestors, given those of its parents
abbrev pub joined : List Sharing → List ℕ → Sharing → Sharing
joined all parents own = fold (λ s p. join s (sharing_at all p)) own parents

-- of each class and its ancestors
abbrev pub AreJoined : ClassRule → Decls → BTreeMap (List ℕ) (List ℕ) → List Sharing → Type 0
AreJoined rule ds groups all =
    (n : ℕ) → n < length all → sharing_at all n ≡ joined all (row_at (parent_numbers ds) n) (own_sharing groups n (names_numbered rule ds n))

abbrev pub is_several : Sharing → Bool
is_several Several = true
is_several _ = false

-- whether a rule is one of names that are compared
abbrev pub compares_names : ClassRule → Bool
compares_names r.TooManyFeatures = false
compares_names r.TooManyContracts = false
compares_names _ = true

-- whether the class at a place may break a rule
abbrev pub may_break : ClassRule → Decls → List Sharing → ℕ → Bool
may_break rule ds all i = not (compares_names rule && not (option_map_or (λ n. is_several (sharing_at all n)) (number_at ds i) false))
