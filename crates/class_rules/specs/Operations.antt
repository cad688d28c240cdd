-- Operations that override others.
use Rattle.std.specs.Prelude.{ℕ, Bool, true, false, not, ◌&&◌, ◌||◌, if◌then◌else◌, List, [], ◌∷◌, Option, Some, None, slice_get, count_by, filter}
use Rattle.std.specs.List.{filter_map, flat_map, list_all, list_any}
use Rattle.std.specs.Option.{option_and_then, option_eq, option_map_or}
use Rattle.std.specs.Cmp.Lexicographic.{pointwise}
use Rattle.ocl_values.specs.contracts.value.KindPartialEq.TheImpl.{ghosts as kind_ghosts}
use Rattle.use_text.specs.declared.place.Place.{Place}
use Rattle.class_rules.specs.declared.clash.Clash.{Clash}
use Rattle.class_rules.specs.declared.clash.Clash.TheVariants as r
use Rattle.class_decls.specs.declared.decls.BodyKind.{BodyKind}
use Rattle.class_decls.specs.declared.decls.BodyKind.TheVariants.{Query, Soil}
use Rattle.class_decls.specs.declared.decls.ClassDecl.{ClassDecl}
use Rattle.class_decls.specs.declared.decls.CondDecl.{CondDecl}
use Rattle.class_decls.specs.declared.decls.Decls.{Decls}
use Rattle.class_decls.specs.declared.decls.OpDecl.{OpDecl}
use Rattle.class_decls.specs.declared.decls.TypeDecl.{TypeDecl}
use Rattle.class_decls.specs.Texts.{first_given, same_text}
use Rattle.class_decls.specs.Names.{head_in, op_of, op_text}
use Rattle.class_rules.specs.Numbering.{class_at, is_among}
use Rattle.class_rules.specs.Ancestors.{ancestors, class_numbered, parent_numbers}

-- two types are written alike
abbrev pub same_type : TypeDecl → TypeDecl → Bool
same_type a b = pointwise kind_ghosts.eq a.kinds b.kinds && same_text a.name.text b.name.text

-- two heads take parameters of the same types, and give results of the same type
abbrev pub same_signature : OpDecl → OpDecl → Bool
same_signature a b = pointwise (λ p q. same_type p.of_type q.of_type) a.params b.params && option_eq same_type a.result_type b.result_type

-- one is a query and the other has statements
abbrev pub mixes : BodyKind → BodyKind → Bool
mixes Query Soil = true
mixes Soil Query = true
mixes _ _ = false

-- how an operation may clash with one that it overrides
abbrev pub clash : Clash → OpDecl → OpDecl → Bool
clash r.Signature op other = not (same_signature op other)
clash r.Bodies op other = mixes op.body other.body

-- the operations of a name
abbrev pub ops_named : List ℕ → List OpDecl → List OpDecl
ops_named text ops = filter (λ op. same_text op.name.text text) ops

-- whether one of some classes declares an operation of its name with which it clashes
abbrev pub clashes_above : Clash → List ClassDecl → OpDecl → Bool
clashes_above kind classes op = list_any (λ c. list_any (λ other. same_text other.name.text op.name.text && clash kind op other) c.ops) classes

-- whether the class of a number declares an operation of a name
abbrev pub declares_op : Decls → List ℕ → ℕ → Bool
declares_op ds text c = option_map_or (λ d. list_any (λ op. same_text op.name.text text) d.ops) (class_numbered ds c) false

-- a class declares an operation, and has among its ancestors all others of some classes that declare it
abbrev pub overrides_all : Decls → List ℕ → List ℕ → ℕ → Bool
overrides_all ds classes text c =
    declares_op ds text c && list_all (λ d. not (declares_op ds text d) || is_among (ancestors (parent_numbers ds) c) d) classes

abbrev pub has_overriding : Decls → List ℕ → List ℕ → Bool
has_overriding ds classes text = list_any (overrides_all ds classes text) classes

-- whether no declaration of an operation of some classes overrides all others of its name
abbrev pub is_ambiguous : Decls → List ℕ → Bool
is_ambiguous ds classes = list_any (λ c. list_any (λ op. not (has_overriding ds classes op.name.text)) c.ops) (filter_map (class_numbered ds) classes)

-- whether a condition is a contract of the operation of a name
abbrev pub is_contract_of : Decls → List ℕ → CondDecl → Bool
is_contract_of ds text c = option_map_or (λ op. same_text (op_text ds.context_heads op) text) (op_of c.kind) false

-- the contracts of an operation, those of the declarations that it overrides included
abbrev pub contract_count : Decls → List ClassDecl → OpDecl → ℕ
contract_count ds classes op = count_by (λ c. is_contract_of ds op.name.text c && list_any (λ d. same_text d.name.text c.class.text) classes) ds.conds

-- the classes in whose contexts the contracts of the operations of a name stand
abbrev pub contract_classes : Decls → List ℕ → List (List ℕ)
contract_classes ds text = flat_map (λ c. if is_contract_of ds text c then c.class.text ∷ [] else []) ds.conds

-- whether the class of a name declares an operation of this head's name and types
abbrev pub declares_head : Decls → List ℕ → OpDecl → Bool
declares_head ds class head =
    option_map_or (λ c. list_any (λ op. same_text op.name.text head.name.text && same_signature op head) c.ops)
    (option_and_then (slice_get ds.classes) (class_at ds class)) false

-- where a context names a head that its class does not declare
abbrev pub undeclared_head : Decls → CondDecl → Option Place
undeclared_head ds cond =
    option_and_then (λ head. if declares_head ds cond.class.text head then None else Some head.name.place) (head_in ds.context_heads cond.kind)

-- M12: no such operation
abbrev pub no_such_operation : Decls → Option Place
no_such_operation ds = first_given (undeclared_head ds) ds.conds
