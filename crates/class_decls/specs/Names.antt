-- The names that a model declares, each in its space.
use Rattle.std.specs.Prelude.{ℕ, List, [], ◌++◌, map, slice_get, Option, Some, None}
use Rattle.std.specs.List.{enumerate_from, flat_map}
use Rattle.std.specs.Option.{option_map_or}
use Rattle.use_text.specs.Places.{place_at}
use Rattle.use_text.specs.declared.place.Place.{Place}
use Rattle.class_decls.specs.declared.decls.Name.{Name}
use Rattle.class_decls.specs.declared.decls.Decls.{Decls}
use Rattle.class_decls.specs.declared.decls.OpDecl.{OpDecl}
use Rattle.class_decls.specs.declared.decls.OpOf.{OpOf}
use Rattle.class_decls.specs.declared.decls.OpOf.TheVariants.{Here, Named}
use Rattle.class_decls.specs.declared.decls.CondKind.{CondKind}
use Rattle.class_decls.specs.declared.decls.CondKind.TheVariants.{Inv, Pre, Post}
use Rattle.class_decls.specs.declared.entry.Space.{Space}
use Rattle.class_decls.specs.declared.entry.Space.TheVariants as s
use Rattle.class_decls.specs.declared.entry.Entry.{Entry}
use Rattle.class_decls.specs.Texts.{bound_names, plain_types}
use Rattle.class_decls.specs.Entries.{declared_again}

abbrev pub entry : Space → Name → Entry
entry space name = record { space = space; text = name.text; place = name.place }

-- a name that is there before the text
abbrev pub given : Space → List ℕ → Entry
given space text = record { space = space; text = text; place = place_at 0 0 }

-- what f makes of each element and its number
abbrev pub numbered : {A B : Type 0} → (ℕ → A → List B) → List A → List B
numbered f xs = flat_map (λ p. f p.0 p.1) (enumerate_from 0 xs)

-- enumerations, classes, associations and the plain types share one space
abbrev pub type_entries : Decls → List Entry
type_entries ds =
    map (given s.Types) plain_types
    ++ map (λ e. entry s.Types e.name) ds.enums
    ++ map (λ c. entry s.Types c.name) ds.classes
    ++ map (λ a. entry s.Types a.name) ds.assocs

abbrev pub literal_entries : Decls → List Entry
literal_entries ds = numbered (λ i e. map (entry (s.Literals i)) e.literals) ds.enums

-- the operation of a contract
abbrev pub op_of : CondKind → Option OpOf
op_of Inv = None
op_of (Pre op) = Some op
op_of (Post op) = Some op

-- the head that a contract's context names, of those that contexts name; past their list there is none
abbrev pub head_of_op : List OpDecl → OpOf → Option OpDecl
head_of_op context_heads (Here name) = None
head_of_op context_heads (Named at) = slice_get context_heads at

abbrev pub head_in : List OpDecl → CondKind → Option OpDecl
head_in context_heads Inv = None
head_in context_heads (Pre op) = head_of_op context_heads op
head_in context_heads (Post op) = head_of_op context_heads op

-- the heads of operations: those of classes, and those of contexts
abbrev pub heads : Decls → List OpDecl
heads ds = flat_map (λ c. c.ops) ds.classes ++ ds.context_heads

abbrev pub params_of : ℕ → OpDecl → List Entry
params_of i op = map (given (s.Parameters i)) bound_names ++ map (λ p. entry (s.Parameters i) p.name) op.params

abbrev pub param_entries : Decls → List Entry
param_entries ds = numbered params_of (heads ds)

-- the name of a contract's operation, where contexts name some heads; past their list it is empty
abbrev pub op_text : List OpDecl → OpOf → List ℕ
op_text context_heads (Here name) = name.text
op_text context_heads (Named at) = option_map_or (λ head. head.name.text) (slice_get context_heads at) []

-- the invariants of a class have a space, and so have the contracts of an operation, preconditions and postconditions together
abbrev pub cond_space : List OpDecl → List ℕ → CondKind → Space
cond_space context_heads class Inv = s.Invariants class
cond_space context_heads class (Pre op) = s.Contracts class (op_text context_heads op)
cond_space context_heads class (Post op) = s.Contracts class (op_text context_heads op)

abbrev pub cond_entries : Decls → List Entry
cond_entries ds = map (λ c. entry (cond_space ds.context_heads c.class.text c.kind) c.name) ds.conds

-- M1: name is declared twice
abbrev pub name_declared_twice : Decls → Option Place
name_declared_twice ds = declared_again (type_entries ds ++ literal_entries ds ++ param_entries ds ++ cond_entries ds)

-- M3: parent is named twice
abbrev pub parent_named_twice : Decls → Option Place
parent_named_twice ds = declared_again (numbered (λ i c. map (entry (s.Parents i)) c.parents) ds.classes)

-- M7: operation is declared twice
abbrev pub operation_declared_twice : Decls → Option Place
operation_declared_twice ds = declared_again (numbered (λ i c. map (λ op. entry (s.Operations i) op.name) c.ops) ds.classes)
