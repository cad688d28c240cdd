-- Operations of one name that agree.
use Rattle.std.specs.Prelude.{ℕ, Bool, true, false, List, filter, map, slice_get}
use Rattle.std.specs.List.{flat_map, list_all, position_from}
use Rattle.std.specs.Cmp.Lexicographic.{slice_cmp}
use Rattle.std.specs.Ordering.{nat_cmp}
use Rattle.std.specs.Option.{option_and_then, option_map_or}
use Rattle.use_orders.specs.Canon.{has_none}
use Rattle.class_decls.specs.declared.decls.BodyKind.{BodyKind}
use Rattle.class_decls.specs.declared.decls.BodyKind.TheVariants.{Query, Soil}
use Rattle.class_decls.specs.declared.decls.ClassDecl.{ClassDecl}
use Rattle.class_decls.specs.declared.decls.OpDecl.{OpDecl}
use Rattle.class_decls.specs.Texts.{same_text}
use Rattle.class_rules.specs.Operations.{same_signature}

-- all operations that classes declare
abbrev pub all_ops : List ClassDecl → List OpDecl
all_ops classes = flat_map (λ c. c.ops) classes

-- an operation has the signature of the first of its name
abbrev pub is_as_first : List OpDecl → OpDecl → Bool
is_as_first ops op =
    option_map_or (λ first. same_signature first op)
    (option_and_then (slice_get ops) (position_from (λ other. same_text other.name.text op.name.text) 0 ops)) false

-- all operations of one name have the same signature
abbrev pub signatures_agree : List OpDecl → Bool
signatures_agree ops = list_all (is_as_first ops) ops

abbrev pub is_query : BodyKind → Bool
is_query Query = true
is_query _ = false

abbrev pub is_soil : BodyKind → Bool
is_soil Soil = true
is_soil _ = false

-- the names of the operations whose body passes a test
abbrev pub names_with : (BodyKind → Bool) → List OpDecl → List (List ℕ)
names_with test ops = map (λ op. op.name.text) (filter (λ op. test op.body) ops)

-- no name is that of a query and of an operation with statements
abbrev pub bodies_agree : List OpDecl → Bool
bodies_agree ops = has_none (slice_cmp nat_cmp) (names_with is_query ops) (names_with is_soil ops)
