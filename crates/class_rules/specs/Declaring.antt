-- Which classes declare an operation, and whether the last of them overrides the others.
use Rattle.std.specs.Prelude.{ℕ, Bool, not, ◌&&◌, if◌then◌else◌, nat_lt, List, [], ◌∷◌}
use Rattle.std.specs.List.{flat_map, list_all}
use Rattle.std.specs.Option.{option_map_or}
use Rattle.class_decls.specs.declared.decls.Decls.{Decls}
use Rattle.class_decls.specs.declared.decls.OpDecl.{OpDecl}
use Rattle.class_decls.specs.Texts.{same_text}
use Rattle.class_rules.specs.Ancestors.{ancestors, class_numbered}
use Rattle.class_rules.specs.Numbering.{is_among}

-- the operations that the class of a number declares
abbrev pub ops_numbered : Decls → ℕ → List OpDecl
ops_numbered ds n = option_map_or (λ c. c.ops) (class_numbered ds n) []

-- a number, as often as there is an operation of a name
abbrev pub times_declared : ℕ → List ℕ → List OpDecl → List ℕ
times_declared n name ops = flat_map (λ op. if same_text op.name.text name then n ∷ [] else []) ops

-- those of some classes that declare an operation
abbrev pub declaring : Decls → List ℕ → List ℕ → List ℕ
declaring ds numbers name = flat_map (λ n. times_declared n name (ops_numbered ds n)) numbers

-- a class is the last of those that declare an operation, and they are not all among its ancestors
abbrev pub is_disputed : List (List ℕ) → List ℕ → ℕ → Bool
is_disputed parents numbers n = list_all (λ d. not (nat_lt n d)) numbers && not (list_all (is_among (ancestors parents n)) numbers)
