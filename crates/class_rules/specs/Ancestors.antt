-- Classes by number, and their ancestors.
use Rattle.std.specs.Prelude.{◌≡◌, ℕ, zero, suc, ◌<◌, Bool, true, nat_eq, nat_lt, List, [], ◌∷◌, map, filter, Option, None, slice_get, slice_index_or, unwrap_or}
use Rattle.std.specs.List.{AllByRecursion, filter_map, flat_map, position_from}
use Rattle.std.specs.Option.{option_and_then, option_map_or}
use Rattle.std.specs.Ordering.{nat_cmp}
use Rattle.use_orders.specs.Canon.{set_of}
use Rattle.class_decls.specs.declared.decls.ClassDecl.{ClassDecl}
use Rattle.class_decls.specs.declared.decls.Decls.{Decls}
use Rattle.class_rules.specs.Numbering.{is_among, numbering, parent_places, row_at}

-- the number of the class at a place
abbrev pub number_at : Decls → ℕ → Option ℕ
number_at ds i = position_from (nat_eq i) 0 (numbering (parent_places ds))

-- the parents of each class, all by number
abbrev pub parent_numbers : Decls → List (List ℕ)
parent_numbers ds = map (λ i. filter_map (number_at ds) (row_at (parent_places ds) i)) (numbering (parent_places ds))

-- a class, and what is above it along so many steps
abbrev pub upward : List (List ℕ) → ℕ → ℕ → List ℕ
upward parents zero c = []
upward parents (suc n) c = c ∷ flat_map (upward parents n) (row_at parents c)

-- a class and its ancestors, by number; parents have smaller numbers, so no way up has more steps than the class's number
abbrev pub ancestors : List (List ℕ) → ℕ → List ℕ
ancestors parents c = set_of nat_cmp (upward parents (suc c) c)

-- with each class that it holds, a set holds its parents
abbrev pub HoldsParents : List (List ℕ) → (ℕ → Bool) → Type 0
HoldsParents parents held = (d : ℕ) → held d ≡ true → AllByRecursion (λ p. held p ≡ true) (row_at parents d)

-- the least set that holds a class and the parents of its members
pub record IsLeastAbove (parents : List (List ℕ)) (c : ℕ) (above : List ℕ) : Type 0 where
  pub class : is_among above c ≡ true
  pub parents_too : HoldsParents parents (is_among above)
  pub least : (held : ℕ → Bool) → held c ≡ true → HoldsParents parents held → (d : ℕ) → is_among above d ≡ true → held d ≡ true

-- each parent has a smaller number
abbrev pub IsDownward : List (List ℕ) → Type 0
IsDownward parents = (c : ℕ) → AllByRecursion (λ p. p < c) (row_at parents c)

-- what is kept of the classes of declarations: their places by number, the number at each place, and parents by number
pub record IsHierarchyOf (ds : Decls) (order : List ℕ) (numbers : List (Option ℕ)) (parents : List (List ℕ)) : Type 0 where
  pub in_order : order ≡ numbering (parent_places ds)
  pub numbered : (i : ℕ) → slice_index_or numbers i None ≡ number_at ds i
  pub parented : parents ≡ parent_numbers ds

-- the class of a number
abbrev pub class_numbered : Decls → ℕ → Option ClassDecl
class_numbered ds c = option_and_then (slice_get ds.classes) (slice_get (numbering (parent_places ds)) c)

-- the numbers of a class and its ancestors, where the class stands at a place
abbrev pub ancestor_numbers : Decls → ℕ → List ℕ
ancestor_numbers ds i = option_map_or (ancestors (parent_numbers ds)) (number_at ds i) []

-- a class and its ancestors, where the class stands at a place
abbrev pub above : Decls → ℕ → List ClassDecl
above ds i = filter_map (class_numbered ds) (ancestor_numbers ds i)

-- its ancestors alone
abbrev pub properly_above : Decls → ℕ → List ClassDecl
properly_above ds i = filter_map (class_numbered ds) (filter (λ c. nat_lt c (unwrap_or (number_at ds i) 0)) (ancestor_numbers ds i))
