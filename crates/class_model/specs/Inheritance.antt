-- Classes and their ancestors.
use Rattle.std.specs.Prelude.{ℕ, Bool, List, map}
use Rattle.class_rules.specs.Ancestors as above
use Rattle.class_rules.specs.Numbering.{is_among}
use Rattle.class_model.specs.declared.object_model.ObjectModel.{ObjectModel}

-- the direct parents of each class
abbrev pub parents_of : ObjectModel → List (List ℕ)
parents_of m = map (λ c. c.parents) m.classes

-- a class and its ancestors, in the order of their numbers, so that ancestors stand first
abbrev pub ancestors : ObjectModel → ℕ → List ℕ
ancestors m c = above.ancestors (parents_of m) c

-- whether a class is another or inherits from it
abbrev pub is_a : ObjectModel → ℕ → ℕ → Bool
is_a m c d = is_among (ancestors m c) d

-- each class has parents of smaller numbers
abbrev pub IsAcyclic : ObjectModel → Type 0
IsAcyclic m = above.IsDownward (parents_of m)
