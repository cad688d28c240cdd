-- Parse trees.
use Rattle.std.specs.Prelude.{ℕ, List, [], ◌∷◌, ◌++◌, Option, Some, None, suc}

-- a row of trees, from left to right
pub data Row : Type 0 where
  none : Row
  -- a token of a kind, at a place of the list, and the rest of the row
  token : ℕ → ℕ → Row → Row
  -- a rule by its number, the row below it, and the rest of the row
  rule : ℕ → Row → Row → Row

-- a tree: a token of a kind, at a place of the list, or a rule over a row
pub data ParseTree : Type 0 where
  leaf : ℕ → ℕ → ParseTree
  node : ℕ → Row → ParseTree

abbrev pub onto : ParseTree → Row → Row
onto (leaf k at) row = Row.token k at row
onto (node r below) row = Row.rule r below row

abbrev pub row_of : List ParseTree → Row
row_of [] = Row.none
row_of (t ∷ ts) = onto t (row_of ts)

abbrev pub trees_of : Row → List ParseTree
trees_of Row.none = []
trees_of (Row.token k at row) = leaf k at ∷ trees_of row
trees_of (Row.rule r below row) = node r below ∷ trees_of row

-- the trees below a tree
abbrev pub below : ParseTree → List ParseTree
below (leaf k at) = []
below (node r row) = trees_of row

-- the kind of a token, or the number of a rule
abbrev pub kind_of : ParseTree → ℕ
kind_of (leaf k at) = k
kind_of (node r row) = r

-- the place of a token
abbrev pub place_of : ParseTree → Option ℕ
place_of (leaf k at) = Some at
place_of (node r row) = None

-- the leaves of a row, from left to right: the kind and the place of each token
abbrev pub row_leaves : Row → List (ℕ × ℕ)
row_leaves Row.none = []
row_leaves (Row.token k at row) = (k, at) ∷ row_leaves row
row_leaves (Row.rule r below row) = row_leaves below ++ row_leaves row

abbrev pub leaves : ParseTree → List (ℕ × ℕ)
leaves (leaf k at) = (k, at) ∷ []
leaves (node r row) = row_leaves row

-- kinds with their places, the first of which is i
abbrev pub numbered : ℕ → List ℕ → List (ℕ × ℕ)
numbered i [] = []
numbered i (k ∷ ks) = (k, i) ∷ numbered (suc i) ks
