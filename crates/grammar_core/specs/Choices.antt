-- What a choice leads to by the kind of the next token, as lists of cells, one for each kind.
use Rattle.std.specs.Prelude.{◌≡◌, ◌<◌, ℕ, if◌then◌else◌, List, [], ◌∷◌, length, Option, Some, None, slice_get}
use Rattle.grammar_core.specs.declared.table.Prod.{Prod}
use Rattle.grammar_core.specs.declared.table.Prod.TheVariants.{Tok, Call, Seq, Case, Star}
use Rattle.grammar_core.specs.Derives.{begins, branch_of}

-- the production of a choice that goes on at a place: that of its branch, or the one that is read once more
abbrev pub choice : List ℕ → ℕ → Prod → Option ℕ
choice ks at (Tok k) = None
choice ks at (Call r) = None
choice ks at (Seq ps) = None
choice ks at (Case bs other) = branch_of ks at bs other
choice ks at (Star firsts q) = if begins ks at firsts then Some q else None

-- each cell has what the choice leads to at its kind; kinds past the last cell are not told
abbrev pub IsByKind : Prod → List (Option ℕ) → Type 0
IsByKind x cells = (k : ℕ) → k < length cells → slice_get cells k ≡ Some (choice (k ∷ []) 0 x)

-- the cells of each production
abbrev pub AreByKind : List Prod → List (List (Option ℕ)) → Type 0
AreByKind xs all = (p : ℕ) (x : Prod) (cells : List (Option ℕ)) → slice_get xs p ≡ Some x → slice_get all p ≡ Some cells → IsByKind x cells
