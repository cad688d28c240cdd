-- A certificate that a table is fit, which computes in one pass: a rank for each production, and marks of those that may derive no token.
use Rattle.std.specs.Prelude.{ℕ, suc, Bool, true, not, ◌&&◌, ◌||◌, List, [], ◌∷◌, nat_lt, slice_index}
use Rattle.grammar_core.specs.declared.table.Table.{Table}
use Rattle.grammar_core.specs.declared.table.Prod.{Prod}
use Rattle.grammar_core.specs.Paths.{is_marked}
use Rattle.grammar_core.specs.Empty.{empty_by}
use Rattle.grammar_core.specs.Tables.{next_prods}
use Rattle.grammar_core.specs.Checks.{outside_by, empty_body_by}

-- each of these has a rank below n
abbrev pub all_below : List ℕ → ℕ → List ℕ → Bool
all_below ranks n [] = true
all_below ranks n (q ∷ qs) = nat_lt (slice_index ranks q) n && all_below ranks n qs

-- the production at p: its numbers are in the table, its parts and calls have smaller ranks, the body of a Star is not
-- marked, and it is marked itself where its parts say so
abbrev pub is_certified : Table → List ℕ → List Bool → ℕ → Prod → Bool
is_certified g ranks seen p x =
    not (outside_by g x) && all_below ranks (slice_index ranks p) (next_prods true g x) && not (empty_body_by seen x) && (not (empty_by g.rules seen x)
    || is_marked seen p)

-- these productions, the first of which is at p
abbrev pub are_certified : Table → List ℕ → List Bool → ℕ → List Prod → Bool
are_certified g ranks seen p [] = true
are_certified g ranks seen p (x ∷ xs) = is_certified g ranks seen p x && are_certified g ranks seen (suc p) xs
