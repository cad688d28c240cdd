-- A code for parse trees: a row is the list of its nodes, each with what it holds.
use Rattle.std.specs.Prelude.{◌≡◌, ℕ, zero, suc, ◌≤◌, List, [], ◌∷◌, ◌++◌, length, refl}
use Rattle.std.specs.Coded.{Coded, code_by, coded_ℕ, coded_list}
use Rattle.std.proofs.Common.{ap, ap₂, sym, ◌∙◌, arith, append_assoc, append-nil}
use Rattle.std.proofs.lemmas.List.{length-append}
use Rattle.grammar_core.specs.Trees.{Row, ParseTree, leaf, node, onto}

abbrev pub stored_row : Row → List ℕ
stored_row Row.none = 0 ∷ []
stored_row (Row.token k at row) = 1 ∷ k ∷ at ∷ stored_row row
stored_row (Row.rule r below row) = 2 ∷ r ∷ stored_row below ++ stored_row row

-- a row that stands at the front of a list, and what stands behind it
abbrev pub row_in : ℕ → List ℕ → Row × List ℕ
row_in zero xs = (Row.none, xs)
row_in (suc n) (suc zero ∷ k ∷ at ∷ xs) = (Row.token k at (row_in n xs).0, (row_in n xs).1)
row_in (suc n) (suc (suc m) ∷ r ∷ xs) = (Row.rule r (row_in n xs).0 (row_in n (row_in n xs).1).0, (row_in n (row_in n xs).1).1)
row_in (suc n) (x ∷ xs) = (Row.none, xs)
row_in (suc n) [] = (Row.none, [])

abbrev pub first_tree : Row → ParseTree
first_tree Row.none = leaf 0 0
first_tree (Row.token k at row) = leaf k at
first_tree (Row.rule r below row) = node r below

abbrev pub stored_tree : ParseTree → List ℕ
stored_tree t = stored_row (onto t Row.none)

abbrev pub tree_in : List ℕ → ParseTree
tree_in xs = first_tree (row_in (length xs) xs).0

pub row_back : (n : ℕ) (row : Row) (xs : List ℕ) → length (stored_row row) ≤ n → row_in n (stored_row row ++ xs) ≡ (row, xs)
row_back zero Row.none xs low = absurd (omega (arith, low))
row_back zero (Row.token k at row) xs low = absurd (omega (arith, low))
row_back zero (Row.rule r below row) xs low = absurd (omega (arith, low))
row_back (suc n) Row.none xs low = refl
row_back (suc n) (Row.token k at row) xs low = ap (λ (p : Row × List ℕ). (Row.token k at p.0, p.1)) (row_back n row xs (omega (arith, low)))
row_back (suc n) (Row.rule r below row) xs low =
    let sum = length-append (stored_row below) (stored_row row) in
    let inner = row_back n below (stored_row row ++ xs) (omega (arith, low, sum)) in
    let front = ap (λ (l : List ℕ). row_in n l) (append_assoc (stored_row below) (stored_row row) xs) ∙ inner in
    let behind = ap (λ (p : Row × List ℕ). row_in n p.1) front ∙ row_back n row xs (omega (arith, low, sum)) in
    ap₂ (λ (p q : Row × List ℕ). (Row.rule r p.0 q.0, q.1)) front behind

pub first_onto : (t : ParseTree) → first_tree (onto t Row.none) ≡ t
first_onto (leaf k at) = refl
first_onto (node r below) = refl

pub tree_back : (t : ParseTree) → tree_in (stored_tree t) ≡ t
tree_back t = here t (row_back (length (stored_tree t)) (onto t Row.none) [] (omega arith))
  where
    here : (t : ParseTree) → row_in (length (stored_tree t)) (stored_tree t ++ []) ≡ (onto t Row.none, []) → tree_in (stored_tree t) ≡ t
    here t e = ap (λ (l : List ℕ). first_tree (row_in (length (stored_tree t)) l).0) (sym (append-nil (stored_tree t))) ∙ ap (λ (p : Row
        × List ℕ). first_tree p.0) e ∙ first_onto t

abbrev pub tree_code : Coded ParseTree
tree_code = code_by (List ℕ) (coded_list coded_ℕ) stored_tree tree_in tree_back
